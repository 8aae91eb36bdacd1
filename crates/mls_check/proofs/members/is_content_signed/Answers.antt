use Rattle.std.proofs.Common.{◌≡◌, List, ℕ, Some, sym, ◌∙◌}
use Rattle.mls_nodes.specs.LeafNodeTBS.{tbs_suffix}
use Rattle.mls_check.proofs.Contents.{is_leaf_signed-pieces, no_suffix, place_suffix}
use Rattle.mls_check.proofs.members.is_content_signed.Goals.{in-KeyPackage, in-Update, in-Update-2}
use Rattle.mls_check.proofs.members.is_content_signed.Goals as goal

pub returns : goal.returns
returns g c =
    let x = c.args.leaf.now in
    let group_id = c.args.group_id.now in
    let label_len = rw c.as_bytes-label.ensures.value at c.of-label_len.ensures in
    let group_id_len = rw c.as_slice-group_id.ensures.bytes at c.of-group_id_len.ensures in
    let signed = λ (suffix : List ℕ) (tied : tbs_suffix x.source group_id c.args.index ≡ Some suffix).
    is_leaf_signed-pieces (g.C.SignatureCheck.meaning c.args.checker.now) c.args.suite group_id c.args.index x c.leaf_tbs_len.result c.of-label_len.result c.of-tbs_len.result
    c.unsigned.result.now suffix c.leaf_tbs_len.ensures.length label_len c.of-tbs_len.ensures c.unsigned.ensures.encoding tied in
    let asked = rw (c.as_slice.ensures, c.as_slice-2.ensures, c.as_slice-3.ensures, c.as_bytes-label.ensures.value, c.as_slice-group_id.ensures.bytes, c.to_be_bytes-index.ensures, c.signature_key.ensures, c.signature.ensures) at c.good.ensures in
    elim c.match-source.branch [
      | in-KeyPackage w ↦
          (rw w.count-is at asked)
          ∙ signed _ (no_suffix x.source group_id c.args.index _ (sym c.source.ensures ∙ w.in-KeyPackage.is))
      | in-Update w ↦
          (rw w.count-is at asked)
          ∙ signed _ (place_suffix x.source group_id c.args.index c.of-group_id_len.result c.ranges.index.fits group_id_len (rw c.source.ensures at w.in-Update.is))
      | in-Update-2 w ↦
          (rw w.count-is at asked)
          ∙ signed _ (place_suffix x.source group_id c.args.index c.of-group_id_len.result c.ranges.index.fits group_id_len (rw c.source.ensures at w.in-Update.is))
    ]
