use Rattle.std.proofs.Common.{◌≡◌, [], Some, sym, subst}
use Rattle.mls_tree.specs.Paths.{resolution_at}
use Rattle.mls_apply.specs.BlankHashes.{IsBlankHash}
use Rattle.mls_apply.proofs.BlankTrees.{IsBlankHash-from}
use Rattle.mls_apply.proofs.blank_hashes.BlankHashes.fill_at.Goals as goal

pub invariant_of-push : goal.invariant_of-push
invariant_of-push c =
    let t = c.fill_subtree.new.tree in
    let p = c.args.node_index in
    let blank = subst (λ u. resolution_at u p ≡ Some []) (sym c.in_ok-fill_subtree.ensures.tree) c.if-not-is_blank.ensures in
    record {
      right = subst (λ kind. IsBlankHash kind p c.in-Some.hash) (sym c.hash_kind-kind.ensures)
          (IsBlankHash-from t.kind t.tree p c.in-Some.hash t.shape.perfect blank c.in-Some.ensures.right);
    }
