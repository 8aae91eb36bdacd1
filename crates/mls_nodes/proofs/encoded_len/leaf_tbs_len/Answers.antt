use Rattle.std.proofs.Common.{ap, length, refl}
use Rattle.std.specs.Prelude.{option_map}
use Rattle.mls_nodes.specs.Layout.{unsigned_leaf}
use Rattle.mls_nodes.proofs.Lengths.{HasLength, tbs_has}
use Rattle.mls_nodes.proofs.encoded_len.leaf_tbs_len.Goals as goal

pub returns-clause-length : goal.returns-clause-length
returns-clause-length c =
    let a = length c.unsigned.result.now in
    let unsigned : HasLength (unsigned_leaf c.args.leaf.now) a = ap (option_map length) c.unsigned.ensures.encoding in
    let suffix = rw c.source.ensures at c.length_of_tbs_suffix-suffix.ensures.length in
    tbs_has c.args.leaf.now c.args.group_id.now c.args.index a c.length_of_tbs_suffix-suffix.result _ unsigned suffix refl
