use Rattle.std.proofs.Common.{refl}
use Rattle.mls_nodes.proofs.Lengths.{unmerged_has}
use Rattle.mls_nodes.proofs.encoded_len.length_of_unmerged.Goals as goal

pub returns-clause-length : goal.returns-clause-length
returns-clause-length c = unmerged_has c.args.leaves.now c.length_of_prefix.result _ c.requires (λ i. (c.type_inv.leaves i).fits) c.length_of_prefix.ensures.length refl
