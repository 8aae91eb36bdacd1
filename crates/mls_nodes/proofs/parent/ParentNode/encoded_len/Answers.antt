use Rattle.std.proofs.Common.{refl}
use Rattle.mls_nodes.proofs.Lengths.{parent_has}
use Rattle.mls_nodes.proofs.parent.ParentNode.encoded_len.Goals as goal

pub returns-clause-length : goal.returns-clause-length
returns-clause-length c =
    parent_has c.args.self.now c.length_of_vector-encryption_key.result c.length_of_vector-parent_hash.result c.length_of_unmerged-unmerged.result _
    c.length_of_vector-encryption_key.ensures.length c.length_of_vector-parent_hash.ensures.length
    (rw c.as_slice.ensures.items at c.length_of_unmerged-unmerged.ensures.length) refl
