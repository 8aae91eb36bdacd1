use Rattle.std.proofs.Common.{arith, refl}
use Rattle.mls_nodes.proofs.Lengths.{context_has}
use Rattle.mls_nodes.proofs.context.GroupContext.encoded_len.Goals as goal

pub returns-clause-length : goal.returns-clause-length
returns-clause-length c =
    context_has c.args.self.now c.length_of_vector-group_id.result c.length_of_vector-tree_hash.result c.length_of_vector-confirmed.result c.length_of_list-extensions.result _
    (omega arith) (omega arith) (omega arith)
    c.length_of_vector-group_id.ensures.length c.length_of_vector-tree_hash.ensures.length c.length_of_vector-confirmed.ensures.length c.length_of_list-extensions.ensures.length refl
