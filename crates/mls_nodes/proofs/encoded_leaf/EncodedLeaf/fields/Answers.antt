use Rattle.std.proofs.Common.{◌∙◌, sym}
use Rattle.mls_nodes.proofs.StoredLeaves.{read_again}
use Rattle.mls_nodes.specs.StoredLeaf.{stored_leaf}
use Rattle.mls_nodes.proofs.encoded_leaf.EncodedLeaf.fields.Goals as goal

pub unreachable-requires : goal.unreachable-requires
unreachable-requires c =
    let none = rw (c.in-Err.is, c.new.ensures, c.as_slice.ensures) at c.parse.ensures in
    let bad = sym none ∙ read_again (stored_leaf c.self.inside.bytes) c.self.inside.bytes c.self.invariant.0 in absurd cc
