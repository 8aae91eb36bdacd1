use Rattle.std.proofs.Common.{◌∙◌, ap}
use Rattle.mls_nodes.proofs.StoredLeaves.{first_key, no_first_key}
use Rattle.mls_nodes.specs.StoredLeaf.{stored_leaf}
use Rattle.mls_nodes.specs.declared.leaf.LeafNode.{LeafNode}
use Rattle.mls_nodes.proofs.encoded_leaf.EncodedLeaf.encryption_key.Goals as goal

pub unreachable-requires : goal.unreachable-requires
unreachable-requires c =
    let none = rw (c.in-Err.is, c.new.ensures, c.as_slice.ensures) at c.parse.ensures in
    no_first_key (stored_leaf c.self.inside.bytes) c.self.inside.bytes c.self.invariant.0 none

pub returns : goal.returns
returns c =
    let some = rw (c.in-Ok.is, c.new.ensures, c.as_slice.ensures) at c.parse.ensures in
    c.as_slice-in-Ok.ensures ∙ first_key (stored_leaf c.self.inside.bytes) c.self.inside.bytes c.self.invariant.0 c.in-Ok.key c.parse.new.reader some
    ∙ ap (λ (x : LeafNode). x.encryption_key) c.self.view_is
