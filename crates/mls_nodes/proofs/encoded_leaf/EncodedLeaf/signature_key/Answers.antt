use Rattle.std.proofs.Common.{◌∙◌, ap}
use Rattle.mls_nodes.proofs.StoredLeaves.{no_first_key, second_key, no_second_key}
use Rattle.mls_nodes.specs.StoredLeaf.{stored_leaf}
use Rattle.mls_nodes.specs.declared.leaf.LeafNode.{LeafNode}
use Rattle.mls_nodes.proofs.encoded_leaf.EncodedLeaf.signature_key.Goals as goal

pub unreachable-requires : goal.unreachable-requires
unreachable-requires c =
    let none = rw (c.in_default.is, c.new-reader.ensures, c.as_slice.ensures) at c.parse.ensures in
    no_first_key (stored_leaf c.self.inside.bytes) c.self.inside.bytes c.self.invariant.0 none

pub unreachable-requires-in-Err : goal.unreachable-requires-in-Err
unreachable-requires-in-Err c =
    let some = rw (c.in-Ok.is, c.new-reader.ensures, c.as_slice.ensures) at c.parse.ensures in
    let none = rw c.in-Err.is at c.parse-2.ensures in
    no_second_key (stored_leaf c.self.inside.bytes) c.self.inside.bytes c.self.invariant.0 c.in-Ok.field-0 c.parse.new.reader some none

pub returns : goal.returns
returns c =
    let some = rw (c.in-Ok.is, c.new-reader.ensures, c.as_slice.ensures) at c.parse.ensures in
    let second = rw c.in-Ok-parse.is at c.parse-2.ensures in
    c.as_slice-in-Ok-parse.ensures
    ∙ second_key (stored_leaf c.self.inside.bytes) c.self.inside.bytes c.self.invariant.0 c.in-Ok.field-0 c.in-Ok-parse.key c.parse.new.reader c.parse-2.new.reader some second
    ∙ ap (λ (x : LeafNode). x.signature_key) c.self.view_is
