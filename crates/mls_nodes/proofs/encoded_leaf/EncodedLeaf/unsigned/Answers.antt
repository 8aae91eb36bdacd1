use Rattle.mls_nodes.proofs.StoredLeaves.{signature_fits, signature_within, unsigned_is}
use Rattle.mls_nodes.specs.StoredLeaf.{stored_leaf}
use Rattle.mls_nodes.proofs.encoded_leaf.EncodedLeaf.unsigned.Goals as goal

pub length_of_body-signature-requires : goal.length_of_body-signature-requires
length_of_body-signature-requires c =
    rw (c.signature.ensures, ← c.self.view_is) (signature_fits (stored_leaf c.self.inside.bytes) c.self.inside.bytes c.self.invariant.0)

pub slice_bounds-result-count : goal.slice_bounds-result-count
slice_bounds-result-count c =
    let size = rw (c.signature.ensures, ← c.self.view_is) at c.length_of_body-signature.ensures.length in
    rw c.as_slice-bytes.ensures (signature_within (stored_leaf c.self.inside.bytes) c.self.inside.bytes c.length_of_body-signature.result c.self.invariant.0 size)

pub returns-clause-encoding : goal.returns-clause-encoding
returns-clause-encoding c =
    let size = rw (c.signature.ensures, ← c.self.view_is) at c.length_of_body-signature.ensures.length in
    rw (← c.self.view_is, c.as_slice-bytes.ensures) (unsigned_is (stored_leaf c.self.inside.bytes) c.self.inside.bytes c.length_of_body-signature.result c.self.invariant.0 size)
