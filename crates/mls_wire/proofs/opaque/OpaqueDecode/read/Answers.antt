use Rattle.mls_wire.specs.VectorsExact.{vector_exact, vector_within}
use Rattle.mls_wire.proofs.opaque.OpaqueDecode.read.Goals as goal

pub invariant_of-result : goal.invariant_of-result
invariant_of-result c =
    let t = (vector_exact.takes _ _ _ c.in_ok-bytes.ensures).1 in
    (rw c.in_ok-stored.ensures.bytes (vector_within _ t.0 t.1), c.in_ok-stored.ensures.place)
