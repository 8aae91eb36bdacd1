use Rattle.std.proofs.Common.{length}
use Rattle.mls_wire.specs.Parsing.{vector_at}
use Rattle.mls_wire.specs.StoredItems.{AreCounted}
use Rattle.mls_show.proofs.credential_text.certificate_count.Given as goal

-- the certificates so far, and those still to come
abbrev pub invariant-certificates : goal.invariant-certificates
invariant-certificates l = AreCounted vector_at l.initial.left l.left l.count

abbrev pub decreases-certificates : goal.decreases-certificates
decreases-certificates l = length l.left.left
