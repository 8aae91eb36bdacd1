use Rattle.std.proofs.Common.{◌≡◌, ℕ, List, ◌++◌, length}
use Rattle.std.specs.Io.KnownBytes.{Appends}
use Rattle.mls_wire.proofs.sink.write_all.Given as goal

abbrev pub invariant-loop-rest : goal.invariant-loop-rest
invariant-loop-rest g l =
    ((done : List ℕ) × (l.bytes ≡ done ++ l.rest) × Appends (g.K.Sink.device l.fn.sink).bytes (g.K.Sink.device l.sink).bytes done)
    × ((g.K.Sink.device l.sink).has_failed ≡ (g.K.Sink.device l.fn.sink).has_failed)

abbrev pub decreases-loop-rest : goal.decreases-loop-rest
decreases-loop-rest g l = length l.rest
