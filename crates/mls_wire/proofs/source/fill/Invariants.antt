use Rattle.std.proofs.Common.{◌≡◌, ◌-◌, ◌≤◌, true, length, take}
use Rattle.std.specs.Io.KnownBytes.{Consumes}
use Rattle.mls_wire.proofs.source.fill.Given as goal

abbrev pub invariant-loop-at : goal.invariant-loop-at
invariant-loop-at g l = (length l.into ≡ length l.initial.into) × (l.at ≤ length l.into) × Consumes (g.S.Source.device l.fn.source).bytes (g.S.Source.device l.source).bytes (take l.at l.into)
    × ((g.S.Source.device l.source).has_failed ≡ (g.S.Source.device l.fn.source).has_failed)
    × ((g.S.Source.device l.fn.source).has_failed ≡ true → l.at ≡ 0)

abbrev pub decreases-loop-at : goal.decreases-loop-at
decreases-loop-at g l = length l.initial.into - l.at
