use Rattle.std.proofs.Common.{◌≡◌, ◌-◌, ◌≤◌, length}
use Rattle.std.specs.Io.KnownBytes.{Consumes}
use Rattle.mls_wire.proofs.log.read_body.Given as goal

abbrev pub invariant-pieces : goal.invariant-pieces
invariant-pieces g l =
    Consumes (g.R.Source.device l.fn.source).bytes (g.R.Source.device l.source).bytes l.body.items × (length l.body.items ≤ l.size)
    × ((g.R.Source.device l.source).has_failed ≡ (g.R.Source.device l.fn.source).has_failed)

abbrev pub decreases-pieces : goal.decreases-pieces
decreases-pieces g l = l.size - length l.body.items
