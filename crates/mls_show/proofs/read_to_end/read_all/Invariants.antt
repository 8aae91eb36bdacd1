use Rattle.std.proofs.Common.{◌≤◌, ◌+◌, ◌-◌, vec_len}
use Rattle.std.specs.Io.KnownBytes.{Consumes}
use Rattle.mls_wire.specs.Devices.{IsWorking}
use Rattle.mls_wire.specs.Limits.{input_limit}
use Rattle.mls_show.proofs.read_to_end.read_all.Given as goal

abbrev pub invariant-pieces : goal.invariant-pieces
invariant-pieces g l =
    (vec_len l.bytes ≤ input_limit + 1)
    × Consumes (g.S.Source.device l.fn.source).bytes (g.S.Source.device l.source).bytes l.bytes.items
    × IsWorking (g.S.Source.device l.source)

abbrev pub decreases-pieces : goal.decreases-pieces
decreases-pieces g l = input_limit + 1 - vec_len l.bytes
