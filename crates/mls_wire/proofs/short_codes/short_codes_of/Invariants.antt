use Rattle.std.proofs.Common.{◌≡◌, ◌+◌, ◌*◌, ◌≤◌, length}
use Rattle.std.specs.Int.{w16}
use Rattle.mls_wire.specs.Parsing.{items_at, number_at}
use Rattle.mls_wire.specs.ListLoops.{with_front}
use Rattle.mls_wire.proofs.short_codes.short_codes_of.Given as goal

abbrev pub invariant-loop-body : goal.invariant-loop-body
invariant-loop-body l = record {
  so_far : with_front l.codes (items_at (number_at w16) (length l.body.left) l.body) ≡ items_at (number_at w16) (length l.initial.body.left) l.initial.body;
  capacity : 2 * length l.codes + length l.body.left ≤ 12;
}

abbrev pub decreases-loop-body : goal.decreases-loop-body
decreases-loop-body l = length l.body.left
