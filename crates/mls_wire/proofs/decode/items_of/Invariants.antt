use Rattle.std.proofs.Common.{◌≡◌, length}
use Rattle.mls_wire.specs.Parsing.{items_at}
use Rattle.mls_wire.specs.ListLoops.{with_front}
use Rattle.mls_wire.proofs.decode.items_of.Given as goal

abbrev pub invariant-loop-body : goal.invariant-loop-body
invariant-loop-body g l =
    let f = g.T.Decode.reading in
    with_front l.items.items (items_at f (length l.body.left) l.body) ≡ items_at f (length l.initial.body.left) l.initial.body

abbrev pub decreases-loop-body : goal.decreases-loop-body
decreases-loop-body g l = length l.body.left
