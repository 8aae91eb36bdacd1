use Rattle.std.proofs.Common.{length}
use Rattle.mls_wire.specs.StoredItems.{AreCounted}
use Rattle.mls_wire.proofs.encoded_items.count_items.Given as goal

abbrev pub invariant-loop-body : goal.invariant-loop-body
invariant-loop-body g l = AreCounted g.T.Decode.reading l.initial.body l.body l.count

abbrev pub decreases-loop-body : goal.decreases-loop-body
decreases-loop-body g l = length l.body.left
