use Rattle.std.proofs.Common.{◌≡◌, length}
use Rattle.mls_wire.specs.ListLoops.{with_front}
use Rattle.mls_wire.specs.StoredItems.{all_of}
use Rattle.mls_wire.proofs.encoded_items.EncodedItems.to_vec.Given as goal

abbrev pub invariant-loop-left : goal.invariant-loop-left
invariant-loop-left g l = with_front l.items.items (all_of g.T.Decode.reading l.left) ≡ all_of g.T.Decode.reading l.initial.left

abbrev pub decreases-loop-left : goal.decreases-loop-left
decreases-loop-left g l = length l.left.left
