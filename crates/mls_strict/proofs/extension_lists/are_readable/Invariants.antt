use Rattle.std.proofs.Common.{◌≡◌, ◌≤◌, ℕ, length}
use Rattle.mls_wire.specs.Input.{at}
use Rattle.mls_strict.proofs.Senders.{are_readable}
use Rattle.mls_strict.proofs.extension_lists.are_readable.Given as goal

abbrev pub invariant-loop-left : goal.invariant-loop-left
invariant-loop-left l = (n : ℕ) × (length l.left.left ≤ n) × (are_readable n l.left ≡ are_readable (length l.senders) (at 0 l.senders))

abbrev pub decreases-loop-left : goal.decreases-loop-left
decreases-loop-left l = length l.left.left
