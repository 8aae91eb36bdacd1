use Rattle.std.proofs.Common.{◌≡◌, ◌+◌, length}
use Rattle.mls_msgs.specs.Welcome.{references}
use Rattle.mls_msgs.proofs.welcome.WelcomeFront.len.Given as goal

abbrev pub invariant-loop-count : goal.invariant-loop-count
invariant-loop-count l = l.count + length l.left ≡ length (references l.self)

abbrev pub decreases-loop-count : goal.decreases-loop-count
decreases-loop-count l = length l.left
