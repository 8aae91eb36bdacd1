use Rattle.std.proofs.Common.{◌≡◌, length}
use Rattle.mls_nodes.specs.Requirements.{extension_of}
use Rattle.mls_strict.proofs.extension_lists.find_borrowed.Given as goal

abbrev pub invariant-loop-extension : goal.invariant-loop-extension
invariant-loop-extension l = extension_of l.kind l.left ≡ extension_of l.kind l.extensions

abbrev pub decreases-loop-extension : goal.decreases-loop-extension
decreases-loop-extension l = length l.left
