use Rattle.std.proofs.Common.{◌≡◌, ◌++◌, length}
use Rattle.mls_strict.proofs.TreeNodes.{types_of}
use Rattle.mls_strict.proofs.strict_tree.extension_types.Given as goal

abbrev pub invariant-loop-extension : goal.invariant-loop-extension
invariant-loop-extension l = l.types.items ++ types_of l.left ≡ types_of l.extensions

abbrev pub decreases-loop-extension : goal.decreases-loop-extension
decreases-loop-extension l = length l.left
