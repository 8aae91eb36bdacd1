use Rattle.std.proofs.Common.{◌≡◌, length}
use Rattle.mls_strict.specs.ExtensionLists.{has_no_group_type}
use Rattle.mls_strict.proofs.extension_lists.has_no_group_type.Given as goal

abbrev pub invariant-loop-extension : goal.invariant-loop-extension
invariant-loop-extension l = has_no_group_type l.left ≡ has_no_group_type l.extensions

abbrev pub decreases-loop-extension : goal.decreases-loop-extension
decreases-loop-extension l = length l.left
