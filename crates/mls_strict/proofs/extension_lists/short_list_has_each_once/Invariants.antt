use Rattle.std.proofs.Common.{◌≡◌, ◌≤◌, length, take}
use Rattle.mls_strict.specs.ExtensionLists.{has_each_once}
use Rattle.mls_strict.proofs.SeenTypes.{has_new_types_once, is_listed}
use Rattle.mls_strict.proofs.extension_lists.short_list_has_each_once.Given as goal

abbrev pub invariant-loop-extension : goal.invariant-loop-extension
invariant-loop-extension l =
    record {
      sized : length l.kinds ≡ 64;
      within : l.count ≤ 64;
      same : has_new_types_once (is_listed (take l.count l.kinds)) l.left ≡ has_each_once l.extensions;
    }

abbrev pub decreases-loop-extension : goal.decreases-loop-extension
decreases-loop-extension l = length l.left
