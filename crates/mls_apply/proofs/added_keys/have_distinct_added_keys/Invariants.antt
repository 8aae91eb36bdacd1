use Rattle.std.proofs.Common.{take, filter_map}
use Rattle.mls_apply.specs.AddedKeys.{added_encryption_key}
use Rattle.mls_apply.proofs.KeySets.{IsWalked}
use Rattle.mls_apply.proofs.added_keys.have_distinct_added_keys.Given as goal

abbrev pub invariant-loop-item : goal.invariant-loop-item
invariant-loop-item l = IsWalked (filter_map added_encryption_key (take l.item-index l.items)) l.met
