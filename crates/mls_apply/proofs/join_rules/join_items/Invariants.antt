use Rattle.std.proofs.Common.{◌≡◌, take}
use Rattle.mls_apply.specs.JoinRules.{join_items}
use Rattle.mls_apply.proofs.join_rules.join_items.Given as goal

abbrev pub invariant-loop-entry : goal.invariant-loop-entry
invariant-loop-entry l = l.items.items ≡ join_items (take l.entry-index l.entries)
