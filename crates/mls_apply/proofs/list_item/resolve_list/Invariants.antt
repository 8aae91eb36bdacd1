use Rattle.std.proofs.Common.{◌≡◌, ◌++◌, length, option_map}
use Rattle.mls_apply.specs.ResolvedList.{resolved}
use Rattle.mls_apply.proofs.list_item.resolve_list.Given as goal

abbrev pub invariant-loop-entry : goal.invariant-loop-entry
invariant-loop-entry l = resolved l.committer l.known l.commit.proposals ≡ option_map (λ more. l.items.items ++ more) (resolved l.committer l.known l.rest)

abbrev pub decreases-loop-entry : goal.decreases-loop-entry
decreases-loop-entry l = length l.rest
