use Rattle.std.proofs.Common.{◌≡◌, drop}
use Rattle.mls_apply.specs.ContextExtensions.{proposed_extensions}
use Rattle.mls_follow.proofs.next_extensions.proposed_extensions.Given as goal

abbrev pub invariant-loop-item : goal.invariant-loop-item
invariant-loop-item l = proposed_extensions (drop l.item-index l.items) ≡ proposed_extensions l.items
