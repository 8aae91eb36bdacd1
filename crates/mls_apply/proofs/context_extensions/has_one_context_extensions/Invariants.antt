use Rattle.std.proofs.Common.{◌≡◌, drop}
use Rattle.mls_apply.specs.ContextExtensions.{has_one_context_extensions}
use Rattle.mls_apply.proofs.Bringing.{bring_after}
use Rattle.mls_apply.proofs.context_extensions.has_one_context_extensions.Given as goal

abbrev pub invariant-loop-item : goal.invariant-loop-item
invariant-loop-item l = has_one_context_extensions l.items ≡ bring_after l.is_brought (drop l.item-index l.items)
