use Rattle.std.proofs.Common.{◌≡◌, map, take}
use Rattle.mls_apply.specs.PendingContent.{authenticated_of}
use Rattle.mls_follow.proofs.stored_state.pending_contents.Given as goal

abbrev pub invariant-loop-pending : goal.invariant-loop-pending
invariant-loop-pending l = l.contents.items ≡ map (authenticated_of l.context) (take l.pending-index l.known)
