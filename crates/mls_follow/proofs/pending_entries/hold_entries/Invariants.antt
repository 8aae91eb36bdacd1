use Rattle.std.proofs.Common.{length}
use Rattle.mls_follow.specs.GroupModel.{group_state}
use Rattle.mls_follow.proofs.Resuming.{Continues}
use Rattle.mls_follow.proofs.pending_entries.hold_entries.Given as goal

abbrev pub invariant-loop-entry : goal.invariant-loop-entry
invariant-loop-entry g l =
    Continues (g.C.SignatureCheck.meaning l.checker) (group_state l.initial.group) l.entries (group_state l.group) l.rest l.count

abbrev pub decreases-loop-entry : goal.decreases-loop-entry
decreases-loop-entry g l = length l.rest
