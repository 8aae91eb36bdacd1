use Rattle.std.proofs.Common.{◌++◌, drop}
use Rattle.mls_signatures.specs.AddedLeaves.{AppendsSignatures}
use Rattle.mls_signatures.specs.SignaturesToVerify.{pending_signatures}
use Rattle.mls_signatures.proofs.resumption.push_pending_signatures.Given as goal

abbrev pub invariant-loop-pending : goal.invariant-loop-pending
invariant-loop-pending l =
    AppendsSignatures l.initial.list (pending_signatures l.context l.tree.tree l.known)
    (l.list ++ pending_signatures l.context l.tree.tree (drop l.pending-index l.known))
