use Rattle.std.proofs.Common.{◌++◌, drop}
use Rattle.mls_signatures.specs.AddedLeaves.{AppendsSignatures}
use Rattle.mls_signatures.specs.SignaturesToVerify.{entries_signatures}
use Rattle.mls_signatures.proofs.commit_signatures.push_entries_signatures.Given as goal

abbrev pub invariant-loop-entry : goal.invariant-loop-entry
invariant-loop-entry l =
    AppendsSignatures l.initial.list (entries_signatures l.context l.committer l.entries)
    (l.list ++ entries_signatures l.context l.committer (drop l.entry-index l.entries))
