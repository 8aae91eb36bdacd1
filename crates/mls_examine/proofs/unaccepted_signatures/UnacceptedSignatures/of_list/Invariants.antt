use Rattle.std.proofs.Common.{◌≡◌, take}
use Rattle.mls_examine.specs.GroupInfos.{unaccepted}
use Rattle.mls_examine.proofs.unaccepted_signatures.UnacceptedSignatures.of_list.Given as goal

-- those that are not accepted of the signatures before
abbrev pub invariant-loop-index : goal.invariant-loop-index
invariant-loop-index g l = l.signatures.items ≡ unaccepted (g.C.SignatureCheck.meaning l.checker) (take l.index l.list)
