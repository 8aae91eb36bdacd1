use Rattle.std.proofs.Common.{◌≡◌, take, drop}
use Rattle.mls_follow.specs.Resumption.{misfit}
use Rattle.mls_follow.proofs.resume.added_references.Given as goal

abbrev pub invariant-loop-number : goal.invariant-loop-number
invariant-loop-number l =
    (l.read.items ≡ take l.number l.references)
    × (misfit l.group.suite l.members 0 l.references ≡ misfit l.group.suite l.members l.number (drop l.number l.references))
