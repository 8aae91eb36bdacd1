use Rattle.mls_follow.proofs.group.Group.begin_epoch.Goals.{in-Some+in-Some-1, in-Some+in-None-1, in_default, in-Some-required, in_default-required}
use Rattle.mls_follow.proofs.group.Group.begin_epoch.Goals as goal

pub invariant_of-self-clause-requires_these : goal.invariant_of-self-clause-requires_these
invariant_of-self-clause-requires_these c =
    elim c.match-extensions.branch [
      | in-Some+in-Some-1 w ↦
          elim c.match-required.branch [
            | in-Some-required v ↦ rw (v.self-is, w.self-is) (rw (w.in-Some.is, v.in-Some-required.is) at c.requires.requirements)
            | in_default-required v ↦ rw (v.self-is, w.self-is) (rw (w.in-Some.is, v.in_default-required.is) at c.requires.requirements)
          ]
      | in-Some+in-None-1 w ↦
          elim c.match-required.branch [
            | in-Some-required v ↦ rw (v.self-is, w.self-is) (rw (w.in-Some.is, v.in-Some-required.is) at c.requires.requirements)
            | in_default-required v ↦ rw (v.self-is, w.self-is) (rw (w.in-Some.is, v.in_default-required.is) at c.requires.requirements)
          ]
      | in_default w ↦
          elim c.match-required.branch [
            | in-Some-required v ↦ rw (v.self-is, w.self-is) (rw (w.in_default.is, v.in-Some-required.is) at c.requires.requirements)
            | in_default-required v ↦ rw (v.self-is, w.self-is) (rw (w.in_default.is, v.in_default-required.is) at c.requires.requirements)
          ]
    ]

pub invariant_of-self-clause-same_types : goal.invariant_of-self-clause-same_types
invariant_of-self-clause-same_types c =
    elim c.match-extensions.branch [
      | in-Some+in-Some-1 w ↦ rw w.self-is w.in-Some.next.same_types
      | in-Some+in-None-1 w ↦ rw w.self-is w.in-Some.next.same_types
      | in_default w ↦ rw w.self-is c.args.self.now.same_types
    ]
