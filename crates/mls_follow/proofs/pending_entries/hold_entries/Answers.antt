use Rattle.std.proofs.Common.{rules}
use Rattle.mls_follow.proofs.Resuming.{continues_more, fails_here, known_true, known_false}
use Rattle.mls_follow.proofs.pending_entries.hold_entries.Goals as goal

pub returns-then-not-branch-clause-refused : goal.returns-then-not-branch-clause-refused
returns-then-not-branch-clause-refused g c =
    fails_here _ _ _ _ _ _ c.loop-entry.invariant c.in-Some.entry.now c.in-Some.tail.now (search rules)
    (known_false _ c.if-not-branch.true c.in_ok-hold_entry.ensures.refused)

pub loop-entry-preserved : goal.loop-entry-preserved
loop-entry-preserved g c =
    continues_more _ _ _ _ _ _ c.loop-entry.invariant _ c.in-Some.entry.now c.in-Some.tail.now (search rules)
    (known_true _ c.if-not-branch.false c.in_ok-hold_entry.ensures.held)

pub hold_entry-requires : goal.hold_entry-requires
hold_entry-requires g c = record { checked = c.loop-entry.invariant.checked c.requires.checked }
