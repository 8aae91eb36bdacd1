use Rattle.std.proofs.Common.{take}
use Rattle.mls_signatures.proofs.ShortenedMarks.{HasMarks}
use Rattle.mls_signatures.proofs.duplicates.first_marks.Given as goal

abbrev pub invariant-loop-entry : goal.invariant-loop-entry
invariant-loop-entry l = HasMarks (take l.entry-index l.list) l.marks.items l.seen
