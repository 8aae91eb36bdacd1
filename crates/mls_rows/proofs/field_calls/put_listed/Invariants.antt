use Rattle.std.proofs.Common.{length}
use Rattle.mls_rows.proofs.field_calls.put_listed.Given as goal

abbrev pub decreases-loop-code : goal.decreases-loop-code
decreases-loop-code l = length l.left
