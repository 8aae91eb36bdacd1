use Rattle.std.proofs.Common.{length}
use Rattle.mls_rows.proofs.field_calls.put_extensions_left.Given as goal

abbrev pub decreases-loop-extension : goal.decreases-loop-extension
decreases-loop-extension l = length l.left
