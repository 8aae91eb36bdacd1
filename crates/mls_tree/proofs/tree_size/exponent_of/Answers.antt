use Rattle.std.proofs.Common.{inl, inr, arith}
use Rattle.mls_tree.proofs.Coordinates.{power_found, power_missing}
use Rattle.mls_tree.proofs.tree_size.exponent_of.Goals as goal
use Rattle.mls_tree.proofs.tree_size.exponent_of.Goals.{else-exponent-lt64-via-else-exponent-lt64, else-exponent-lt64-via-then-exponent-lt64+else-number-exponent}

pub returns-then-number-exponent : goal.returns-then-number-exponent
returns-then-number-exponent c = power_found c.args.number c.if-exponent-lt64.true c.if-number-exponent.true

pub returns-else-exponent-lt64 : goal.returns-else-exponent-lt64
returns-else-exponent-lt64 c =
    power_missing c.args.number (omega arith)
    (elim c.else-exponent-lt64.branch [ else-exponent-lt64-via-else-exponent-lt64 w ↦ inl (omega arith) | else-exponent-lt64-via-then-exponent-lt64+else-number-exponent w ↦ inr w.if-number-exponent.false ])
