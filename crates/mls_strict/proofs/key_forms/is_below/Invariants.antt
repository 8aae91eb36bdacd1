use Rattle.std.proofs.Common.{◌≡◌, take}
use Rattle.std.specs.Prelude.{nat_lt}
use Rattle.mls_strict.specs.KeyForms.{le_number}
use Rattle.mls_strict.proofs.key_forms.is_below.Given as goal

abbrev pub invariant-loop-i : goal.invariant-loop-i
invariant-loop-i l = l.is_below ≡ nat_lt (le_number (take l.i l.bytes)) (le_number (take l.i l.limit))
