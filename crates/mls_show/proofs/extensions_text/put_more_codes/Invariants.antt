use Rattle.std.proofs.Common.{◌≡◌, ◌++◌, length}
use Rattle.mls_show.specs.ValueTexts.{more_numbers_text}
use Rattle.mls_show.proofs.extensions_text.put_more_codes.Given as goal

-- the text so far, and that of the codes still to come
abbrev pub invariant-codes : goal.invariant-codes
invariant-codes l = l.out.items ++ more_numbers_text l.left ≡ l.initial.out.items ++ more_numbers_text l.codes

abbrev pub decreases-codes : goal.decreases-codes
decreases-codes l = length l.left
