use Rattle.std.proofs.Common.{◌≡◌, ◌++◌, drop, string_bytes}
use Rattle.mls_show.specs.ValueTexts.{more_numbers_text, numbers_text}
use Rattle.mls_show.proofs.value_text.numbers_of.Given as goal

-- the text so far, and the numbers still to come
abbrev pub invariant-loop-number : goal.invariant-loop-number
invariant-loop-number l = string_bytes l.text ++ more_numbers_text (drop l.number-index l.others) ≡ numbers_text l.numbers
