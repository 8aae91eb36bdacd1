use Rattle.std.proofs.Common.{◌≡◌, ◌++◌, drop}
use Rattle.mls_show.specs.ValueTexts.{more_numbers_text}
use Rattle.mls_show.proofs.report_buffer.put_numbers.Given as goal

-- the numbers so far, and those still to come
abbrev pub invariant-loop-number : goal.invariant-loop-number
invariant-loop-number l = l.out.items ++ more_numbers_text (drop l.number-index l.others) ≡ l.initial.out.items ++ more_numbers_text l.others
