use Rattle.std.proofs.Common.{◌≡◌, ◌++◌, ◌-◌}
use Rattle.mls_show.specs.StateText.{numbers_from}
use Rattle.mls_show.proofs.state_text.numbers_in.Given as goal

-- the numbers so far, and those still to come
abbrev pub invariant-strict : goal.invariant-strict
invariant-strict l = l.numbers.items ++ numbers_from (53 - l.number) l.number l.rules ≡ numbers_from 13 40 l.rules
