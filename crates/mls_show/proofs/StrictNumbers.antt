-- The numbers of the strict rules in a set, one after the other.
use Rattle.std.proofs.Common.{◌≡◌, ℕ, suc, ◌+◌, ◌-◌, ◌<◌, List, ◌++◌, sym, ap, ◌∙◌, append_assoc, arith}
use Rattle.mls_msgs.specs.Rules.{has_rule}
use Rattle.mls_msgs.specs.declared.rules.Rules.{Rules}
use Rattle.mls_show.specs.StateText.{number_if, numbers_from}

-- a number fewer is still to come
pub number_more : (r : Rules) (old new whole : List ℕ) (n : ℕ) → n < 53 → new ≡ old ++ number_if (has_rule r n) n
    → old ++ numbers_from (53 - n) n r ≡ whole → new ++ numbers_from (53 - (n + 1)) (n + 1) r ≡ whole
number_more r old new whole n lt made e =
    let k = 53 - (n + 1) in
    let more : 53 - n ≡ suc k = omega arith in
    ap (λ (t : List ℕ). t ++ numbers_from k (n + 1) r) made
    ∙ append_assoc old (number_if (has_rule r n) n) (numbers_from k (n + 1) r)
    ∙ ap (λ (m : ℕ). old ++ numbers_from m n r) (sym more)
    ∙ e
