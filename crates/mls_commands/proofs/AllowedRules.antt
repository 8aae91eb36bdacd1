-- The strict rules that the value of `--allow` names.
use Rattle.std.proofs.Common.{◌≡◌, ◌<◌, ◌≤◌, ◌-◌, ℕ, [], ◌∷◌, List, length, take, drop, slice_index_or, true, sym, ◌∙◌, subst, inl, inr, arith}
use Rattle.std.proofs.lemmas.Bool.{cases_Bool, true≢false}
use Rattle.std.proofs.lemmas.List.{take_all}
use Rattle.mls_msgs.specs.Rules.{is_strict_rule, has_rule}
use Rattle.mls_msgs.specs.declared.rules.Rules.{Rules}
use Rattle.mls_msgs.proofs.RuleSets.{has_rule-determines, has_rule-outside}
use Rattle.mls_commands.specs.Orders.{Allows, IsWithout}

-- a rule of a set is a strict rule
pub member-strict : (r : Rules) (n : ℕ) → has_rule r n ≡ true → is_strict_rule n ≡ true
member-strict r n member = elim (cases_Bool (is_strict_rule n)) [
  | inl strict ↦ strict
  | inr other ↦ absurd (true≢false (sym member ∙ has_rule-outside r n other))
]

-- a set without one rule is determined by the set and the rule
without-determined : (asked : Rules) (a b : ℕ) (r s : Rules) → IsWithout asked a b r → IsWithout asked a b s → r ≡ s
without-determined asked a b r s first second = has_rule-determines r s (λ n. first.others n ∙ sym (second.others n))

-- a text of two characters names one rule
pub one-named : (asked : Rules) (text : List ℕ) (d e : ℕ) (rules : Rules) → 2 ≤ length text → length text < 3
    → Allows asked text rules → IsWithout asked (slice_index_or text 0 d) (slice_index_or text 1 e) rules
one-named asked [] d e rules low high allows = absurd allows
one-named asked (a ∷ []) d e rules low high allows = absurd allows
one-named asked (a ∷ b ∷ []) d e rules low high allows = allows
one-named asked (a ∷ b ∷ c ∷ text) d e rules low high allows = absurd (omega (arith, high))

-- a longer text names a first rule
pub first-named : (asked : Rules) (text : List ℕ) (d e : ℕ) (rules : Rules) → 3 ≤ length text
    → Allows asked text rules → (fewer : Rules) × IsWithout asked (slice_index_or text 0 d) (slice_index_or text 1 e) fewer
first-named asked [] d e rules low allows = absurd allows
first-named asked (a ∷ []) d e rules low allows = absurd allows
first-named asked (a ∷ b ∷ []) d e rules low allows = absurd (omega (arith, low))
first-named asked (a ∷ b ∷ c ∷ text) d e rules low allows = (allows.1.0, allows.1.1)

-- and its other numbers are allowed in the set without that rule
pub others-named : (asked fewer : Rules) (text : List ℕ) (d e : ℕ) (rules : Rules) → 3 ≤ length text
    → IsWithout asked (slice_index_or text 0 d) (slice_index_or text 1 e) fewer
    → Allows asked text rules → Allows fewer (take (length text - 3) (drop 3 text)) rules
others-named asked fewer [] d e rules low without allows = absurd allows
others-named asked fewer (a ∷ []) d e rules low without allows = absurd allows
others-named asked fewer (a ∷ b ∷ []) d e rules low without allows = absurd (omega (arith, low))
others-named asked fewer (a ∷ b ∷ c ∷ text) d e rules low without allows =
    subst (λ t. Allows fewer t rules) (sym (take_all (length (a ∷ b ∷ c ∷ text) - 3) text (omega arith)))
    (subst (λ r. Allows r text rules) (without-determined asked a b allows.1.0 fewer allows.1.1 without) allows.1.2)

-- what names a rule, a comma and other rules
pub both-named : (asked fewer : Rules) (text : List ℕ) (d e f : ℕ) (rules : Rules) → 3 ≤ length text
    → slice_index_or text 2 f ≡ 44
    → IsWithout asked (slice_index_or text 0 d) (slice_index_or text 1 e) fewer
    → Allows fewer (take (length text - 3) (drop 3 text)) rules → Allows asked text rules
both-named asked fewer [] d e f rules low comma without allows = absurd (omega (arith, low))
both-named asked fewer (a ∷ []) d e f rules low comma without allows = absurd (omega (arith, low))
both-named asked fewer (a ∷ b ∷ []) d e f rules low comma without allows = absurd (omega (arith, low))
both-named asked fewer (a ∷ b ∷ c ∷ text) d e f rules low comma without allows =
    let same = take_all (length (a ∷ b ∷ c ∷ text) - 3) text (omega arith) in
    (comma, (fewer, without, subst (λ t. Allows fewer t rules) same allows))
