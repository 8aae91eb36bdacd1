-- Strict rules can be added to those of a state, which leads to one state, or there is one reason why not.
use Rattle.std.proofs.Common.{◌≡◌, ◌≢◌, ◌∙◌, ◌<◌, ◌^◌, ℕ, zero, suc, List, [], ◌∷◌, Option, Some, None, bit_and, bit_or, refl, sym, ap, subst, inl, inr, arith, w16}
use Rattle.std.specs.Prelude.{◌⊎◌}
use Rattle.std.specs.Int.{bit_not}
use Rattle.std.proofs.lemmas.Nat.{and_le_l, or_lt}
use Rattle.std.proofs.lemmas.Option.{none-some}
use Rattle.mls_nodes.specs.declared.context.GroupContext.{GroupContext}
use Rattle.mls_msgs.proofs.RuleSets.{has_rule-determines, has_rule-difference, has_rule-union}
use Rattle.mls_msgs.specs.Rules.{rule_bits}
use Rattle.mls_msgs.specs.declared.rules.Rules.{Rules}
use Rattle.mls_msgs.specs.declared.strict_rule.StrictRule.{StrictRule}
use Rattle.mls_strict.proofs.FirstFaults.{strict_or_fault, no_fault_of_strict, fault_is_unique}
use Rattle.mls_strict.specs.ContentForms.{proposal_refusal}
use Rattle.mls_strict.specs.StrictTrees.{IsStrict, IsStrictFault}
use Rattle.mls_apply.specs.declared.list_item.KnownProposal.{KnownProposal}
use Rattle.mls_follow.specs.AddedRules.{IsDifference, IsUnion, AreKnownStrict, FailsKnownAt, HasAddedRules, IsStrictRefused}
use Rattle.mls_follow.specs.State.{State}
use Rattle.mls_follow.specs.declared.added_rules.StrictRefused.{StrictRefused}
use Rattle.mls_follow.specs.declared.added_rules.StrictRefused.TheVariants.{Group, Known, OutOfMemory}

-- ---- the sets

module _ (asked has : Rules) where
  one_difference : (a b : Rules) → IsDifference asked has a → IsDifference asked has b → a ≡ b
  one_difference a b p q = has_rule-determines a b (λ n. p n ∙ sym (q n))

  one_union : (a b : Rules) → IsUnion asked has a → IsUnion asked has b → a ≡ b
  one_union a b p q = has_rule-determines a b (λ n. p n ∙ sym (q n))

  some_difference : (added : Rules) × IsDifference asked has added
  some_difference =
      let bits : ℕ = bit_and (rule_bits asked) (bit_not w16 (rule_bits has)) in
      let fits : bits < 2 ^ 13 = omega (arith, and_le_l (rule_bits asked) (bit_not w16 (rule_bits has)), asked.fits) in
      let added : Rules = record { members = bits; fits = fits } in
      (added, has_rule-difference asked has added refl)

  some_union : (all : Rules) × IsUnion asked has all
  some_union =
      let all : Rules = record {
        members = bit_or (rule_bits has) (rule_bits asked);
        fits = or_lt 13 (rule_bits has) (rule_bits asked) has.fits asked.fits;
      } in
      (all, has_rule-union has asked all refl)

-- ---- the pending proposals

module _ (added : Rules) (context : GroupContext) where
  abbrev AreStrict : List KnownProposal → Type 0
  AreStrict known = AreKnownStrict added context known

  abbrev FailsAt : List KnownProposal → ℕ → Type 0
  FailsAt known n = FailsKnownAt added context known n

  abbrev StrictOrFails : List KnownProposal → Type 0
  StrictOrFails known = AreStrict known ⊎ ((n : ℕ) × FailsAt known n)

  by_first : (k : KnownProposal) (known : List KnownProposal) → StrictOrFails known → (o : Option StrictRule) → proposal_refusal added context k.proposal ≡ o
      → StrictOrFails (k ∷ known)
  by_first k known (inl strict) None e = inl (e, strict)
  by_first k known (inr f) None e = inr (suc f.0, (e, f.1))
  by_first k known others (Some r) e = inr (zero, λ none. none-some r (sym none ∙ e))

  known_or_fails : (known : List KnownProposal) → StrictOrFails known
  known_or_fails [] = inl tt
  known_or_fails (k ∷ known) = by_first k known (known_or_fails known) (proposal_refusal added context k.proposal) refl

  no_failing : (known : List KnownProposal) (n : ℕ) → AreStrict known → FailsAt known n → ⊥
  no_failing [] n strict fails = fails
  no_failing (k ∷ known) zero strict fails = fails strict.0
  no_failing (k ∷ known) (suc n) strict fails = no_failing known n strict.1 fails.1

  one_failing : (known : List KnownProposal) (n m : ℕ) → FailsAt known n → FailsAt known m → n ≡ m
  one_failing [] n m a b = absurd a
  one_failing (k ∷ known) zero zero a b = refl
  one_failing (k ∷ known) zero (suc m) a b = absurd (a b.0)
  one_failing (k ∷ known) (suc n) zero a b = absurd (b a.0)
  one_failing (k ∷ known) (suc n) (suc m) a b = ap suc (one_failing known n m a.1 b.1)

-- ---- a state

module _ (asked : Rules) (s : State) where
  -- the rules that are added are one set
  moved : (P : Rules → Type 0) (a b : Rules) → IsDifference asked s.rules a → IsDifference asked s.rules b → P a → P b
  moved P a b p q h = subst P (one_difference asked s.rules a b p q) h

  -- the rules are added, or there is a reason why not
  pub added_or_refused : ((new : State) × HasAddedRules asked s new) ⊎ ((refused : StrictRefused) × (refused ≢ OutOfMemory) × IsStrictRefused asked s refused)
  added_or_refused =
      let d = some_difference asked s.rules in
      let u = some_union asked s.rules in
      elim (strict_or_fault d.0 s.context s.tree) [
        | inl strict ↦
            elim (known_or_fails d.0 s.context s.known) [
              | inl known ↦
                  inl (
                    record s { rules = u.0 },
                    record { added = d.0; is_difference = d.1; strict = strict; known = known; all = u.0; is_union = u.1; state = refl },
                  )
              | inr f ↦ inr (Known f.0, λ own. cc, (d.0, (d.1, strict, f.1)))
            ]
        | inr f ↦ inr (Group f.0, λ own. cc, (d.0, (d.1, f.1)))
      ]

  -- they are added in one way
  pub one_added : (t u : State) → HasAddedRules asked s t → HasAddedRules asked s u → t ≡ u
  one_added t u a b =
      a.state ∙ ap (λ (r : Rules). record s { rules = r }) (one_union asked s.rules a.all b.all a.is_union b.is_union) ∙ sym b.state

  -- where they are added there is no reason why not
  pub no_refusal : (new : State) (refused : StrictRefused) → refused ≢ OutOfMemory → HasAddedRules asked s new → IsStrictRefused asked s refused → ⊥
  no_refusal new (Group fault) own h f =
      no_fault_of_strict f.0 s.context s.tree fault
      (moved (λ (r : Rules). IsStrict r s.context s.tree) h.added f.0 h.is_difference f.1.0 h.strict) f.1.1
  no_refusal new (Known n) own h f =
      no_failing f.0 s.context s.known n
      (moved (λ (r : Rules). AreKnownStrict r s.context s.known) h.added f.0 h.is_difference f.1.0 h.known) f.1.2
  no_refusal new OutOfMemory own h f = own refl

  -- the reason is one
  pub one_refused : (x y : StrictRefused) → x ≢ OutOfMemory → y ≢ OutOfMemory → IsStrictRefused asked s x → IsStrictRefused asked s y → x ≡ y
  one_refused (Group x) (Group y) p q a b =
      ap Group (fault_is_unique b.0 s.context s.tree x y
      (moved (λ (r : Rules). IsStrictFault r s.context s.tree x) a.0 b.0 a.1.0 b.1.0 a.1.1) b.1.1)
  one_refused (Group x) (Known n) p q a b =
      absurd (no_fault_of_strict a.0 s.context s.tree x
      (moved (λ (r : Rules). IsStrict r s.context s.tree) b.0 a.0 b.1.0 a.1.0 b.1.1) a.1.1)
  one_refused (Known n) (Group y) p q a b =
      absurd (no_fault_of_strict b.0 s.context s.tree y
      (moved (λ (r : Rules). IsStrict r s.context s.tree) a.0 b.0 a.1.0 b.1.0 a.1.1) b.1.1)
  one_refused (Known n) (Known m) p q a b =
      ap Known (one_failing b.0 s.context s.known n m
      (moved (λ (r : Rules). FailsKnownAt r s.context s.known n) a.0 b.0 a.1.0 b.1.0 a.1.2) b.1.2)
  one_refused (Group x) OutOfMemory p q a b = absurd (q refl)
  one_refused (Known n) OutOfMemory p q a b = absurd (q refl)
  one_refused OutOfMemory y p q a b = absurd (p refl)
