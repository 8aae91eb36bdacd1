-- Which pending proposal is the first that does not meet strict rules, and what a state with more rules keeps.
use Rattle.std.proofs.Common.{◌≡◌, ◌≢◌, ◌∙◌, ◌+◌, ℕ, suc, List, ◌∷◌, Bool, true, false, Option, Some, None, is_some, not, ◌&&◌, ◌||◌, refl, sym, ap, subst, arith}
use Rattle.std.specs.Prelude.{OnErr, OnOk, Result, Ok, Err}
use Rattle.std.proofs.lemmas.Bool.{false≢true}
use Rattle.mls_nodes.specs.declared.context.GroupContext.{GroupContext}
use Rattle.mls_check.specs.Signatures.{VerifyFn}
use Rattle.mls_msgs.specs.Rules.{has_rule}
use Rattle.mls_msgs.specs.declared.rules.Rules.{Rules}
use Rattle.mls_msgs.specs.declared.strict_rule.StrictRule.{StrictRule}
use Rattle.mls_strict.specs.ContentForms.{proposal_refusal}
use Rattle.mls_apply.specs.declared.list_item.KnownProposal.{KnownProposal}
use Rattle.mls_follow.specs.AddedRules.{AreKnownStrict, FailsKnownAt, HasAddedRules}
use Rattle.mls_follow.specs.FollowerInvariant.{HasUniqueKeysAndValidLeaves}
use Rattle.mls_follow.specs.GroupModel.{group_state}
use Rattle.mls_follow.specs.State.{State}
use Rattle.mls_follow.specs.declared.group.Group.{Group}
use Rattle.mls_follow.specs.StrictRules.{supports_extensions}
use Rattle.mls_follow.proofs.Supporting.{strict_supports}

-- `GoesOn asked context all rest n`: what is found of the rest of a list, n after its beginning, is found of the list
pub record GoesOn (asked : Rules) (context : GroupContext) (all rest : List KnownProposal) (n : ℕ) : Type 0 where
  pub strict : AreKnownStrict asked context rest → AreKnownStrict asked context all
  pub fails : (m : ℕ) → FailsKnownAt asked context rest m → FailsKnownAt asked context all (n + m)

module _ (asked : Rules) (context : GroupContext) (all : List KnownProposal) where
  pub goes_on-first : GoesOn asked context all all 0
  goes_on-first = record { strict = λ h. h; fails = λ m h. subst (FailsKnownAt asked context all) (let e : m ≡ 0 + m = omega arith in e) h }

  pub goes_on-next : (k : KnownProposal) (rest : List KnownProposal) (n : ℕ) → GoesOn asked context all (k ∷ rest) n → proposal_refusal asked context k.proposal ≡ None
      → GoesOn asked context all rest (n + 1)
  goes_on-next k rest n g met = record {
    strict = λ h. g.strict (met, h);
    fails = λ m h.
        subst (FailsKnownAt asked context all) (let e : n + suc m ≡ n + 1 + m = omega arith in e) (g.fails (suc m) (met, h));
  }

  pub goes_on-here : (k : KnownProposal) (rest : List KnownProposal) (n : ℕ) → GoesOn asked context all (k ∷ rest) n → proposal_refusal asked context k.proposal ≢ None
      → FailsKnownAt asked context all n
  goes_on-here k rest n g unmet =
      subst (FailsKnownAt asked context all) (let e : n + 0 ≡ n = omega arith in e) (g.fails 0 unmet)

-- whether a proposal meets the rules, by the answer
pub some_unmet : (o : Option StrictRule) → is_some o ≡ true → o ≢ None
some_unmet o some none = false≢true (ap is_some (sym none) ∙ some)

pub none_met : (o : Option StrictRule) → is_some o ≡ false → o ≡ None
none_met None none = refl
none_met (Some r) none = absurd (false≢true (sym none))

-- ---- the invariant of a follower with more rules

-- a rule of the union is one that the state had, or one that was added
of_union : (a b c d : Bool) → d ≡ (a || b) → c ≡ (b && not a) → d ≡ true → (a ≡ false → c ≡ true)
of_union true b c d union difference has none = absurd (false≢true (sym none))
of_union false true c d union difference has none = difference
of_union false false c d union difference has none = absurd (false≢true (sym union ∙ has))

pub added_checked : (G : VerifyFn) (asked : Rules) (s new : State) → HasAddedRules asked s new → HasUniqueKeysAndValidLeaves G s → HasUniqueKeysAndValidLeaves G new
added_checked G asked s new h j = subst (HasUniqueKeysAndValidLeaves G) (sym h.state) (record { distinct = j.distinct; members = j.members; supported = supported })
  where
    by_former : (b : Bool) → has_rule s.rules 51 ≡ b → has_rule h.all 51 ≡ true → supports_extensions s.context.extensions s.tree ≡ true
    by_former true former has = j.supported former
    by_former false former has =
        strict_supports h.added s.context s.tree h.strict
        (of_union (has_rule s.rules 51) (has_rule asked 51) (has_rule h.added 51) (has_rule h.all 51) (h.is_union 51) (h.is_difference 51) has former)

    supported : has_rule h.all 51 ≡ true → supports_extensions s.context.extensions s.tree ≡ true
    supported has = by_former (has_rule s.rules 51) refl has

pub answered_checked : {A B : Type 0} (G : VerifyFn) (asked : Rules) (old new : Group) (r : Result A B) → OnOk r (HasAddedRules asked (group_state old) (group_state new))
    → OnErr r (new ≡ old) → HasUniqueKeysAndValidLeaves G (group_state old) → HasUniqueKeysAndValidLeaves G (group_state new)
answered_checked G asked old new (Ok x) made same j = added_checked G asked (group_state old) (group_state new) made j
answered_checked G asked old new (Err e) made same j = subst (λ (g : Group). HasUniqueKeysAndValidLeaves G (group_state g)) (sym same) j
