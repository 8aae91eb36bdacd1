-- The first strict rule that a GroupContext and a tree do not meet, and the first place.
use Rattle.std.proofs.Common.{◌≡◌, ◌∙◌, ◌==◌, ℕ, zero, suc, ◌+◌, ◌-◌, ◌*◌, ◌<◌, ◌≤◌, ◌⊎◌, Bool, true, get_or, Option, Some, None, refl, sym, ap, add-one, inl, inr, arith}
use Rattle.std.proofs.lemmas.Bool.{agree_below_at, cases_Bool, cases_lt, cases_order, eqb-true}
use Rattle.mls_nodes.specs.NodeModel.{NodeValue}
use Rattle.mls_nodes.specs.declared.context.GroupContext.{GroupContext}
use Rattle.mls_tree.specs.Tree.{Tree, leaf_count, node_at}
use Rattle.mls_msgs.specs.Rules.{has_rule}
use Rattle.mls_msgs.specs.StrictRules.{strict_number}
use Rattle.mls_msgs.specs.declared.rules.Rules.{Rules}
use Rattle.mls_msgs.specs.declared.strict_rule.StrictRule.{StrictRule}
use Rattle.mls_msgs.specs.declared.strict_rule.StrictRule.TheVariants.{TagLength, ExtensionRepeated, ExtensionMisplaced, ExtensionUnreadable, KeyForm, CiphertextForm, GroupUnlisted, DefaultListed, LifetimeEmpty, CertificateKey, PskAhead, GroupExtensionUnsupported, PointOffCurve}
use Rattle.mls_strict.specs.ContentForms.{extensions_meet}
use Rattle.mls_strict.specs.StrictTrees.{FailsAt, IsStrict, IsStrictFault, Meets, NoFaultOfStrict, StrictFaultIsUnique, IsStrictTreeFault, tree_node_meets}
use Rattle.mls_strict.specs.StrictTreesInternal.{FindsFailingNode, HoldsBelow, IsFaultOf}
use Rattle.mls_strict.specs.declared.strict_fault.StrictFault.{StrictFault}
use Rattle.mls_strict.specs.declared.strict_fault.StrictTreeFault.{StrictTreeFault}
use Rattle.mls_strict.specs.declared.strict_fault.StrictTreeFault.TheVariants.{Strict, OutOfMemory}
use Rattle.mls_strict.specs.declared.strict_tree.TheConstants.{STRICT_RULES}
use Rattle.mls_strict.proofs.TreeNodes.{HoldsBelow-blank, HoldsBelow-node, HoldsBelow-whole}

-- ---- the rules by their numbers

rule_at : ℕ → StrictRule
rule_at k = get_or STRICT_RULES k TagLength

rule_at-number : (r : StrictRule) → rule_at (strict_number r - 40) ≡ r
unfolding rule_at
rule_at-number TagLength = refl
rule_at-number ExtensionRepeated = refl
rule_at-number ExtensionMisplaced = refl
rule_at-number ExtensionUnreadable = refl
rule_at-number KeyForm = refl
rule_at-number CiphertextForm = refl
rule_at-number GroupUnlisted = refl
rule_at-number DefaultListed = refl
rule_at-number LifetimeEmpty = refl
rule_at-number CertificateKey = refl
rule_at-number PskAhead = refl
rule_at-number GroupExtensionUnsupported = refl
rule_at-number PointOffCurve = refl

number-low : (r : StrictRule) → (40 ≤ strict_number r) × (strict_number r < 53)
number-low TagLength = (omega arith, omega arith)
number-low ExtensionRepeated = (omega arith, omega arith)
number-low ExtensionMisplaced = (omega arith, omega arith)
number-low ExtensionUnreadable = (omega arith, omega arith)
number-low KeyForm = (omega arith, omega arith)
number-low CiphertextForm = (omega arith, omega arith)
number-low GroupUnlisted = (omega arith, omega arith)
number-low DefaultListed = (omega arith, omega arith)
number-low LifetimeEmpty = (omega arith, omega arith)
number-low CertificateKey = (omega arith, omega arith)
number-low PskAhead = (omega arith, omega arith)
number-low GroupExtensionUnsupported = (omega arith, omega arith)
number-low PointOffCurve = (omega arith, omega arith)

-- whether the rule at a position has that number
has_number : ℕ → Bool
has_number k = strict_number (rule_at k) == 40 + k

number_at : (k : ℕ) → k < 13 → strict_number (rule_at k) ≡ 40 + k
unfolding rule_at has_number
number_at k low = eqb-true _ _ (agree_below_at has_number (λ _. true) 13 k refl low)

-- a rule is known by its number
pub same_rule : (r s : StrictRule) → strict_number r ≡ strict_number s → r ≡ s
same_rule r s e = sym (rule_at-number r) ∙ ap (λ n. rule_at (n - 40)) e ∙ rule_at-number s

-- ---- one rule

module _ (test : NodeValue → Bool) (t : Tree) where
  tested : (p : ℕ) → HoldsBelow test t p → (o : Option NodeValue) → node_at t p ≡ o
      → HoldsBelow test t (p + 1) ⊎ ((place : ℕ) × FindsFailingNode test t (Some place))
  tested p below None e = inl (HoldsBelow-blank test t p below (sym e))
  tested p below (Some n) e =
      elim (cases_Bool (test n)) [
        | inl holds ↦ inl (HoldsBelow-node test t p n below (sym e) holds)
        | inr fails ↦ inr (p, (below, (n, e, fails)))
      ]

  first_failing : (p : ℕ) → HoldsBelow test t p ⊎ ((place : ℕ) × FindsFailingNode test t (Some place))
  first_failing zero = inl (λ p n low e. absurd (omega arith))
  first_failing (suc p) =
      elim (first_failing p) [
        | inl below ↦ rw (← add-one) (tested p below (node_at t p) refl)
        | inr found ↦ inr found
      ]

  some_node : FindsFailingNode test t None ⊎ ((place : ℕ) × FindsFailingNode test t (Some place))
  some_node =
      elim (first_failing (2 * leaf_count t)) [
        | inl below ↦ inl (HoldsBelow-whole test t below)
        | inr found ↦ inr found
      ]

module _ (context : GroupContext) (t : Tree) (r : StrictRule) where
  rule_or_place : Meets context t r ⊎ ((place : Option ℕ) × FailsAt context t r place)
  rule_or_place =
      elim (cases_Bool (extensions_meet r context.extensions)) [
        | inl meets ↦
            elim (some_node (tree_node_meets context r) t) [
              | inl nodes ↦ inl (record { extensions = meets; nodes = nodes })
              | inr found ↦ inr (Some found.0, (meets, found.1.0, found.1.1))
            ]
        | inr fails ↦ inr (None, fails)
      ]

-- ---- the rules, by number

module _ (asked : Rules) (context : GroupContext) (t : Tree) where
  MeetBelow : ℕ → Type 0
  MeetBelow k = (r : StrictRule) → strict_number r < 40 + k → has_rule asked (strict_number r) ≡ true → Meets context t r

  -- one rule more
  MeetBelow-more : (k : ℕ) (s : StrictRule) → strict_number s ≡ 40 + k → MeetBelow k → (has_rule asked (strict_number s) ≡ true → Meets context t s) → MeetBelow (suc k)
  unfolding MeetBelow
  MeetBelow-more k s number below here r low is_asked =
      elim (cases_lt (strict_number r) (40 + k)) [
        | inl before ↦ below r before is_asked
        | inr after ↦
            let same : s ≡ r = same_rule s r (omega arith) in
            rw (← same) (here (rw (← same) at is_asked))
      ]

  at_rule : (k : ℕ) (s : StrictRule) → strict_number s ≡ 40 + k → MeetBelow k → MeetBelow (suc k) ⊎ ((fault : StrictFault) × IsStrictFault asked context t fault)
  unfolding MeetBelow
  at_rule k s number below =
      elim (cases_Bool (has_rule asked (strict_number s))) [
        | inl is_asked ↦
            elim (rule_or_place context t s) [
              | inl meets ↦ inl (MeetBelow-more k s number below (λ _. meets))
              | inr found ↦
                  inr (
                    record { rule = s; place = found.0 },
                    record {
                      is_asked = is_asked;
                      fails = found.1;
                      earlier = λ r low a. below r (omega arith) a;
                    },
                  )
            ]
        | inr not_asked ↦ inl (MeetBelow-more k s number below (λ is_asked. let bad = sym not_asked ∙ is_asked in absurd cc))
      ]

  some_fault : (k : ℕ) → k ≤ 13 → MeetBelow k ⊎ ((fault : StrictFault) × IsStrictFault asked context t fault)
  unfolding MeetBelow
  some_fault zero le = inl (λ r low is_asked. absurd (omega (arith, (number-low r).0)))
  some_fault (suc k) le =
      elim (some_fault k (omega arith)) [
        | inl below ↦ at_rule k (rule_at k) (number_at k (omega arith)) below
        | inr found ↦ inr found
      ]

  pub strict_or_fault : IsStrict asked context t ⊎ ((fault : StrictFault) × IsStrictFault asked context t fault)
  unfolding MeetBelow
  strict_or_fault =
      elim (some_fault 13 (omega arith)) [
        | inl below ↦ inl (λ r is_asked. below r (number-low r).1 is_asked)
        | inr found ↦ inr found
      ]

-- ---- at most one fault

module _ (context : GroupContext) (t : Tree) where
  -- a rule that is met fails nowhere
  fails_nowhere : (r : StrictRule) (place : Option ℕ) → Meets context t r → FailsAt context t r place → ⊥
  fails_nowhere r None meets fails = let bad = sym meets.extensions ∙ fails in absurd cc
  fails_nowhere r (Some p) meets fails = let bad = sym (meets.nodes p fails.2.0 fails.2.1) ∙ fails.2.2 in absurd cc

  -- a rule fails at one place
  one_place : (r : StrictRule) (p q : Option ℕ) → FailsAt context t r p → FailsAt context t r q → p ≡ q
  one_place r None None f g = refl
  one_place r None (Some q) f g = let bad = sym f ∙ g.0 in absurd cc
  one_place r (Some p) None f g = let bad = sym g ∙ f.0 in absurd cc
  one_place r (Some p) (Some q) f g =
      elim (cases_order p q) [
        | inl same ↦ ap Some same
        | inr (inl less) ↦ let bad = sym (g.1 p f.2.0 less f.2.1) ∙ f.2.2 in absurd cc
        | inr (inr more) ↦ let bad = sym (f.1 q g.2.0 more g.2.1) ∙ g.2.2 in absurd cc
      ]

abbrev fault_of : StrictRule → Option ℕ → StrictFault
fault_of rule place = record { rule = rule; place = place }

pub no_fault_of_strict : NoFaultOfStrict
no_fault_of_strict asked context t fault strict h = fails_nowhere context t fault.rule fault.place (strict fault.rule h.is_asked) h.fails

pub fault_is_unique : StrictFaultIsUnique
fault_is_unique asked context t one other h k =
    elim (cases_order (strict_number one.rule) (strict_number other.rule)) [
      | inl same ↦
          let rule : one.rule ≡ other.rule = same_rule one.rule other.rule same in
          let place : one.place ≡ other.place = one_place context t other.rule one.place other.place (rw rule at h.fails) k.fails in
          ap (λ r. fault_of r one.place) rule ∙ ap (λ p. fault_of other.rule p) place
      | inr (inl less) ↦ absurd (fails_nowhere context t one.rule one.place (k.earlier one.rule less h.is_asked) h.fails)
      | inr (inr more) ↦ absurd (fails_nowhere context t other.rule other.place (h.earlier other.rule more k.is_asked) k.fails)
    ]

-- ---- the fault of one rule, after those before it

module _ (asked : Rules) (context : GroupContext) (t : Tree) where
  pub fault-named : (k : ℕ) (s : StrictRule) (e : StrictTreeFault) → strict_number s ≡ 40 + k → has_rule asked (strict_number s) ≡ true
      → ((r : StrictRule) → strict_number r < 40 + k → has_rule asked (strict_number r) ≡ true → Meets context t r)
      → IsFaultOf context t s e → IsStrictTreeFault asked context t e
  fault-named k s OutOfMemory number is_asked below fails = tt
  fault-named k s (Strict fault) number is_asked below fails =
      let same : fault.rule ≡ s = fails.0 in
      record {
        is_asked = rw same is_asked;
        fails = rw same fails.1;
        earlier = λ r low a. below r (omega (arith, ap strict_number same)) a;
      }
