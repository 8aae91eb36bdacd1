-- Whether a GroupInfo and its tree meet the strict rules: they do, or there is one fault.
use Rattle.std.proofs.Common.{◌≡◌, ◌∙◌, ℕ, length, true, Option, None, refl, sym, ap, inl, inr}
use Rattle.std.specs.Prelude.{◌⊎◌}
use Rattle.std.proofs.lemmas.Bool.{cases_Bool, false≢true}
use Rattle.mls_tree.specs.RatchetTree.{RatchetTree}
use Rattle.mls_hash.specs.SuiteHash.{hash_length}
use Rattle.mls_msgs.specs.Rules.{has_rule}
use Rattle.mls_msgs.specs.declared.group_info.GroupInfo.{GroupInfo}
use Rattle.mls_msgs.specs.declared.rules.Rules.{Rules}
use Rattle.mls_msgs.specs.declared.strict_rule.StrictRule.{StrictRule}
use Rattle.mls_msgs.specs.declared.strict_rule.StrictRule.TheVariants.{TagLength, ExtensionRepeated}
use Rattle.mls_strict.proofs.FirstFaults.{strict_or_fault, no_fault_of_strict, fault_is_unique}
use Rattle.mls_strict.specs.ExtensionLists.{has_each_once}
use Rattle.mls_strict.specs.StrictTrees.{IsStrict}
use Rattle.mls_strict.specs.declared.strict_fault.StrictFault.{StrictFault}
use Rattle.mls_follow.proofs.Readings.{same_or_not}
use Rattle.mls_follow.specs.Start.{InfoMeets, IsInfoFault, IsStrictStartFault}

-- the GroupInfo by itself, its context and its tree meet the strict rules
pub record MeetsStrict (asked : Rules) (info : GroupInfo) (t : RatchetTree) : Type 0 where
  pub of_info : InfoMeets asked info
  pub of_tree : IsStrict asked info.context t.tree

abbrev fault_of : StrictRule → Option ℕ → StrictFault
fault_of rule place = record { rule = rule; place = place }

module _ (asked : Rules) (info : GroupInfo) where
  -- ---- the GroupInfo by itself

  abbrev HasTag : Type 0
  HasTag = length info.confirmation_tag ≡ hash_length info.context.cipher_suite

  abbrev InfoOrFault : Type 0
  InfoOrFault = InfoMeets asked info ⊎ ((rule : StrictRule) × IsInfoFault asked info rule)

  by_extensions : (has_rule asked 40 ≡ true → HasTag) → InfoOrFault
  by_extensions tag =
      elim (cases_Bool (has_rule asked 41)) [
        | inl is_asked ↦
            elim (cases_Bool (has_each_once info.extensions)) [
              | inl once ↦ inl (record { tag = tag; extensions = λ _. once })
              | inr repeated ↦ inr (ExtensionRepeated, (tag, is_asked, repeated))
            ]
        | inr not_asked ↦ inl (record { tag = tag; extensions = λ is_asked. absurd (false≢true (sym not_asked ∙ is_asked)) })
      ]

  info_or_fault : InfoOrFault
  info_or_fault =
      elim (cases_Bool (has_rule asked 40)) [
        | inl is_asked ↦
            elim (same_or_not (length info.confirmation_tag) (hash_length info.context.cipher_suite)) [
              | inl same ↦ by_extensions (λ _. same)
              | inr other ↦ inr (TagLength, (is_asked, other))
            ]
        | inr not_asked ↦ by_extensions (λ is_asked. absurd (false≢true (sym not_asked ∙ is_asked)))
      ]

  -- a rule that is met is no fault
  no_info_fault : (rule : StrictRule) → InfoMeets asked info → IsInfoFault asked info rule → ⊥
  no_info_fault TagLength meets h = h.1 (meets.tag h.0)
  no_info_fault ExtensionRepeated meets h = false≢true (sym h.2 ∙ meets.extensions h.1)
  no_info_fault _ meets h = absurd h

  -- one rule is the first
  one_info_fault : (r s : StrictRule) → IsInfoFault asked info r → IsInfoFault asked info s → r ≡ s
  one_info_fault TagLength TagLength a b = refl
  one_info_fault TagLength ExtensionRepeated a b = absurd (a.1 (b.0 a.0))
  one_info_fault ExtensionRepeated TagLength a b = absurd (b.1 (a.0 b.0))
  one_info_fault ExtensionRepeated ExtensionRepeated a b = refl
  one_info_fault TagLength _ a b = absurd b
  one_info_fault ExtensionRepeated _ a b = absurd b
  one_info_fault _ _ a b = absurd a

  -- ---- with the tree

  pub strict_or_fails : (t : RatchetTree) → MeetsStrict asked info t ⊎ ((fault : StrictFault) × IsStrictStartFault asked info t fault)
  strict_or_fails t =
      elim info_or_fault [
        | inl meets ↦
            elim (strict_or_fault asked info.context t.tree) [
              | inl strict ↦ inl (record { of_info = meets; of_tree = strict })
              | inr f ↦ inr (f.0, inr (meets, f.1))
            ]
        | inr f ↦ inr (fault_of f.0 None, inl (f.1, refl))
      ]

  pub no_strict_fails : (t : RatchetTree) (fault : StrictFault) → MeetsStrict asked info t → IsStrictStartFault asked info t fault → ⊥
  no_strict_fails t fault meets (inl h) = no_info_fault fault.rule meets.of_info h.0
  no_strict_fails t fault meets (inr h) = no_fault_of_strict asked info.context t.tree fault meets.of_tree h.1

  pub one_strict_fails : (t : RatchetTree) (f g : StrictFault) → IsStrictStartFault asked info t f → IsStrictStartFault asked info t g → f ≡ g
  one_strict_fails t f g (inl a) (inl b) =
      let rule : f.rule ≡ g.rule = one_info_fault f.rule g.rule a.0 b.0 in
      let place : f.place ≡ g.place = a.1 ∙ sym b.1 in
      ap (λ r. fault_of r f.place) rule ∙ ap (λ p. fault_of g.rule p) place
  one_strict_fails t f g (inl a) (inr b) = absurd (no_info_fault f.rule b.0 a.0)
  one_strict_fails t f g (inr a) (inl b) = absurd (no_info_fault g.rule a.0 b.0)
  one_strict_fails t f g (inr a) (inr b) = fault_is_unique asked info.context t.tree f g a.1 b.1
