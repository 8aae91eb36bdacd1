-- The rules of a GroupInfo of the present epoch, part by part.
use Rattle.std.proofs.Common.{◌≡◌, ◌∙◌, List, [], ◌∷◌, ◌++◌, false, Some, None, refl}
use Rattle.mls_msgs.specs.declared.group_info.GroupInfo.{GroupInfo}
use Rattle.mls_apply.specs.RuleLists.{Rule, rule, first_failing}
use Rattle.mls_apply.proofs.RuleLists.{AreKept, AreOthers, first_failing-left, first_failing-right, no_rules, one_more, passed_both}
use Rattle.mls_follow.specs.State.{State}
use Rattle.mls_examine.specs.CurrentInfos.{context_rules, current_fault, epoch_rules, has_content, part_rules}
use Rattle.mls_examine.specs.declared.unfit.Unfit.{Unfit}
use Rattle.mls_examine.specs.declared.unfit.Unfit.TheVariants as unfit
use Rattle.mls_examine.proofs.Faults.{apart, is_ruled}

module _ (s : State) (info : GroupInfo) where
  abbrev pub last_rules : List (Rule Unfit)
  last_rules = rule unfit.Malformed (has_content info) ∷ []

  abbrev pub after_epoch : List (Rule Unfit)
  after_epoch = part_rules s info ++ last_rules

  abbrev pub after_context : List (Rule Unfit)
  after_context = epoch_rules s info ++ after_epoch

  -- all of them hold
  pub record KeptRules : Type 0 where
    pub context : AreKept (context_rules s info)
    pub epoch : AreKept (epoch_rules s info)
    pub parts : AreKept (part_rules s info)
    pub last : AreKept last_rules

  pub kept_rules : current_fault s info ≡ None → KeptRules
  unfolding current_fault
  kept_rules none =
      let all : AreKept (context_rules s info ++ after_context) = record { none = none } in
      let first = passed_both (context_rules s info) after_context all in
      let second = passed_both (epoch_rules s info) after_epoch first.1 in
      let third = passed_both (part_rules s info) last_rules second.1 in
      record { context = first.0; epoch = second.0; parts = third.0; last = third.1 }

  -- no rule has another reason than that of a rule
  module _ (e : Unfit) (other : is_ruled e ≡ false) where
    pub context_others : AreOthers e (context_rules s info)
    context_others = one_more (apart _ e refl other) (one_more (apart _ e refl other) (one_more (apart _ e refl other) no_rules))

    pub epoch_others : AreOthers e (epoch_rules s info)
    epoch_others = one_more (apart _ e refl other) (one_more (apart _ e refl other) (one_more (apart _ e refl other) no_rules))

    pub part_others : AreOthers e (part_rules s info)
    part_others = one_more (apart _ e refl other) (one_more (apart _ e refl other) (one_more (apart _ e refl other) no_rules))

  -- the first that fails is one of a part
  pub context_fails : (e : Unfit) → first_failing (context_rules s info) ≡ Some e → current_fault s info ≡ Some e
  unfolding current_fault
  context_fails e h = first_failing-left (context_rules s info) after_context e h

  module _ (context : first_failing (context_rules s info) ≡ None) where
    after_first : current_fault s info ≡ first_failing after_context
    unfolding current_fault
    after_first = first_failing-right (context_rules s info) after_context context

    pub epoch_fails : (e : Unfit) → first_failing (epoch_rules s info) ≡ Some e → current_fault s info ≡ Some e
    epoch_fails e h = after_first ∙ first_failing-left (epoch_rules s info) after_epoch e h

    module _ (epoch : first_failing (epoch_rules s info) ≡ None) where
      after_second : current_fault s info ≡ first_failing after_epoch
      after_second = after_first ∙ first_failing-right (epoch_rules s info) after_epoch epoch

      pub part_fails : (e : Unfit) → first_failing (part_rules s info) ≡ Some e → current_fault s info ≡ Some e
      part_fails e h = after_second ∙ first_failing-left (part_rules s info) last_rules e h

      module _ (parts : first_failing (part_rules s info) ≡ None) where
        pub after_parts : current_fault s info ≡ first_failing last_rules
        after_parts = after_second ∙ first_failing-right (part_rules s info) last_rules parts
