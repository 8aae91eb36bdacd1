-- The rules of the profile, and the strict ones behind them.
use Rattle.std.proofs.Common.{◌≡◌, ◌∙◌, List, [], ◌∷◌, ◌++◌, Bool, true, false, Option, Some, None, refl, sym, ap}
use Rattle.std.specs.Prelude.{ℕ, map, option_map, ◌||◌, ◌&&◌, not, if◌then◌else◌}
use Rattle.std.specs.List.{list_all}
use Rattle.std.proofs.lemmas.Bool.{false≢true}
use Rattle.mls_nodes.specs.declared.required_capabilities.RequiredCapabilities.{RequiredCapabilities}
use Rattle.mls_check.specs.Signatures.{VerifyFn}
use Rattle.mls_check.proofs.Elements.{and-left, and-right}
use Rattle.mls_msgs.specs.Rules.{has_rule}
use Rattle.mls_msgs.specs.StrictRules.{strict_number}
use Rattle.mls_msgs.specs.declared.message.Message.{Message}
use Rattle.mls_msgs.specs.declared.message.Message.TheVariants as messages
use Rattle.mls_msgs.specs.declared.public_message.PublicParts.{PublicParts}
use Rattle.mls_msgs.specs.declared.rules.Rules.{Rules}
use Rattle.mls_msgs.specs.declared.strict_rule.StrictRule.{StrictRule}
use Rattle.mls_msgs.specs.declared.strict_rule.StrictRule.TheVariants as rules
use Rattle.mls_strict.specs.ContentForms.{content_refusal, content_rules, first_unmet}
use Rattle.mls_apply.specs.RuleLists.{Rule, rule, first_failing}
use Rattle.mls_apply.specs.declared.refusal.Refusal.{Refusal}
use Rattle.mls_apply.specs.declared.refusal.Refusal.TheVariants.{OutOfMemory, Strict, LifetimeOutside}
use Rattle.mls_apply.proofs.RuleLists.{AreOthers, first_failing-left, first_failing-right, no_rules, one_more, others_both, passed_both}
use Rattle.mls_follow.specs.AcceptanceInternal.{FailsWithRule, judged}
use Rattle.mls_follow.specs.MessageRules.{message_rules}
use Rattle.mls_follow.specs.NextState.{Transition, next}
use Rattle.mls_follow.specs.State.{State}
use Rattle.mls_follow.specs.StrictRules.{all_rules, last_strict_rules, message_strict_rules, strict_meets, strict_rule, strict_rules, support_rules, supports_next, tag_meets}
use Rattle.mls_follow.specs.Lifetimes.{all_rules_at, content_is_timely, lifetime_rules}
use Rattle.mls_follow.specs.StrictRulesInternal.{comes_last, late_refusal, late_rule, or_then, support_refusal, unmet_rule}

-- ---- lists with a common end

pub same_front : (xs ys zs : List (Rule Refusal)) → first_failing xs ≡ first_failing ys → first_failing (xs ++ zs) ≡ first_failing (ys ++ zs)
same_front xs ys zs same = go (first_failing xs) refl
  where
    go : (o : Option Refusal) → first_failing xs ≡ o → first_failing (xs ++ zs) ≡ first_failing (ys ++ zs)
    go None e = first_failing-right xs zs e ∙ sym (first_failing-right ys zs (sym same ∙ e))
    go (Some f) e = first_failing-left xs zs f e ∙ sym (first_failing-left ys zs f (sym same ∙ e))

-- what keeps all rules keeps those of the profile
pub plain_kept : (G : VerifyFn) (s : State) (required : RequiredCapabilities) (m : Message) → first_failing (all_rules G s required m) ≡ None
    → first_failing (message_rules G s required m) ≡ None
plain_kept G s required m h = (passed_both (message_rules G s required m) (strict_rules s m) (record { none = h })).0.none

-- and the strict ones
pub strict_kept : (G : VerifyFn) (s : State) (required : RequiredCapabilities) (m : Message) → first_failing (all_rules G s required m) ≡ None
    → first_failing (strict_rules s m) ≡ None
strict_kept G s required m h = (passed_both (message_rules G s required m) (strict_rules s m) (record { none = h })).1.none

pub both_kept : (G : VerifyFn) (s : State) (required : RequiredCapabilities) (m : Message) → first_failing (message_rules G s required m) ≡ None
    → first_failing (strict_rules s m) ≡ None → first_failing (all_rules G s required m) ≡ None
both_kept G s required m h k = first_failing-right (message_rules G s required m) (strict_rules s m) h ∙ k

-- a rule of the profile that fails is the first of all
pub plain_failed : (G : VerifyFn) (s : State) (required : RequiredCapabilities) (m : Message) (e : Refusal) → first_failing (message_rules G s required m) ≡ Some e
    → first_failing (all_rules G s required m) ≡ Some e
plain_failed G s required m e h = first_failing-left (message_rules G s required m) (strict_rules s m) e h

-- two checkers by which the rules of the profile say the same
pub all_alike : (G K : VerifyFn) (s : State) (required : RequiredCapabilities) (m : Message)
    → first_failing (message_rules G s required m) ≡ first_failing (message_rules K s required m)
    → first_failing (all_rules G s required m) ≡ first_failing (all_rules K s required m)
all_alike G K s required m same = same_front (message_rules G s required m) (message_rules K s required m) (strict_rules s m) same

-- ---- no strict rule is OutOfMemory

module _ (s : State) where
  own_list : (p : PublicParts) (rs : List StrictRule) → AreOthers OutOfMemory (map (strict_rule s p) rs)
  own_list p [] = no_rules
  own_list p (r ∷ rs) = one_more (λ e. cc) (own_list p rs)

  pub own_strict : (m : Message) → AreOthers OutOfMemory (strict_rules s m)
  own_strict (messages.Public p) =
      let support = support_rules s.rules (supports_next (next s (messages.Public p))) in
      let last = map (strict_rule s p) last_strict_rules in
      others_both (map (strict_rule s p) message_strict_rules) (support ++ last) (own_list p message_strict_rules)
      (others_both support last (one_more (λ e. cc) no_rules) (own_list p last_strict_rules))
  own_strict (messages.Unread _ _) = no_rules
  own_strict (messages.GroupInfo _) = no_rules
  own_strict (messages.KeyPackage _) = no_rules

-- ---- the first rule after those of the profile that fails

-- the rule does not come after 51
abbrev is_early : StrictRule → Bool
is_early r = not (comes_last (Strict r))

not_true : (c : Bool) → not c ≡ true → c ≡ false
not_true true e = absurd (false≢true e)
not_true false e = refl

-- such a rule is named whether 51 is met or not
early_first : (asked : Rules) (e : Refusal) (b : Bool) → comes_last e ≡ false → Some e ≡ support_refusal asked (Some e) b
early_first asked e b early = ap (λ (c : Bool). if c then or_then (first_failing (support_rules asked b)) (Some e) else Some e) (sym early)

pub other_first : (asked : Rules) (e : Refusal) (b : Bool) → comes_last e ≡ false → support_refusal asked (Some e) b ≡ Some e
other_first asked e b early = sym (early_first asked e b early)

last_named : (asked : Rules) (e : Refusal) (b : Bool) → comes_last e ≡ true → support_refusal asked (Some e) b ≡ or_then (first_failing (support_rules asked b)) (Some e)
last_named asked e b last = ap (λ (c : Bool). if c then or_then (first_failing (support_rules asked b)) (Some e) else Some e) last

-- the others are named if 51 is met
pub last_first : (asked : Rules) (e : Refusal) (b : Bool) → comes_last e ≡ true → first_failing (support_rules asked b) ≡ None
    → support_refusal asked (Some e) b ≡ Some e
last_first asked e b last met = last_named asked e b last ∙ ap (λ (o : Option Refusal). or_then o (Some e)) met

pub last_later : (asked : Rules) (e : Refusal) (b : Bool) (f : Refusal) → comes_last e ≡ true → FailsWithRule (first_failing (support_rules asked b)) f
    → FailsWithRule (support_refusal asked (Some e) b) f
last_later asked e b f last fails = λ own. last_named asked e b last ∙ ap (λ (o : Option Refusal). or_then o (Some e)) (fails own)

-- lists one after the other
or_none : (o : Option Refusal) → or_then o None ≡ o
or_none None = refl
or_none (Some e) = refl

or_twice : (o : Option Refusal) (e : Refusal) (x : Option Refusal) → or_then (or_then o (Some e)) x ≡ or_then o (Some e)
or_twice None e x = refl
or_twice (Some f) e x = refl

failing_then : (xs ys : List (Rule Refusal)) → first_failing (xs ++ ys) ≡ or_then (first_failing xs) (first_failing ys)
failing_then xs ys = go (first_failing xs) refl
  where
    go : (o : Option Refusal) → first_failing xs ≡ o → first_failing (xs ++ ys) ≡ or_then o (first_failing ys)
    go None e = first_failing-right xs ys e
    go (Some f) e = first_failing-left xs ys f e

module _ (s : State) (p : PublicParts) where
  abbrev Unmet : List StrictRule → Option StrictRule
  Unmet rs = first_unmet s.rules (λ r. strict_meets s r p) rs

  -- 51 and what comes after it
  by_last : (b : Bool)
      → first_failing (support_rules s.rules b ++ map (strict_rule s p) last_strict_rules) ≡ support_refusal s.rules (option_map Strict (Unmet last_strict_rules)) b
  by_last b = go (not (has_rule s.rules (strict_number rules.PointOffCurve)) || strict_meets s rules.PointOffCurve p)
    where
      both : (c : Bool) → (if c then Some (Strict rules.PointOffCurve) else Some (Strict rules.GroupExtensionUnsupported))
          ≡ or_then (if c then None else Some (Strict rules.GroupExtensionUnsupported)) (Some (Strict rules.PointOffCurve))
      both true = refl
      both false = refl

      go : (c : Bool) → first_failing (support_rules s.rules b ++ rule (Strict rules.PointOffCurve) c ∷ [])
          ≡ support_refusal s.rules (option_map Strict (if c then None else Some rules.PointOffCurve)) b
      go true = refl
      go false = both (not (has_rule s.rules (strict_number rules.GroupExtensionUnsupported)) || b)

  by_list : (b : Bool) (rs : List StrictRule) (qs : List (Rule Refusal)) (ws : List StrictRule) → list_all is_early rs ≡ true
      → first_failing qs ≡ support_refusal s.rules (option_map Strict (Unmet ws)) b
      → first_failing (map (strict_rule s p) rs ++ qs) ≡ support_refusal s.rules (option_map Strict (Unmet (rs ++ ws))) b
  by_list b [] qs ws early last = last
  by_list b (r ∷ rs) qs ws early last =
      go (not (has_rule s.rules (strict_number r)) || strict_meets s r p) (by_list b rs qs ws (and-right (is_early r) (list_all is_early rs) early) last)
    where
      go : (c : Bool) → first_failing (map (strict_rule s p) rs ++ qs) ≡ support_refusal s.rules (option_map Strict (Unmet (rs ++ ws))) b
          → (if c then first_failing (map (strict_rule s p) rs ++ qs) else Some (Strict r))
          ≡ support_refusal s.rules (option_map Strict (if c then Unmet (rs ++ ws) else Some r)) b
      go true later = later
      go false later = early_first s.rules (Strict r) b (not_true (comes_last (Strict r)) (and-left (is_early r) (list_all is_early rs) early))

  pub strict_word : first_failing (strict_rules s (messages.Public p)) ≡ late_refusal s.rules (option_map Strict (unmet_rule s p)) (next s (messages.Public p))
  unfolding unmet_rule
  strict_word =
      let supported = supports_next (next s (messages.Public p)) in
      by_list supported message_strict_rules (support_rules s.rules supported ++ map (strict_rule s p) last_strict_rules) last_strict_rules refl
      (by_last supported)

  -- the rule for lifetimes comes last
  by_lifetime : (o : Option StrictRule) (b t : Bool)
      → or_then (support_refusal s.rules (option_map Strict o) b) (if t then None else Some LifetimeOutside)
      ≡ support_refusal s.rules (or_then (option_map Strict o) (if t then None else Some LifetimeOutside)) b
  by_lifetime None b true = or_none (first_failing (support_rules s.rules b))
  by_lifetime None b false = refl
  by_lifetime (Some r) b t = go (comes_last (Strict r))
    where
      go : (c : Bool)
          → or_then (if c then or_then (first_failing (support_rules s.rules b)) (Some (Strict r)) else Some (Strict r)) (if t then None else Some LifetimeOutside)
          ≡ (if c then or_then (first_failing (support_rules s.rules b)) (Some (Strict r)) else Some (Strict r))
      go true = or_twice (first_failing (support_rules s.rules b)) (Strict r) (if t then None else Some LifetimeOutside)
      go false = refl

  late_word : (now : Option ℕ) → first_failing (strict_rules s (messages.Public p) ++ lifetime_rules now (messages.Public p))
      ≡ late_refusal s.rules (late_rule now s p) (next s (messages.Public p))
  unfolding late_rule
  late_word now =
      failing_then (strict_rules s (messages.Public p)) (lifetime_rules now (messages.Public p))
      ∙ ap (λ (o : Option Refusal). or_then o (first_failing (lifetime_rules now (messages.Public p)))) strict_word
      ∙ go now
    where
      go : (now : Option ℕ)
          → or_then (late_refusal s.rules (option_map Strict (unmet_rule s p)) (next s (messages.Public p))) (first_failing (lifetime_rules now (messages.Public p)))
          ≡ late_refusal s.rules (or_then (option_map Strict (unmet_rule s p)) (first_failing (lifetime_rules now (messages.Public p)))) (next s (messages.Public p))
      go None = by_lifetime (unmet_rule s p) (supports_next (next s (messages.Public p))) true
      go (Some t) = by_lifetime (unmet_rule s p) (supports_next (next s (messages.Public p))) (content_is_timely t p.auth.content.content)

  -- the first rule that fails
  pub all_word : (now : Option ℕ) (G : VerifyFn) (required : RequiredCapabilities)
      → judged (late_refusal s.rules (late_rule now s p)) (first_failing (message_rules G s required (messages.Public p))) (next s (messages.Public p))
      ≡ first_failing (all_rules_at now G s required (messages.Public p))
  all_word now G required =
      go (message_rules G s required (messages.Public p)) (strict_rules s (messages.Public p)) (lifetime_rules now (messages.Public p)) (late_word now)
      (first_failing (message_rules G s required (messages.Public p))) refl
    where
      go : (ms ss ls : List (Rule Refusal)) → first_failing (ss ++ ls) ≡ late_refusal s.rules (late_rule now s p) (next s (messages.Public p))
          → (o : Option Refusal) → first_failing ms ≡ o
          → judged (late_refusal s.rules (late_rule now s p)) o (next s (messages.Public p)) ≡ first_failing ((ms ++ ss) ++ ls)
      go ms ss ls late None e = sym late ∙ sym (same_front (ms ++ ss) ss ls (first_failing-right ms ss e))
      go ms ss ls late (Some f) e = sym (first_failing-left (ms ++ ss) ls f (first_failing-left ms ss f e))

-- ---- what is judged

module _ (strict : Option Transition → Option Refusal) (failing : Option Refusal) (after : Option Transition) where
  pub judged_first : (e : Refusal) → failing ≡ Some e → judged strict failing after ≡ Some e
  judged_first e h = ap (λ (o : Option Refusal). judged strict o after) h

  pub judged_fails : (e : Refusal) → FailsWithRule failing e → FailsWithRule (judged strict failing after) e
  judged_fails e h = λ own. judged_first e (h own)

  pub judged_last : failing ≡ None → judged strict failing after ≡ strict after
  judged_last h = ap (λ (o : Option Refusal). judged strict o after) h

-- ---- the strict rules for a message by itself

module _ (s : State) (p : PublicParts) where
  abbrev Tags : Bool
  Tags = tag_meets s.context.cipher_suite p.auth.confirmation_tag && tag_meets s.context.cipher_suite p.membership_tag

  -- a tag that is asked has another length
  pub tags_unmet : has_rule s.rules 40 ≡ true → Tags ≡ false → unmet_rule s p ≡ Some rules.TagLength
  unfolding unmet_rule
  tags_unmet asked other = go (has_rule s.rules 40) Tags asked other
    where
      go : (a b : Bool) → a ≡ true → b ≡ false
          → (if not a || b then first_unmet s.rules (λ r. strict_meets s r p) content_rules else Some rules.TagLength) ≡ Some rules.TagLength
      go true false e f = refl
      go true true e f = absurd cc
      go false b e f = absurd cc

  -- each tag that is asked has its length
  pub content_unmet : (not (has_rule s.rules 40) || Tags) ≡ true → unmet_rule s p ≡ content_refusal s.rules s.context p.auth.content.content
  unfolding unmet_rule content_refusal
  content_unmet kept = go (not (has_rule s.rules 40) || Tags) (content_refusal s.rules s.context p.auth.content.content) kept
    where
      go : (b : Bool) (o : Option StrictRule) → b ≡ true → (if b then o else Some rules.TagLength) ≡ o
      go true o e = refl
      go false o e = absurd cc
