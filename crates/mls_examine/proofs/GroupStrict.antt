-- The strict rules of a KeyPackage in a group: those for a KeyPackage by itself, and 51 before 52.
use Rattle.std.proofs.Common.{◌≡◌, ◌∙◌, Bool, true, false, Option, Some, None, refl, sym}
use Rattle.std.specs.Prelude.{◌||◌, not, if◌then◌else◌}
use Rattle.std.proofs.lemmas.Option.{none-some}
use Rattle.mls_nodes.specs.declared.context.GroupContext.{GroupContext}
use Rattle.mls_msgs.specs.Rules.{has_rule}
use Rattle.mls_msgs.specs.StrictRules.{strict_number}
use Rattle.mls_msgs.specs.declared.key_package.KeyPackage.{KeyPackage}
use Rattle.mls_msgs.specs.declared.rules.Rules.{Rules}
use Rattle.mls_msgs.specs.declared.strict_rule.StrictRule.{StrictRule}
use Rattle.mls_msgs.specs.declared.strict_rule.StrictRule.TheVariants as rules
use Rattle.mls_strict.specs.ContentForms.{package_meets, package_refusal}
use Rattle.mls_examine.specs.AddablePackages.{group_package_refusal}
use Rattle.mls_examine.specs.GroupInternal.{comes_last, supports_group, with_support}

-- a rule before 51 decides alike
step : (b : Bool) (r : StrictRule) (x y : Option StrictRule) (met : Bool) → x ≡ with_support y met → with_support (Some r) met ≡ Some r
    → (if b then x else Some r) ≡ with_support (if b then y else Some r) met
step true r x y met h before = h
step false r x y met h before = sym before

-- 51 comes before 52
last : (met b : Bool) → (if met then (if b then None else Some rules.PointOffCurve) else Some rules.GroupExtensionUnsupported)
    ≡ with_support (if b then None else Some rules.PointOffCurve) met
last true true = refl
last true false = refl
last false true = refl
last false false = refl

module _ (asked : Rules) (context : GroupContext) (k : KeyPackage) where
  abbrev passes : StrictRule → Bool
  passes r = not (has_rule asked (strict_number r)) || package_meets context.version context.cipher_suite r k

  abbrev supports : Bool
  supports = supports_group asked context k

  pub refusal_in_group : group_package_refusal asked context k ≡ with_support (package_refusal asked context.cipher_suite context.version k) supports
  unfolding group_package_refusal package_refusal
  refusal_in_group =
      step (passes rules.ExtensionRepeated) rules.ExtensionRepeated _ _ supports
      (step (passes rules.ExtensionMisplaced) rules.ExtensionMisplaced _ _ supports
      (step (passes rules.ExtensionUnreadable) rules.ExtensionUnreadable _ _ supports
      (step (passes rules.KeyForm) rules.KeyForm _ _ supports
      (step (passes rules.CiphertextForm) rules.CiphertextForm _ _ supports
      (step (passes rules.GroupUnlisted) rules.GroupUnlisted _ _ supports
      (step (passes rules.DefaultListed) rules.DefaultListed _ _ supports
      (step (passes rules.LifetimeEmpty) rules.LifetimeEmpty _ _ supports
      (step (passes rules.CertificateKey) rules.CertificateKey _ _ supports
      (step (passes rules.PskAhead) rules.PskAhead _ _ supports
      (last supports (passes rules.PointOffCurve)) refl) refl) refl) refl) refl) refl) refl) refl) refl) refl

  pub refusal_by : (unmet : Option StrictRule) (met : Bool) → unmet ≡ package_refusal asked context.cipher_suite context.version k
      → met ≡ supports_group asked context k → with_support unmet met ≡ group_package_refusal asked context k
  refusal_by unmet met p q = (λ i. with_support (p i) (q i)) ∙ sym refusal_in_group

-- a KeyPackage that meets all of them meets those for one by itself
pub none_by_itself : (o : Option StrictRule) (met : Bool) → with_support o met ≡ None → o ≡ None
none_by_itself None met h = refl
none_by_itself (Some r) met h = absurd (go (not (comes_last r) || met) h)
  where
    go : (b : Bool) → (if b then Some r else Some rules.GroupExtensionUnsupported) ≡ None → ⊥
    go true e = none-some r (sym e)
    go false e = none-some rules.GroupExtensionUnsupported (sym e)
