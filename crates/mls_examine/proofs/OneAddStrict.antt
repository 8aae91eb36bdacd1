-- The strict rules for a commit of one Add: those for the KeyPackage in the group.
use Rattle.std.proofs.Common.{◌≡◌, ◌∙◌, ℕ, List, [], ◌∷◌, Bool, true, false, Option, Some, None, refl, sym, ap}
use Rattle.std.specs.Prelude.{◌&&◌, ◌||◌, not, if◌then◌else◌, option_map, option_and_then}
use Rattle.std.proofs.lemmas.Option.{none-some, same_Some, option_and_then_some}
use Rattle.mls_nodes.specs.declared.context.GroupContext.{GroupContext}
use Rattle.mls_tree.specs.Tree.{Tree}
use Rattle.mls_tree.specs.TreeHash.{tree_hash}
use Rattle.mls_hash.specs.SuiteHash.{hash_of}
use Rattle.mls_msgs.specs.Rules.{has_rule}
use Rattle.mls_msgs.specs.StrictRules.{strict_number}
use Rattle.mls_msgs.specs.declared.authenticated.AuthenticatedParts.{AuthenticatedParts}
use Rattle.mls_msgs.specs.declared.commit.Commit.{Commit}
use Rattle.mls_msgs.specs.declared.framed_content.Content.TheVariants as contents
use Rattle.mls_msgs.specs.declared.key_package.KeyPackage.{KeyPackage}
use Rattle.mls_msgs.specs.declared.proposal.Proposal.TheVariants as proposals
use Rattle.mls_msgs.specs.declared.proposal.ProposalOrRef.TheVariants as entries
use Rattle.mls_msgs.specs.declared.rules.Rules.{Rules}
use Rattle.mls_msgs.specs.declared.strict_rule.StrictRule.{StrictRule}
use Rattle.mls_msgs.specs.declared.strict_rule.StrictRule.TheVariants as rules
use Rattle.mls_strict.specs.ContentForms.{content_meets, content_refusal, content_rules, first_unmet, package_meets, package_refusal}
use Rattle.mls_apply.specs.Transcript.{confirmed_hash, interim_hash}
use Rattle.mls_apply.specs.declared.refusal.Refusal.TheVariants.{Strict}
use Rattle.mls_follow.specs.NextState.{Transition, after_tree, committed}
use Rattle.mls_follow.specs.State.{State}
use Rattle.mls_follow.specs.StrictRules.{support_rules, supports_after, supports_extensions}
use Rattle.mls_follow.specs.StrictRulesInternal as late
use Rattle.mls_apply.specs.RuleLists.{first_failing}
use Rattle.mls_examine.specs.GroupInternal.{comes_last, with_support}

-- ---- the content

-- the commit whose list is the one Add
abbrev pub lone_commit : KeyPackage → Commit
lone_commit k = record { proposals = entries.Proposal (proposals.Add k) ∷ []; path = None }

met_once : (b : Bool) → ((b && true) && true) ≡ b
met_once true = refl
met_once false = refl

unmet_alike : (asked : Rules) (f g : StrictRule → Bool) → ((r : StrictRule) → f r ≡ g r) → (rs : List StrictRule) → first_unmet asked f rs ≡ first_unmet asked g rs
unmet_alike asked f g same [] = refl
unmet_alike asked f g same (r ∷ rs) =
    let rest = unmet_alike asked f g same rs in
    λ i. if not (has_rule asked (strict_number r)) || same r i then rest i else Some r

pub content_is_package : (asked : Rules) (context : GroupContext) (k : KeyPackage)
    → content_refusal asked context (contents.Commit (lone_commit k)) ≡ package_refusal asked context.cipher_suite context.version k
unfolding content_refusal package_refusal
content_is_package asked context k =
    unmet_alike asked (λ r. content_meets context r (contents.Commit (lone_commit k))) (λ r. package_meets context.version context.cipher_suite r k)
    (λ r. met_once (package_meets context.version context.cipher_suite r k)) content_rules

-- ---- rule 51

named_alike : (r : StrictRule) → late.comes_last (Strict r) ≡ comes_last r
named_alike rules.TagLength = refl
named_alike rules.ExtensionRepeated = refl
named_alike rules.ExtensionMisplaced = refl
named_alike rules.ExtensionUnreadable = refl
named_alike rules.KeyForm = refl
named_alike rules.CiphertextForm = refl
named_alike rules.GroupUnlisted = refl
named_alike rules.DefaultListed = refl
named_alike rules.LifetimeEmpty = refl
named_alike rules.CertificateKey = refl
named_alike rules.PskAhead = refl
named_alike rules.GroupExtensionUnsupported = refl
named_alike rules.PointOffCurve = refl

module _ (asked : Rules) (supported : Bool) where
  abbrev met : Bool
  met = not (has_rule asked 51) || supported

  none_before : (b : Bool) → (if b then None else Some (Strict rules.GroupExtensionUnsupported)) ≡ option_map Strict (with_support None b)
  none_before true = refl
  none_before false = refl

  one_before : (r : StrictRule) (last b : Bool)
      → (if last then late.or_then (if b then None else Some (Strict rules.GroupExtensionUnsupported)) (Some (Strict r)) else Some (Strict r))
      ≡ option_map Strict (if not last || b then Some r else Some rules.GroupExtensionUnsupported)
  one_before r true true = refl
  one_before r true false = refl
  one_before r false b = refl

  pub late_is_supported : (o : Option StrictRule) → late.support_refusal asked (option_map Strict o) supported ≡ option_map Strict (with_support o met)
  late_is_supported None = none_before met
  late_is_supported (Some r) =
      ap (λ (last : Bool). if last then late.or_then (first_failing (support_rules asked supported)) (Some (Strict r)) else Some (Strict r)) (named_alike r)
      ∙ one_before r (comes_last r) met

-- what is asked alone counts
pub asked_alike : (asked a b : Bool) → (asked ≡ true → a ≡ b) → (not asked || a) ≡ (not asked || b)
asked_alike true a b same = same refl
asked_alike false a b same = refl

-- ---- the state after a commit

mapped_from : {A B P : Type 0} (f : A → B) (o : Option A) (y : B) → option_map f o ≡ Some y → ((x : A) → f x ≡ y → P) → P
mapped_from f None y e go = absurd (none-some y e)
mapped_from f (Some x) y e go = go x (same_Some (f x) y e)

module _ (s : State) (a : AuthenticatedParts) (t : Tree) (step : Transition) where
  abbrev Supports : Type 0
  Supports = supports_after step.taken step.state ≡ supports_extensions s.context.extensions t

  pub step_supports : after_tree s a t ≡ Some step → Supports
  step_supports e =
      option_and_then_some (λ (hash : List ℕ). option_and_then (λ (confirmed : List ℕ). option_map (committed s t hash confirmed)
      (interim_hash (hash_of s.context.cipher_suite) confirmed a.confirmation_tag)) (confirmed_hash (hash_of s.context.cipher_suite) s.interim a))
      (tree_hash (hash_of s.context.cipher_suite) 0 t) step e
      (λ hash p q. option_and_then_some (λ (confirmed : List ℕ). option_map (committed s t hash confirmed)
      (interim_hash (hash_of s.context.cipher_suite) confirmed a.confirmation_tag)) (confirmed_hash (hash_of s.context.cipher_suite) s.interim a) step q
      (λ confirmed r u. mapped_from (committed s t hash confirmed) (interim_hash (hash_of s.context.cipher_suite) confirmed a.confirmation_tag) step u
      (λ interim is. ap (λ (v : Transition). supports_after v.taken v.state) (sym is))))
