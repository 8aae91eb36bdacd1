-- The leaf nodes of a follower with strict rule 51 support the types of the context's extensions.
use Rattle.std.proofs.Common.{◌≡◌, ◌∙◌, ◌*◌, ℕ, ◌+◌, List, ◌++◌, Bool, true, false, is_none, is_some, Option, Some, None, refl, sym, ap, subst}
use Rattle.std.specs.Prelude.{map, ◌&&◌, ◌||◌, not}
use Rattle.std.proofs.lemmas.Bool.{false≢true}
use Rattle.std.proofs.lemmas.Option.{none-some}
use Rattle.mls_nodes.specs.NodeModel.{leaf_node}
use Rattle.mls_nodes.specs.declared.context.GroupContext.{GroupContext}
use Rattle.mls_nodes.specs.declared.leaf.LeafNode.{LeafNode}
use Rattle.mls_nodes.specs.declared.required_capabilities.RequiredCapabilities.{RequiredCapabilities}
use Rattle.mls_tree.specs.Tree.{Tree, leaf, branch, leaf_count, leaf_entry}
use Rattle.mls_tree.proofs.Positions.{node_at-listing, leaf_at-listing}
use Rattle.mls_index.proofs.Changed.{all_leaves-each}
use Rattle.mls_check.specs.Signatures.{VerifyFn}
use Rattle.mls_msgs.specs.Rules.{has_rule}
use Rattle.mls_msgs.specs.declared.message.Message.{Message}
use Rattle.mls_msgs.specs.declared.message.Message.TheVariants as messages
use Rattle.mls_msgs.specs.declared.rules.Rules.{Rules}
use Rattle.mls_msgs.specs.declared.strict_rule.StrictRule.TheVariants as rules
use Rattle.mls_strict.specs.LeafForms.{requires_types, supports_all}
use Rattle.mls_strict.proofs.TreeNodes.{types_supported}
use Rattle.mls_check.specs.LeafValidation.{FindsFailing, all_leaves, supports_required}
use Rattle.mls_check.proofs.CheckedTrees.{FailsFirst-not_all}
use Rattle.mls_nodes.specs.declared.extension.Extension.{Extension}
use Rattle.mls_strict.specs.StrictTrees.{IsStrict}
use Rattle.mls_apply.specs.RuleLists.{first_failing}
use Rattle.mls_apply.proofs.RuleLists.{AreKept, passed_both, passed}
use Rattle.mls_follow.specs.State.{State}
use Rattle.mls_follow.specs.NextState.{Transition, next}
use Rattle.mls_follow.specs.StrictRules.{all_rules, last_strict_rules, message_strict_rules, strict_rule, support_rules, supports_after, supports_extensions, supports_next}
use Rattle.mls_follow.specs.Acceptance.{IsAcceptable, IsNext}
use Rattle.mls_follow.proofs.Answering.{one_message}
use Rattle.mls_follow.proofs.StrictLists.{strict_kept}

-- of a strict context and tree
pub strict_supports : (asked : Rules) (context : GroupContext) (t : Tree) → IsStrict asked context t → has_rule asked 51 ≡ true
    → supports_extensions context.extensions t ≡ true
strict_supports asked context t strict has =
    all_leaves-each (λ _ x. supports_all context.extensions x) t
    (λ i x at. (strict rules.GroupExtensionUnsupported has).nodes (2 * i) (leaf_node x)
    (node_at-listing t (2 * i) ∙ sym (leaf_at-listing t i) ∙ ap leaf_entry at))

-- ---- the leaves of a tree, by what the types of the extensions require

module _ (test other : ℕ → LeafNode → Bool) (same : (i : ℕ) (x : LeafNode) → test i x ≡ other i x) where
  leaves_alike : (first : ℕ) (t : Tree) → all_leaves test first t ≡ all_leaves other first t
  leaves_alike first (leaf None) = refl
  leaves_alike first (leaf (Some x)) = same first x
  leaves_alike first (branch l n r) =
      let left = leaves_alike first l in
      let right = leaves_alike (first + leaf_count l) r in
      λ i. left i && right i

  found_alike : (t : Tree) (o : Option ℕ) → FindsFailing test t o → is_none o ≡ all_leaves other 0 t
  found_alike t None all = sym (sym (leaves_alike 0 t) ∙ all)
  found_alike t (Some i) fails = by_all (all_leaves test 0 t) refl
    where
      by_all : (b : Bool) → all_leaves test 0 t ≡ b → false ≡ all_leaves other 0 t
      by_all true all = absurd (FailsFirst-not_all test t i fails all)
      by_all false e = sym (sym (leaves_alike 0 t) ∙ e)

module _ (es : List Extension) (required : RequiredCapabilities) (is : required ≡ requires_types es) where
  alike : (i : ℕ) (x : LeafNode) → supports_required required x ≡ supports_all es x
  alike i x = ap (λ (r : RequiredCapabilities). supports_required r x) is ∙ types_supported es x

  pub required_leaves : (t : Tree) → all_leaves (λ _ x. supports_required required x) 0 t ≡ supports_extensions es t
  required_leaves t = leaves_alike (λ _ x. supports_required required x) (λ _ x. supports_all es x) alike 0 t

  pub required_found : (t : Tree) (o : Option ℕ) → FindsFailing (λ _ x. supports_required required x) t o → is_none o ≡ supports_extensions es t
  required_found t o h = found_alike (λ _ x. supports_required required x) (λ _ x. supports_all es x) alike t o h

-- a call answers whether nothing was found
pub none_of : {A : Type 0} (o : Option A) (b : Bool) → is_some o ≡ not b → b ≡ is_none o
none_of None true e = refl
none_of None false e = absurd (false≢true e)
none_of (Some x) true e = absurd (false≢true (sym e))
none_of (Some x) false e = refl

-- ---- a follower with rule 51

-- a rule that is asked holds
kept_supports : (asked supported : Bool) → asked ≡ true → (not asked || supported) ≡ true → supported ≡ true
kept_supports true supported has kept = kept
kept_supports false supported has kept = absurd cc

rule_supports : (asked : Rules) (supported : Bool) → has_rule asked 51 ≡ true → AreKept (support_rules asked supported) → supported ≡ true
rule_supports asked supported has kept = kept_supports (has_rule asked 51) supported has (passed kept).0

-- after what was accepted
module _ (G : VerifyFn) (s : State) (has : has_rule s.rules 51 ≡ true) where
  next_supports : (required : RequiredCapabilities) (m : Message) (step : Transition) → first_failing (all_rules G s required m) ≡ None → next s m ≡ Some step
      → supports_after step.taken step.state ≡ true
  next_supports required (messages.Public p) step kept e =
      subst (λ (o : Option Transition). supports_next o ≡ true) e
      (let support = support_rules s.rules (supports_next (next s (messages.Public p))) in
      let last = map (strict_rule s p) last_strict_rules in
      let later = (passed_both (map (strict_rule s p) message_strict_rules) (support ++ last)
      (record { none = strict_kept G s required (messages.Public p) kept })).1 in
      rule_supports s.rules (supports_next (next s (messages.Public p))) has (passed_both support last later).0)
  next_supports required (messages.Unread w b) step kept e = absurd (none-some step e)
  next_supports required (messages.GroupInfo g) step kept e = absurd (none-some step e)
  next_supports required (messages.KeyPackage k) step kept e = absurd (none-some step e)

  pub accepted_supports : (bytes : List ℕ) (step : Transition) → IsAcceptable G s bytes → IsNext s bytes step → supports_after step.taken step.state ≡ true
  accepted_supports bytes step a n =
      next_supports a.required a.message step a.rules_hold (ap (next s) (one_message a.message n.message bytes a.encoded n.encoded) ∙ n.after)
