-- What holds of the nodes of a tree, one after the other.
use Rattle.std.proofs.Common.{◌≡◌, ◌∙◌, ℕ, ◌+◌, ◌*◌, ◌≤◌, Bool, true, List, [], ◌∷◌, Option, Some, None, refl, sym, ap, inl, inr, arith}
use Rattle.std.specs.Prelude.{◌&&◌, map}
use Rattle.std.specs.List.{list_all}
use Rattle.std.proofs.lemmas.Bool.{cases_lt}
use Rattle.mls_nodes.specs.NodeModel.{NodeValue, leaf_node, parent_node}
use Rattle.mls_nodes.specs.declared.context.GroupContext.{GroupContext}
use Rattle.mls_nodes.specs.declared.extension.Extension.{Extension}
use Rattle.mls_nodes.specs.declared.leaf.LeafNode.{LeafNode}
use Rattle.mls_nodes.specs.declared.required_capabilities.RequiredCapabilities.{RequiredCapabilities}
use Rattle.mls_tree.specs.Tree.{Tree, entry_of, leaf_count, node_at, subtree_at}
use Rattle.mls_tree.proofs.Trees.{subtree_at-none}
use Rattle.mls_check.specs.LeafValidation.{supports_extension, supports_required}
use Rattle.mls_msgs.specs.declared.strict_rule.StrictRule.TheVariants.{GroupExtensionUnsupported}
use Rattle.mls_strict.specs.LeafForms.{supports_all, requires_types}
use Rattle.mls_strict.specs.StrictTrees.{tree_node_meets}
use Rattle.mls_strict.proofs.Booleans.{and_true}
use Rattle.mls_strict.specs.StrictTreesInternal.{HoldsBelow, FindsFailingNode, node_supports}

-- the types of extensions
abbrev pub types_of : List Extension → List ℕ
types_of es = map (λ e. e.kind) es

module _ (test : NodeValue → Bool) (t : Tree) where
  pub HoldsBelow-more : (p : ℕ) → HoldsBelow test t p → ((n : NodeValue) → node_at t p ≡ Some n → test n ≡ true) → HoldsBelow test t (p + 1)
  HoldsBelow-more p below here q n low e =
      elim (cases_lt q p) [
        | inl before ↦ below q n before e
        | inr after ↦ let same : q ≡ p = omega arith in here n (rw same at e)
      ]

  pub HoldsBelow-blank : (p : ℕ) → HoldsBelow test t p → None ≡ node_at t p → HoldsBelow test t (p + 1)
  HoldsBelow-blank p below blank = HoldsBelow-more p below (λ n e. let bad : ◌≡◌ {A = Option NodeValue} None (Some n) = blank ∙ e in absurd cc)

  pub HoldsBelow-node : (p : ℕ) (m : NodeValue) → HoldsBelow test t p → Some m ≡ node_at t p → test m ≡ true → HoldsBelow test t (p + 1)
  HoldsBelow-node p m below node holds =
      HoldsBelow-more p below (λ n e. let both : ◌≡◌ {A = Option NodeValue} (Some m) (Some n) = node ∙ e in let same : m ≡ n = cc in rw same at holds)

  past_the_end : (p : ℕ) (n : NodeValue) → 2 * leaf_count t ≤ p + 1 → node_at t p ≡ Some n → ⊥
  past_the_end p n end e =
      let none : subtree_at 0 t p ≡ None = subtree_at-none 0 t p (omega arith) in
      let bad : ◌≡◌ {A = Option NodeValue} None (Some n) = ap entry_of (sym none) ∙ e in absurd cc

  pub HoldsBelow-all : (count p : ℕ) → count + 1 ≡ 2 * leaf_count t → count ≤ p → HoldsBelow test t p → FindsFailingNode test t None
  HoldsBelow-all count p all end below q n e =
      elim (cases_lt q p) [
        | inl low ↦ below q n low e
        | inr high ↦ absurd (past_the_end q n (omega arith) e)
      ]

  pub HoldsBelow-whole : HoldsBelow test t (2 * leaf_count t) → FindsFailingNode test t None
  HoldsBelow-whole below q n e =
      elim (cases_lt q (2 * leaf_count t)) [
        | inl low ↦ below q n low e
        | inr high ↦ absurd (past_the_end q n (omega arith) e)
      ]

-- equal tests fail first at one node
pub FindsFailingNode-same : (f g : NodeValue → Bool) → ((n : NodeValue) → f n ≡ g n) → (t : Tree) (o : Option ℕ) → FindsFailingNode f t o → FindsFailingNode g t o
FindsFailingNode-same f g same t None h = λ p n e. sym (same n) ∙ h p n e
FindsFailingNode-same f g same t (Some place) h =
    (λ p n low e. sym (same n) ∙ h.0 p n low e, (h.1.0, h.1.1, sym (same h.1.0) ∙ h.1.2))

-- ---- the types of the GroupContext's extensions

all_types : (f : ℕ → Bool) (es : List Extension) → list_all f (types_of es) ≡ list_all (λ e. f e.kind) es
all_types f [] = refl
all_types f (e ∷ es) = ap (λ b. f e.kind && b) (all_types f es)

pub types_supported : (es : List Extension) (x : LeafNode) → supports_required (requires_types es) x ≡ supports_all es x
unfolding supports_required supports_all
types_supported es x =
    let all : Bool = list_all (supports_extension x) (types_of es) in
    and_true (all && true) ∙ and_true all ∙ all_types (supports_extension x) es

pub node-supports : (context : GroupContext) (required : RequiredCapabilities) → required ≡ requires_types context.extensions
    → (n : NodeValue) → node_supports required n ≡ tree_node_meets context GroupExtensionUnsupported n
node-supports context required is (leaf_node x) = ap (λ (r : RequiredCapabilities). supports_required r x) is ∙ types_supported context.extensions x
node-supports context required is (parent_node p) = refl
