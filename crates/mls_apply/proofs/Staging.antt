-- What is found at the node indices that changed, told of the whole tree.
use Rattle.std.proofs.Common.{◌≡◌, ◌↔◌, ℕ, List, Bool, true, false, Option, Some, None, Result, Ok, Err, refl, sym}
use Rattle.std.specs.Prelude.{IsTrue, IfOk, MatchOption, is_some}
use Rattle.std.proofs.lemmas.Bool.{false≢true}
use Rattle.mls_nodes.specs.declared.context.GroupContext.{GroupContext}
use Rattle.mls_nodes.specs.declared.leaf.LeafNode.{LeafNode}
use Rattle.mls_nodes.specs.declared.required_capabilities.RequiredCapabilities.{RequiredCapabilities}
use Rattle.mls_tree.specs.ChangedNodes.{AgreeExceptAt}
use Rattle.mls_tree.specs.Tree.{Tree}
use Rattle.mls_check.specs.DistinctKeys.{has_distinct_keys}
use Rattle.mls_check.specs.LeafValidation.{all_leaves, FindsFailing, LeavesAreValid, is_leaf_signed, supports_own_extensions, supports_required}
use Rattle.mls_check.specs.Signatures.{VerifyFn}
use Rattle.mls_check.proofs.Distinctness.{distinct-by_keys}
use Rattle.mls_index.specs.FirstChanged.{FindsFailingAt, leaf_rule}
use Rattle.mls_index.specs.IncrementalCheck.{AreUniqueKeys}
use Rattle.mls_index.specs.declared.changed_leaves.LeafRule.TheVariants.{Extensions, Requirements, Signature}
use Rattle.mls_index.specs.declared.node_key.KeyKind.TheVariants.{Encryption}
use Rattle.mls_index.proofs.Changed.{changed_keys, changed_first, members-extensions, members-signatures}

same_answer : (a b : Bool) → (a ≡ true → b ≡ true) → (b ≡ true → a ≡ true) → a ≡ b
same_answer true b there back = sym (there refl)
same_answer false true there back = back refl
same_answer false false there back = refl

-- a value that is there
pub some_there : {A : Type 0} (o : Option A) (P : A → Type 0) → MatchOption o (Unit {0}) P → is_some o ≡ true → (a : A) × P a
some_there (Some a) P h e = (a, h)
some_there None P h e = absurd (false≢true e)

module _ (node_indices : List ℕ) (base t : Tree) (same : AgreeExceptAt node_indices base t) where
  -- the keys at the changed node indices decide whether all are distinct
  pub distinct_there : has_distinct_keys base ≡ true → (own : Bool) → IsTrue own ↔ AreUniqueKeys Encryption node_indices t → own ≡ has_distinct_keys t
  distinct_there distinct own looked =
      let decided = changed_keys node_indices base t same ((distinct-by_keys base).0 distinct) in
      same_answer own (has_distinct_keys t) (λ e. (distinct-by_keys t).1 (decided.1 (looked.0 e))) (λ e. looked.1 (decided.0 ((distinct-by_keys t).0 e)))

  -- the first leaf there that fails a test is the first one of the tree
  pub first_there : {E : Type 0} (test : ℕ → LeafNode → Bool) → all_leaves test 0 base ≡ true → (found : Result (Option ℕ) E) → IfOk found (FindsFailingAt test node_indices t)
      → IfOk found (FindsFailing test t)
  first_there test was (Ok o) h = changed_first test node_indices base t same was o h
  first_there test was (Err e) h = tt

-- ---- the rules of one leaf by their names

module _ (G : VerifyFn) (context : GroupContext) (required : RequiredCapabilities) (t : Tree) where
  pub extensions_kept : (former : RequiredCapabilities) → LeavesAreValid G context.cipher_suite context.group_id former t
      → all_leaves (leaf_rule G context required Extensions) 0 t ≡ true
  unfolding leaf_rule
  extensions_kept former m = members-extensions G context.cipher_suite context.group_id former t m

  pub signatures_kept : (former : RequiredCapabilities) → LeavesAreValid G context.cipher_suite context.group_id former t
      → all_leaves (leaf_rule G context required Signature) 0 t ≡ true
  unfolding leaf_rule
  signatures_kept former m = members-signatures G context.cipher_suite context.group_id former t m

  pub requirements_kept : all_leaves (λ _ x. supports_required required x) 0 t ≡ true → all_leaves (leaf_rule G context required Requirements) 0 t ≡ true
  unfolding leaf_rule
  requirements_kept e = e

  pub extensions_found : (o : Option ℕ) → FindsFailing (leaf_rule G context required Extensions) t o → FindsFailing (λ _ x. supports_own_extensions x) t o
  unfolding leaf_rule
  extensions_found o h = h

  pub requirements_found : {E : Type 0} (found : Result (Option ℕ) E) → IfOk found (FindsFailing (leaf_rule G context required Requirements) t)
      → IfOk found (FindsFailing (λ _ x. supports_required required x) t)
  unfolding leaf_rule
  requirements_found found h = h

  pub signatures_found : (o : Option ℕ) → FindsFailing (leaf_rule G context required Signature) t o
      → FindsFailing (is_leaf_signed G context.cipher_suite context.group_id) t o
  unfolding leaf_rule
  signatures_found o h = h
