-- Slots that are read, and that are filled one after the other, the children's first.
use Rattle.std.proofs.Common.{◌≡◌, ◌≢◌, ℕ, ◌+◌, ◌*◌, ◌<◌, Bool, true, false, List, [], Option, Some, None, IsSome, refl, sym, ap, subst, ◌∙◌, arith, inl, inr}
use Rattle.std.specs.Prelude.{nat_le, if◌then◌else◌, option_map, slice_get, slice_set}
use Rattle.std.proofs.lemmas.Bool.{cases_order}
use Rattle.sha2.specs.Sha256.{sha256}
use Rattle.sha2.specs.Sha512.{sha384, sha512}
use Rattle.mls_nodes.specs.declared.parent.ParentNode.{ParentNode}
use Rattle.mls_tree.specs.declared.hash_kind.HashKind.{HashKind}
use Rattle.mls_tree.specs.declared.hash_kind.HashKind.TheVariants.{Sha256, Sha384, Sha512}
use Rattle.mls_tree.specs.Tree.{Tree, leaf_count, node_at, entry_of, parent_entry, Subtree, subtree_at}
use Rattle.mls_tree.specs.TreeHash.{parent_tree_hash_input}
use Rattle.mls_tree.specs.NodeView.{HasChildren, parent_of}
use Rattle.mls_tree.specs.HashCache.{hash_by, hash_in, hash_at, IsRightHash}
use Rattle.mls_tree.proofs.Arrays.{slice_get-set_other}
use Rattle.mls_tree.proofs.Trees.{subtree_at-some}
use Rattle.mls_hash.specs.SuiteHash.{hash_of, kind_of}
use Rattle.mls_hash.specs.FilledCache.{HasCachedHash, FilledStay}
use Rattle.mls_hash.specs.WithoutLeaves.{stripped_parent, original_tree_hash_at, tree_hash_at}
use Rattle.mls_hash.proofs.Answers.{whole_tree}
use Rattle.mls_hash.proofs.Filling.{parent_hashed}

-- the hash function of a suite's kind is the suite's
pub hash_by-kind_of : (suite : ℕ) → hash_by (kind_of suite) ≡ hash_of suite
unfolding hash_by hash_of kind_of
hash_by-kind_of suite = by_tests (nat_le suite 3) (nat_le suite 6)
  where
    by_tests : (first second : Bool) → hash_by (if first then Sha256 else (if second then Sha512 else Sha384)) ≡ (if first then sha256 else (if second then sha512 else sha384))
    by_tests true second = refl
    by_tests false true = refl
    by_tests false false = refl

module _ (suite : ℕ) (kind : Option HashKind) (t : Tree) (p : ℕ) (h : List ℕ) (is : kind ≡ Some (kind_of suite)) where
  -- a hash by the suite is right for slots of its hash function
  pub right_hash : tree_hash_at (hash_of suite) t p ≡ Some h → IsRightHash kind t p h
  right_hash at = subst (λ k. IsRightHash k t p h) (sym is) (ap (λ (H : List ℕ → List ℕ). hash_at H t p) (hash_by-kind_of suite) ∙ at)

  -- and one that is right for them is by the suite
  pub by_suite : IsRightHash kind t p h → tree_hash_at (hash_of suite) t p ≡ Some h
  by_suite right = ap (λ (H : List ℕ → List ℕ). hash_at H t p) (sym (hash_by-kind_of suite)) ∙ subst (λ k. IsRightHash k t p h) is right

-- with no leaf left out it is the original hash
pub nothing_left_out : (H : List ℕ → List ℕ) (t : Tree) (p : ℕ) (L : List ℕ) (h : List ℕ) → L ≡ [] → tree_hash_at H t p ≡ Some h → original_tree_hash_at H L t p ≡ Some h
nothing_left_out H t p L h none e = ap (λ M. original_tree_hash_at H M t p) none ∙ whole_tree H t p ∙ e

-- filling a slot empties none
pub put_stays : (slots new : List (Option (List ℕ))) (p : ℕ) (h : List ℕ) → new ≡ slice_set slots p (Some h) → hash_in (slice_get new p) ≡ Some h → FilledStay slots new
put_stays slots new p h e filled q was =
    elim (cases_order q p) [
      | inl same ↦ subst (λ (o : Option (List ℕ)). IsSome o) (sym (ap (λ (k : ℕ). hash_in (slice_get new k)) same ∙ filled)) refl
      | inr (inl lt) ↦ other (λ s. omega arith)
      | inr (inr gt) ↦ other (λ s. omega arith)
    ]
  where
    other : q ≢ p → HasCachedHash new q
    other ne = subst (λ (o : Option (Option (List ℕ))). IsSome (hash_in o)) (sym (ap (λ (cs : List (Option (List ℕ))). slice_get cs q) e ∙ slice_get-set_other slots p q (Some h) ne)) was

parent_of-entry : (n : Option ParentNode) → parent_of (parent_entry n) ≡ n
parent_of-entry None = refl
parent_of-entry (Some p) = refl

-- a parent's hash, if its children were hashed one after the other and the tree is unchanged
module _ (H : List ℕ → List ℕ) (t u v : Tree) (p q w m : ℕ) (n node : Option ParentNode) (c : HasChildren t p q w m n) (first : u ≡ t) (second : v ≡ t) where
  pub kept_parent : (L left right hash : List ℕ) → tree_hash_at H t q ≡ Some left → tree_hash_at H u w ≡ Some right → node ≡ parent_of (node_at v p) → L ≡ []
      → option_map H (parent_tree_hash_input (option_map (stripped_parent L) node) left right) ≡ Some hash → tree_hash_at H t p ≡ Some hash
  kept_parent L left right hash a b at none text =
      let there : node ≡ n = at ∙ ap (λ (x : Tree). parent_of (node_at x p)) second ∙ ap (λ o. parent_of (entry_of o)) c.whole ∙ parent_of-entry n in
      parent_hashed H t p q w m n c L left right hash none a (ap (λ (x : Tree). tree_hash_at H x w) (sym first) ∙ b)
      (ap (λ (k : Option ParentNode). option_map H (parent_tree_hash_input (option_map (stripped_parent L) k) left right)) (sym there) ∙ text)

-- there is a subtree at each node index
pub node_index_there : (t : Tree) (p : ℕ) → p + 1 < 2 * leaf_count t → IsSome (subtree_at 0 t p)
node_index_there t p lt = let s = subtree_at-some 0 t p (omega arith) (omega arith) in subst (λ (o : Option Subtree). IsSome o) (sym s.1) refl
