-- Leaves that are set.
use Rattle.std.proofs.Common.{◌≡◌, ℕ, ◌+◌, ◌<◌, ◌≢◌, Bool, false, Bor, IsSome, Option, None, sym, ap, ◌∙◌, inl, inr, arith}
use Rattle.std.specs.Prelude.{is_some, not, option_copied}
use Rattle.std.proofs.lemmas.Bool.{cases_lt, false≢true}
use Rattle.mls_nodes.specs.declared.leaf.LeafNode.{LeafNode}
use Rattle.mls_nodes.specs.declared.parent.ParentNode.{ParentNode}
use Rattle.mls_tree.specs.Tree.{Tree, branch, leaf_count, leaf_at}
use Rattle.mls_tree.specs.TreeOperations.{put_leaf, blank_path}
use Rattle.mls_tree.proofs.Kept.{leaf_at-put_leaf, leaf_at-put_leaf_other, leaf_at-change_above}
use Rattle.mls_tree.proofs.Choices.{below, from}
use Rattle.mls_tree.proofs.Lookups.{leaf_at-past}
use Rattle.mls_tree.proofs.Walking.{is_some-copied}

-- a set leaf is one of the tree's
pub leaf_inside : (t : Tree) (j : ℕ) → IsSome (leaf_at 0 t j) → j < leaf_count t
leaf_inside t j set =
    elim (cases_lt j (leaf_count t)) [
      | inl lt ↦ lt
      | inr ge ↦ absurd (false≢true (sym (ap is_some (leaf_at-past 0 t j (omega arith))) ∙ set))
    ]

-- a set leaf that is none of the right half's is one of the left half's
pub inside_from : (first : ℕ) (l : Tree) (n : Option ParentNode) (r : Tree) (i : ℕ) → IsSome (leaf_at first (branch l n r) i)
    → leaf_at (first + leaf_count l) r i ≡ None → (i < first + leaf_count l) × IsSome (leaf_at first l i)
inside_from first l n r i set blank =
    elim (cases_lt i (first + leaf_count l)) [
      | inl lt ↦ (lt, sym (ap is_some (below i (first + leaf_count l) (leaf_at first l i) (leaf_at (first + leaf_count l) r i) lt)) ∙ set)
      | inr ge ↦
          absurd (false≢true (sym (ap is_some (from i (first + leaf_count l) (leaf_at first l i) (leaf_at (first + leaf_count l) r i) ge ∙ blank)) ∙ set))
    ]

-- a leaf that a call shows is set, and is one of the tree's
module _ (t : Tree) (i : ℕ) (shown : Option (Bor LeafNode)) (none : Bool)
    (e : option_copied shown ≡ leaf_at 0 t i) (s : is_some shown ≡ not none) (n : none ≡ false) where
  pub shown_set : IsSome (leaf_at 0 t i)
  shown_set = sym (ap is_some e) ∙ is_some-copied shown ∙ s ∙ ap not n

  pub shown_inside : i < leaf_count t
  shown_inside = leaf_inside t i shown_set

-- ---- a leaf is replaced or made blank, and the parents above it made blank

-- another leaf stays
pub kept_beside : (t : Tree) (i j : ℕ) (y : Option LeafNode) → IsSome (leaf_at 0 t i) → j ≢ i → leaf_at 0 (blank_path (put_leaf 0 t i y) i) j ≡ leaf_at 0 t j
kept_beside t i j y set away =
    leaf_at-change_above (λ _. None) 0 (put_leaf 0 t i y) i j ∙ leaf_at-put_leaf_other 0 t i j y (omega arith) (omega (arith, leaf_inside t i set)) away

-- the leaf itself is the new one
pub put_there : (t : Tree) (i j : ℕ) (y : Option LeafNode) → IsSome (leaf_at 0 t i) → j ≡ i → leaf_at 0 (blank_path (put_leaf 0 t i y) i) j ≡ y
put_there t i j y set same =
    leaf_at-change_above (λ _. None) 0 (put_leaf 0 t i y) i j
    ∙ ap (λ k. leaf_at 0 (put_leaf 0 t i y) k) same
    ∙ leaf_at-put_leaf 0 t i y (omega arith) (omega (arith, leaf_inside t i set))
