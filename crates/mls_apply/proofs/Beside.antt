-- A merged tree differs from the tree before at most at the committer's leaf and at the parents above it.
use Rattle.std.proofs.Common.{◌≡◌, ℕ, ◌+◌, ◌*◌, ◌<◌, ◌≤◌, List, [], ◌∷◌, Option, Some, None, refl, sym, ap, ◌∙◌, subst, arith, inl, inr}
use Rattle.std.specs.Prelude.{option_map, option_and_then, reverse}
use Rattle.std.proofs.lemmas.Bool.{cases_lt, cases_order}
use Rattle.mls_nodes.specs.declared.leaf.LeafNode.{LeafNode}
use Rattle.mls_nodes.specs.declared.parent.ParentNode.{ParentNode}
use Rattle.mls_tree.specs.Tree.{Tree, leaf, branch, leaf_count, Subtree, subtree_at}
use Rattle.mls_tree.proofs.Choices.{below as if_less, from as if_not_less, same, other}
use Rattle.mls_tree.proofs.Trees.{subtree_at-here, subtree_at-in_left, subtree_at-in_right}
use Rattle.mls_hash.specs.SubtreeHashes.{IsLeafOf, AgreeOutside}
use Rattle.mls_apply.specs.MergePath.{PathStep, path_step_at, merged_from, merged}

-- the subtree at place p of a tree whose first leaf has the index `first` has leaf i
abbrev IsUnder : ℕ → Tree → ℕ → ℕ → Type 0
IsUnder first t p i = (s : Subtree) × (subtree_at first t p ≡ Some s) × IsLeafOf s i

-- two trees, whose first leaf has the index `first`, have as many leaves, and the same subtrees beside leaf i
record IsLike (first i : ℕ) (t u : Tree) : Type 0 where
  size : leaf_count u ≡ leaf_count t
  beside : (p : ℕ) → ¬ (IsUnder first u p i) → subtree_at first t p ≡ subtree_at first u p

module _ (first i : ℕ) (l : Tree) (n m : Option ParentNode) (r : Tree) where
  like-left : (v : Tree) → first ≤ i → i < first + leaf_count l → IsLike first i l v → IsLike first i (branch l n r) (branch v m r)
  like-left v from to h = record {
    size = ap (λ k. k + leaf_count r) h.size;
    beside = λ p none. elim (cases_order (p + 1) (2 * (first + leaf_count v))) [
      | inl at ↦ absurd (none (record { first = first; tree = branch v m r }, subtree_at-here first v m r p at, (from, omega (arith, to, h.size))))
      | inr (inl lt) ↦
          subtree_at-in_left first l n r p (omega (arith, h.size))
          ∙ h.beside p (λ u. none (u.0, subtree_at-in_left first v m r p lt ∙ u.1, u.2))
          ∙ sym (subtree_at-in_left first v m r p lt)
      | inr (inr gt) ↦
          subtree_at-in_right first l n r p (omega (arith, h.size))
          ∙ ap (λ k. subtree_at (first + k) r p) (sym h.size)
          ∙ sym (subtree_at-in_right first v m r p gt)
    ];
  }

  like-right : (v : Tree) → first + leaf_count l ≤ i → i < first + leaf_count l + leaf_count r → IsLike (first + leaf_count l) i r v
      → IsLike first i (branch l n r) (branch l m v)
  like-right v from to h = record {
    size = ap (λ k. leaf_count l + k) h.size;
    beside = λ p none. elim (cases_order (p + 1) (2 * (first + leaf_count l))) [
      | inl at ↦ absurd (none (record { first = first; tree = branch l m v }, subtree_at-here first l m v p at, (omega (arith, from), omega (arith, to, h.size))))
      | inr (inl lt) ↦ subtree_at-in_left first l n r p lt ∙ sym (subtree_at-in_left first l m v p lt)
      | inr (inr gt) ↦
          subtree_at-in_right first l n r p gt
          ∙ h.beside p (λ u. none (u.0, subtree_at-in_right first l m v p gt ∙ u.1, u.2))
          ∙ sym (subtree_at-in_right first l m v p gt)
    ];
  }

-- what is said of a tree, if there is one
abbrev OfTree : (Tree → Type 0) → Option Tree → Type 0
OfTree P None = Unit {0}
OfTree P (Some t) = P t

module _ (H : List ℕ → List ℕ) (leaves i : ℕ) (x : LeafNode) where
  -- a half is merged, and its parent made anew
  handed_on : (P Q : Tree → Type 0) (f : Option ParentNode → Tree → Tree) (rest : PathStep → Option Tree) → ((m : Option ParentNode) (v : Tree) → P v → Q (f m v))
      → ((h : PathStep) → OfTree P (rest h)) → (o : Option PathStep) → OfTree Q (option_and_then (λ h. option_map (f h.parent) (rest h)) o)
  handed_on P Q f rest step all None = tt
  handed_on P Q f rest step all (Some h) = go (rest h) (all h)
    where
      go : (o : Option Tree) → OfTree P o → OfTree Q (option_map (f h.parent) o)
      go None w = tt
      go (Some v) w = step h.parent v w

  -- nothing stands away from a leaf's place
  blank_away : (first p : ℕ) (y z : Option LeafNode) → (p ≡ 2 * first → ⊥) → subtree_at first (leaf y) p ≡ subtree_at first (leaf z) p
  blank_away first p y z away =
      other p (2 * first) (Some (record { first = first; tree = leaf y })) None away ∙ sym (other p (2 * first) (Some (record { first = first; tree = leaf z })) None away)

  like-merged : (first : ℕ) (s : Tree) (hash : List ℕ) (keys : List (List ℕ)) → first ≤ i → i < first + leaf_count s → OfTree (IsLike first i s) (merged_from H leaves first s i x hash keys)
  like-merged first (leaf y) hash (_ ∷ _) from to = tt
  like-merged first (leaf y) hash [] from to = record {
    size = refl;
    beside = λ p none. elim (cases_order p (2 * first)) [
      | inl at ↦ absurd (none (record { first = first; tree = leaf (Some x) }, same p (2 * first) (Some (record { first = first; tree = leaf (Some x) })) None at, (from, to)))
      | inr (inl lt) ↦ blank_away first p y (Some x) (λ e. omega (arith, e, lt))
      | inr (inr gt) ↦ blank_away first p y (Some x) (λ e. omega (arith, e, gt))
    ];
  }
  like-merged first (branch l n r) hash keys from to =
      elim (cases_lt i (first + leaf_count l)) [
        | inl lt ↦
            subst (OfTree (IsLike first i (branch l n r)))
            (sym (if_less i (first + leaf_count l)
            (option_and_then (λ (h : PathStep). option_map (λ u. branch u h.parent r) (merged_from H leaves first l i x h.hash h.keys)) (path_step_at H leaves (first + leaf_count l) r hash keys))
            (option_and_then (λ (h : PathStep). option_map (λ u. branch l h.parent u) (merged_from H leaves (first + leaf_count l) r i x h.hash h.keys)) (path_step_at H leaves first l hash keys)) lt))
            (handed_on (IsLike first i l) (IsLike first i (branch l n r)) (λ m v. branch v m r) (λ h. merged_from H leaves first l i x h.hash h.keys)
            (λ m v. like-left first i l n m r v from lt) (λ h. like-merged first l h.hash h.keys from lt) (path_step_at H leaves (first + leaf_count l) r hash keys))
        | inr ge ↦
            subst (OfTree (IsLike first i (branch l n r)))
            (sym (if_not_less i (first + leaf_count l)
            (option_and_then (λ (h : PathStep). option_map (λ u. branch u h.parent r) (merged_from H leaves first l i x h.hash h.keys)) (path_step_at H leaves (first + leaf_count l) r hash keys))
            (option_and_then (λ (h : PathStep). option_map (λ u. branch l h.parent u) (merged_from H leaves (first + leaf_count l) r i x h.hash h.keys)) (path_step_at H leaves first l hash keys)) ge))
            (handed_on (IsLike (first + leaf_count l) i r) (IsLike first i (branch l n r)) (λ m v. branch l m v) (λ h. merged_from H leaves (first + leaf_count l) r i x h.hash h.keys)
            (λ m v. like-right first i l n m r v ge (omega (arith, to))) (λ h. like-merged (first + leaf_count l) r h.hash h.keys ge (omega (arith, to))) (path_step_at H leaves first l hash keys))
      ]

module _ (H : List ℕ → List ℕ) (t u : Tree) (i : ℕ) (x : LeafNode) (keys : List (List ℕ)) (inside : i < leaf_count t) (e : merged H t i x keys ≡ Some u) where
  like : IsLike 0 i t u
  like = subst (OfTree (IsLike 0 i t)) e (like-merged H (leaf_count t) i x 0 t [] (reverse keys) (omega arith) (omega (arith, inside)))

  pub merged-size : leaf_count u ≡ leaf_count t
  merged-size = like.size

  pub merged-beside : AgreeOutside t u i
  merged-beside p none = like.beside p (λ w. none (record { subtree = w.0; there = w.1; inside = w.2 }))
