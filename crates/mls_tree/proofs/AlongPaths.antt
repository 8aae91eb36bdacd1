-- The parents above a leaf are changed one after the other, by their node indices.
use Rattle.std.proofs.Common.{◌≡◌, ℕ, ◌+◌, ◌*◌, ◌-◌, ◌/◌, ◌%◌, ◌<◌, List, [], ◌∷◌, ◌++◌, Option, Some, None, refl, sym, ap, ◌∙◌, subst, inl, inr, arith}
use Rattle.std.specs.Prelude.{All}
use Rattle.std.proofs.lemmas.Bool.{cases_lt}
use Rattle.std.proofs.lemmas.List.Elements.{All-nil, All-head, All-tail, All-push, All-pop, All-weaker}
use Rattle.mls_nodes.specs.declared.parent.ParentNode.{ParentNode}
use Rattle.mls_tree.specs.Tree.{Tree, leaf, branch, leaf_count, parent_entry, Subtree, subtree_at, entry_of, IsParentNodeIndex}
use Rattle.mls_tree.specs.TreeOperations.{put_parent, change_parent, change_above}
use Rattle.mls_tree.specs.NodeView.{parent_of}
use Rattle.mls_tree.specs.Paths.{direct_path}
use Rattle.mls_tree.proofs.Choices.{below, from, here, before, after}
use Rattle.mls_tree.proofs.Trees.{leaf_count-positive}
use Rattle.mls_tree.proofs.Kept.{leaf_count-put_parent}
use Rattle.mls_tree.proofs.Lookups.{IsParentNodeIndex-odd, IsParentNodeIndex-bounds}

-- the parent at a node index, if there is one and it is non-blank
abbrev pub parent_at : ℕ → Tree → ℕ → Option ParentNode
parent_at first t p = parent_of (entry_of (subtree_at first t p))

pub parent_of-entry : (n : Option ParentNode) → parent_of (parent_entry n) ≡ n
parent_of-entry None = refl
parent_of-entry (Some p) = refl

-- a node index of a parent in a tree of `count` leaves from `first` on
abbrev pub IsWithin : ℕ → ℕ → ℕ → Type 0
IsWithin first count p = (2 * first < p + 1) × (p + 1 < 2 * (first + count)) × (p % 2 ≡ 1)

pub direct_path-within : (first : ℕ) (t : Tree) (i : ℕ) → All (IsWithin first (leaf_count t)) (direct_path first t i)
direct_path-within first (leaf x) i = All-nil _
direct_path-within first (branch l n r) i =
    let m = first + leaf_count l in
    let a = leaf_count-positive l in
    let b = leaf_count-positive r in
    let root : IsWithin first (leaf_count l + leaf_count r) (2 * m - 1) = (omega arith, omega arith, omega arith) in
    elim (cases_lt i m) [
      | inl lt ↦
          subst (All (IsWithin first (leaf_count l + leaf_count r))) (ap (λ ps. ps ++ (2 * m - 1) ∷ []) (sym (below i m (direct_path first l i) (direct_path m r i) lt)))
          (All-push (IsWithin first (leaf_count l + leaf_count r)) (direct_path first l i) (2 * m - 1)
          (All-weaker (IsWithin first (leaf_count l)) (IsWithin first (leaf_count l + leaf_count r)) (λ p w. (w.0, (let v = w.1 in omega arith), w.2)) (direct_path first l i) (direct_path-within first l i)) root)
      | inr ge ↦
          subst (All (IsWithin first (leaf_count l + leaf_count r))) (ap (λ ps. ps ++ (2 * m - 1) ∷ []) (sym (from i m (direct_path first l i) (direct_path m r i) ge)))
          (All-push (IsWithin first (leaf_count l + leaf_count r)) (direct_path m r i) (2 * m - 1)
          (All-weaker (IsWithin m (leaf_count r)) (IsWithin first (leaf_count l + leaf_count r)) (λ p w. ((let u = w.0 in omega arith), (let v = w.1 in omega arith), w.2)) (direct_path m r i) (direct_path-within m r i)) root)
    ]

pub IsParentNodeIndex-within : (t : Tree) (p : ℕ) → IsWithin 0 (leaf_count t) p → IsParentNodeIndex t p
IsParentNodeIndex-within t p w = let at : 2 * (p / 2) + 1 ≡ p = omega (arith, w.2) in subst (IsParentNodeIndex t) at (IsParentNodeIndex-odd t (p / 2) (omega (arith, w.1)))

direct_path-parents : (t : Tree) (i : ℕ) → All (IsParentNodeIndex t) (direct_path 0 t i)
direct_path-parents t i = All-weaker (IsWithin 0 (leaf_count t)) (IsParentNodeIndex t) (IsParentNodeIndex-within t) (direct_path 0 t i) (direct_path-within 0 t i)

-- if the subtree at a node index is in the left or the right subtree
module _ (first : ℕ) (l : Tree) (n : Option ParentNode) (r : Tree) (p : ℕ) where
  abbrev whole : Option Subtree
  whole = Some (record { first = first; tree = branch l n r })

  pub parent_at-here : p + 1 ≡ 2 * (first + leaf_count l) → parent_at first (branch l n r) p ≡ n
  parent_at-here at =
      ap (λ o. parent_of (entry_of o)) (here (p + 1) (2 * (first + leaf_count l)) whole (subtree_at first l p) (subtree_at (first + leaf_count l) r p) at) ∙ parent_of-entry n

  pub parent_at-left : p + 1 < 2 * (first + leaf_count l) → parent_at first (branch l n r) p ≡ parent_at first l p
  parent_at-left lt =
      ap (λ o. parent_of (entry_of o)) (before (p + 1) (2 * (first + leaf_count l)) whole (subtree_at first l p) (subtree_at (first + leaf_count l) r p) lt)

  pub parent_at-right : 2 * (first + leaf_count l) < p + 1 → parent_at first (branch l n r) p ≡ parent_at (first + leaf_count l) r p
  parent_at-right gt =
      ap (λ o. parent_of (entry_of o)) (after (p + 1) (2 * (first + leaf_count l)) whole (subtree_at first l p) (subtree_at (first + leaf_count l) r p) gt)

module _ (f : Option ParentNode → Option ParentNode) where
  -- the parents at these node indices are changed, the last one first
  abbrev pub changed : ℕ → Tree → List ℕ → Tree
  changed first t [] = t
  changed first t (p ∷ ps) = change_parent f first (changed first t ps) p

  pub changed-last : (first : ℕ) (t : Tree) (ps : List ℕ) (p : ℕ) → changed first t (ps ++ p ∷ []) ≡ changed first (change_parent f first t p) ps
  changed-last first t [] p = refl
  changed-last first t (q ∷ ps) p = ap (λ u. change_parent f first u q) (changed-last first t ps p)

  leaf_count-changed : (first : ℕ) (t : Tree) (ps : List ℕ) → leaf_count (changed first t ps) ≡ leaf_count t
  leaf_count-changed first t [] = refl
  leaf_count-changed first t (p ∷ ps) =
      leaf_count-put_parent first (changed first t ps) p (f (parent_at first (changed first t ps) p)) ∙ leaf_count-changed first t ps

  change-left : (first : ℕ) (l : Tree) (n : Option ParentNode) (r : Tree) (p : ℕ) → p + 1 < 2 * (first + leaf_count l)
      → change_parent f first (branch l n r) p ≡ branch (change_parent f first l p) n r
  change-left first l n r p lt =
      let x = f (parent_at first (branch l n r) p) in
      before (p + 1) (2 * (first + leaf_count l)) (branch l x r) (branch (put_parent first l p x) n r) (branch l n (put_parent (first + leaf_count l) r p x)) lt
      ∙ ap (λ y. branch (put_parent first l p (f y)) n r) (parent_at-left first l n r p lt)

  change-right : (first : ℕ) (l : Tree) (n : Option ParentNode) (r : Tree) (p : ℕ) → 2 * (first + leaf_count l) < p + 1
      → change_parent f first (branch l n r) p ≡ branch l n (change_parent f (first + leaf_count l) r p)
  change-right first l n r p gt =
      let x = f (parent_at first (branch l n r) p) in
      after (p + 1) (2 * (first + leaf_count l)) (branch l x r) (branch (put_parent first l p x) n r) (branch l n (put_parent (first + leaf_count l) r p x)) gt
      ∙ ap (λ y. branch l n (put_parent (first + leaf_count l) r p (f y))) (parent_at-right first l n r p gt)

  change-root : (first : ℕ) (l : Tree) (n : Option ParentNode) (r : Tree) → change_parent f first (branch l n r) (2 * (first + leaf_count l) - 1) ≡ branch l (f n) r
  change-root first l n r =
      let a = leaf_count-positive l in
      let m = first + leaf_count l in
      let p = 2 * m - 1 in
      let x = f (parent_at first (branch l n r) p) in
      here (p + 1) (2 * m) (branch l x r) (branch (put_parent first l p x) n r) (branch l n (put_parent m r p x)) (omega arith)
      ∙ ap (λ y. branch l (f y) r) (parent_at-here first l n r p (omega arith))

  changed-left : (first : ℕ) (l : Tree) (n : Option ParentNode) (r : Tree) (ps : List ℕ) → All (IsWithin first (leaf_count l)) ps
      → changed first (branch l n r) ps ≡ branch (changed first l ps) n r
  changed-left first l n r [] h = refl
  changed-left first l n r (p ∷ ps) h =
      let u = changed first l ps in
      let c = leaf_count-changed first l ps in
      let lt = (All-head (IsWithin first (leaf_count l)) p ps h).1 in
      ap (λ t. change_parent f first t p) (changed-left first l n r ps (All-tail (IsWithin first (leaf_count l)) p ps h))
      ∙ change-left first u n r p (omega arith)

  changed-right : (first : ℕ) (l : Tree) (n : Option ParentNode) (r : Tree) (ps : List ℕ) → All (IsWithin (first + leaf_count l) (leaf_count r)) ps
      → changed first (branch l n r) ps ≡ branch l n (changed (first + leaf_count l) r ps)
  changed-right first l n r [] h = refl
  changed-right first l n r (p ∷ ps) h =
      let m = first + leaf_count l in
      let gt = (All-head (IsWithin m (leaf_count r)) p ps h).0 in
      ap (λ t. change_parent f first t p) (changed-right first l n r ps (All-tail (IsWithin m (leaf_count r)) p ps h))
      ∙ change-right first l n (changed m r ps) p (omega arith)

  -- the parents at the node indices of a direct path
  pub changed-path : (first : ℕ) (t : Tree) (i : ℕ) → changed first t (direct_path first t i) ≡ change_above f first t i
  changed-path first (leaf x) i = refl
  changed-path first (branch l n r) i =
      let m = first + leaf_count l in
      elim (cases_lt i m) [
        | inl lt ↦
            ap (λ ps. changed first (branch l n r) (ps ++ (2 * m - 1) ∷ [])) (below i m (direct_path first l i) (direct_path m r i) lt)
            ∙ changed-last first (branch l n r) (direct_path first l i) (2 * m - 1)
            ∙ ap (λ t. changed first t (direct_path first l i)) (change-root first l n r)
            ∙ changed-left first l (f n) r (direct_path first l i) (direct_path-within first l i)
            ∙ ap (λ v. branch v (f n) r) (changed-path first l i)
            ∙ sym (below i m (branch (change_above f first l i) (f n) r) (branch l (f n) (change_above f m r i)) lt)
        | inr ge ↦
            ap (λ ps. changed first (branch l n r) (ps ++ (2 * m - 1) ∷ [])) (from i m (direct_path first l i) (direct_path m r i) ge)
            ∙ changed-last first (branch l n r) (direct_path m r i) (2 * m - 1)
            ∙ ap (λ t. changed first t (direct_path m r i)) (change-root first l n r)
            ∙ changed-right first l (f n) r (direct_path m r i) (direct_path-within m r i)
            ∙ ap (λ v. branch l (f n) v) (changed-path m r i)
            ∙ sym (from i m (branch (change_above f first l i) (f n) r) (branch l (f n) (change_above f m r i)) ge)
      ]

  -- all have been changed
  pub changed-end : (t u : Tree) (i : ℕ) (node_indices left : List ℕ) → node_indices ≡ direct_path 0 t i → left ≡ [] → changed 0 t node_indices ≡ changed 0 u left → u ≡ change_above f 0 t i
  changed-end t u i node_indices left at none e = sym (e ∙ ap (changed 0 u) none) ∙ ap (changed 0 t) at ∙ changed-path 0 t i

  -- one more parent is changed
  module _ (t u : Tree) (all left : List ℕ) (p : ℕ) (split : all ≡ left ++ p ∷ []) (put : u ≡ change_parent f 0 t p) where
    pub changed-step : changed 0 t all ≡ changed 0 u left
    changed-step = ap (λ ps. changed 0 t ps) split ∙ changed-last 0 t left p ∙ ap (λ v. changed 0 v left) (sym put)

-- a tree with as many leaves has parents at the same node indices
pub IsParentNodeIndex-like : (t u : Tree) → leaf_count u ≡ leaf_count t → (p : ℕ) → IsParentNodeIndex t p → IsParentNodeIndex u p
IsParentNodeIndex-like t u e p h =
    let b = IsParentNodeIndex-bounds t p h in
    let odd : 2 * (p / 2) + 1 ≡ p = omega (arith, b.0) in
    subst (IsParentNodeIndex u) odd (IsParentNodeIndex-odd u (p / 2) (omega (arith, b.1)))

-- the other node indices are still those of parents
pub parents-step : (t u : Tree) (all left : List ℕ) (p : ℕ) (x : Option ParentNode) → all ≡ left ++ p ∷ [] → u ≡ put_parent 0 t p x → All (IsParentNodeIndex t) all → All (IsParentNodeIndex u) left
parents-step t u all left p x split put h =
    All-weaker (IsParentNodeIndex t) (IsParentNodeIndex u) (λ q. IsParentNodeIndex-like t u (ap leaf_count put ∙ leaf_count-put_parent 0 t p x) q) left
    ((All-pop (IsParentNodeIndex t) all left (Some p) split h).0)

pub parents-start : (t : Tree) (i : ℕ) (node_indices : List ℕ) → node_indices ≡ direct_path 0 t i → All (IsParentNodeIndex t) node_indices
parents-start t i node_indices at = subst (All (IsParentNodeIndex t)) (sym at) (direct_path-parents t i)
