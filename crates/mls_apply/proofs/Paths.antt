-- The filtered direct path of a leaf: what stands at its places, and the resolutions of the halves away from the
-- leaf.
use Rattle.std.proofs.Common.{◌≡◌, ℕ, ◌+◌, ◌-◌, ◌*◌, ◌<◌, ◌≤◌, List, [], ◌∷◌, ◌++◌, Option, Some, true, refl, sym, ap, ◌∙◌, subst, inl, inr, arith}
use Rattle.std.specs.Prelude.{All, is_some, map}
use Rattle.std.proofs.lemmas.Bool.{cases_lt, false≢true}
use Rattle.std.proofs.lemmas.List.{map-append, append-nil}
use Rattle.std.proofs.lemmas.List.Elements.{All-nil, All-cons, All-append}
use Rattle.mls_nodes.specs.declared.leaf.LeafNode.{LeafNode}
use Rattle.mls_nodes.specs.declared.parent.ParentNode.{ParentNode}
use Rattle.mls_tree.specs.Tree.{Tree, leaf, branch, leaf_count, leaf_at, root_node_index, subtree_at, IsParent, IsParentNodeIndex}
use Rattle.mls_tree.specs.Paths.{resolution, filtered_direct_path, where_resolved}
use Rattle.mls_tree.proofs.Choices.{below as if_less, from as if_not_less}
use Rattle.mls_tree.proofs.Lookups.{leaf_at-past}
use Rattle.mls_tree.proofs.Trees.{subtree_at-left, subtree_at-right, subtree_at-root}
use Rattle.mls_apply.specs.PathRules.{copath_resolutions, append_non_empty}
use Rattle.mls_apply.specs.PathParents.{away_at, resolution_of, away_resolution}
use Rattle.mls_apply.proofs.Routes.{away-left, away-right}

-- a leaf that is set is inside the tree
pub set_inside : (t : Tree) (i : ℕ) → is_some (leaf_at 0 t i) ≡ true → i < leaf_count t
set_inside t i set =
    elim (cases_lt i (leaf_count t)) [
      | inl low ↦ low
      | inr past ↦ absurd (false≢true (sym (ap (λ (o : Option LeafNode). is_some o) (leaf_at-past 0 t i (omega arith))) ∙ set))
    ]

-- the subtree stands in the tree
abbrev Stands : Tree → ℕ → Tree → Type 0
Stands t first s = subtree_at 0 t (root_node_index first s) ≡ Some (record { first = first; tree = s })

module _ (leaves i first : ℕ) (l : Tree) (n : Option ParentNode) (r : Tree) where
  abbrev node_index : ℕ
  node_index = 2 * (first + leaf_count l) - 1

  filtered-left : i < first + leaf_count l → filtered_direct_path leaves first (branch l n r) i ≡ filtered_direct_path leaves first l i ++ where_resolved (resolution leaves (first + leaf_count l) r) node_index
  filtered-left lt =
      if_less i (first + leaf_count l) (filtered_direct_path leaves first l i ++ where_resolved (resolution leaves (first + leaf_count l) r) node_index)
      (filtered_direct_path leaves (first + leaf_count l) r i ++ where_resolved (resolution leaves first l) node_index) lt

  filtered-right : first + leaf_count l ≤ i → filtered_direct_path leaves first (branch l n r) i ≡ filtered_direct_path leaves (first + leaf_count l) r i ++ where_resolved (resolution leaves first l) node_index
  filtered-right ge =
      if_not_less i (first + leaf_count l) (filtered_direct_path leaves first l i ++ where_resolved (resolution leaves (first + leaf_count l) r) node_index)
      (filtered_direct_path leaves (first + leaf_count l) r i ++ where_resolved (resolution leaves first l) node_index) ge

  copath-left : i < first + leaf_count l → copath_resolutions leaves first (branch l n r) i ≡ append_non_empty (copath_resolutions leaves first l i) (resolution leaves (first + leaf_count l) r)
  copath-left lt =
      if_less i (first + leaf_count l) (append_non_empty (copath_resolutions leaves first l i) (resolution leaves (first + leaf_count l) r))
      (append_non_empty (copath_resolutions leaves (first + leaf_count l) r i) (resolution leaves first l)) lt

  copath-right : first + leaf_count l ≤ i → copath_resolutions leaves first (branch l n r) i ≡ append_non_empty (copath_resolutions leaves (first + leaf_count l) r i) (resolution leaves first l)
  copath-right ge =
      if_not_less i (first + leaf_count l) (append_non_empty (copath_resolutions leaves first l i) (resolution leaves (first + leaf_count l) r))
      (append_non_empty (copath_resolutions leaves (first + leaf_count l) r i) (resolution leaves first l)) ge

-- ---- parents stand at the places

resolved-parents : (P : ℕ → Type 0) (ps res : List ℕ) (p : ℕ) → All P ps → P p → All P (ps ++ where_resolved res p)
resolved-parents P ps [] p h k = All-append P ps [] h (All-nil P)
resolved-parents P ps (_ ∷ _) p h k = All-append P ps (p ∷ []) h (All-cons P p [] k (All-nil P))

parents_under : (leaves i : ℕ) (t : Tree) (first : ℕ) (s : Tree) → Stands t first s → All (IsParentNodeIndex t) (filtered_direct_path leaves first s i)
parents_under leaves i t first (leaf x) e = All-nil (IsParentNodeIndex t)
parents_under leaves i t first (branch l n r) e =
    let here : IsParentNodeIndex t (2 * (first + leaf_count l) - 1) = subst IsParent (sym e) tt in
    elim (cases_lt i (first + leaf_count l)) [
      | inl lt ↦
          subst (All (IsParentNodeIndex t)) (sym (filtered-left leaves i first l n r lt))
          (resolved-parents (IsParentNodeIndex t) (filtered_direct_path leaves first l i) (resolution leaves (first + leaf_count l) r) (2 * (first + leaf_count l) - 1)
          (parents_under leaves i t first l (subtree_at-left 0 t (2 * (first + leaf_count l) - 1) first l n r e)) here)
      | inr ge ↦
          subst (All (IsParentNodeIndex t)) (sym (filtered-right leaves i first l n r ge))
          (resolved-parents (IsParentNodeIndex t) (filtered_direct_path leaves (first + leaf_count l) r i) (resolution leaves first l) (2 * (first + leaf_count l) - 1)
          (parents_under leaves i t (first + leaf_count l) r (subtree_at-right 0 t (2 * (first + leaf_count l) - 1) first l n r e)) here)
    ]

pub filtered-parents : (t : Tree) (i : ℕ) (node_indices : List ℕ) → node_indices ≡ filtered_direct_path (leaf_count t) 0 t i → All (IsParentNodeIndex t) node_indices
filtered-parents t i node_indices e = subst (All (IsParentNodeIndex t)) (sym e) (parents_under (leaf_count t) i t 0 t (subtree_at-root 0 t))

-- ---- the resolutions away from the leaf

-- one more place, where the half away from the leaf has a resolution
resolved_at : (f : ℕ → List ℕ) (ps res : List ℕ) (p : ℕ) → f p ≡ res → append_non_empty (map f ps) res ≡ map f (ps ++ where_resolved res p)
resolved_at f ps [] p e = ap (map f) (sym (append-nil ps))
resolved_at f ps (x ∷ xs) p e = ap (λ v. map f ps ++ v ∷ []) (sym e) ∙ sym (map-append f ps (p ∷ []))

module _ (leaves i : ℕ) (t : Tree) where
  abbrev away : ℕ → List ℕ
  away p = resolution_of leaves (away_at t i p)

  resolutions_under : (first : ℕ) (s : Tree) → Stands t first s → copath_resolutions leaves first s i ≡ map away (filtered_direct_path leaves first s i)
  resolutions_under first (leaf x) e = refl
  resolutions_under first (branch l n r) e =
      elim (cases_lt i (first + leaf_count l)) [
        | inl lt ↦
            copath-left leaves i first l n r lt
            ∙ ap (λ rs. append_non_empty rs (resolution leaves (first + leaf_count l) r)) (resolutions_under first l (subtree_at-left 0 t (2 * (first + leaf_count l) - 1) first l n r e))
            ∙ resolved_at away (filtered_direct_path leaves first l i) (resolution leaves (first + leaf_count l) r) (2 * (first + leaf_count l) - 1) (ap (resolution_of leaves) (away-left t i first l n r e lt))
            ∙ ap (map away) (sym (filtered-left leaves i first l n r lt))
        | inr ge ↦
            copath-right leaves i first l n r ge
            ∙ ap (λ rs. append_non_empty rs (resolution leaves first l)) (resolutions_under (first + leaf_count l) r (subtree_at-right 0 t (2 * (first + leaf_count l) - 1) first l n r e))
            ∙ resolved_at away (filtered_direct_path leaves (first + leaf_count l) r i) (resolution leaves first l) (2 * (first + leaf_count l) - 1) (ap (resolution_of leaves) (away-right t i first l n r e ge))
            ∙ ap (map away) (sym (filtered-right leaves i first l n r ge))
      ]

pub copath_resolutions-filtered : (t : Tree) (i : ℕ) → copath_resolutions (leaf_count t) 0 t i ≡ map (away_resolution t i) (filtered_direct_path (leaf_count t) 0 t i)
copath_resolutions-filtered t i = resolutions_under (leaf_count t) i t 0 t (subtree_at-root 0 t)
