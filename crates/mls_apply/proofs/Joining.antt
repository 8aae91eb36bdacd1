-- A client that joins with a commit: its leaf is blank, and an Add of any leaf node at it before the path changes nothing.
use Rattle.std.proofs.Common.{◌≡◌, ◌∙◌, ℕ, ◌+◌, ◌*◌, ◌-◌, ◌<◌, ◌≤◌, List, [], ◌∷◌, ◌++◌, length, reverse, Option, Some, None, refl, sym, ap, arith, inl, inr}
use Rattle.std.specs.Prelude.{option_map, option_and_then}
use Rattle.std.proofs.lemmas.Bool.{cases_lt}
use Rattle.mls_nodes.specs.declared.leaf.LeafNode.{LeafNode}
use Rattle.mls_nodes.specs.declared.parent.ParentNode.{ParentNode}
use Rattle.mls_tree.specs.Tree.{Tree, leaf, branch, leaf_count}
use Rattle.mls_tree.specs.BlankLeaves.{first_blank_leaf}
use Rattle.mls_tree.specs.Paths.{resolution, filtered_direct_path, where_resolved}
use Rattle.mls_tree.specs.TreeOperations.{put_leaf, change_above, with_unmerged, add_unmerged, extended_if_full, add, seat}
use Rattle.mls_tree.proofs.Choices.{is_less, not_less}
use Rattle.mls_tree.proofs.Kept.{leaf_count-change_above, leaf_count-put_leaf}
use Rattle.mls_check.specs.PreservedValidity.{IsParentHashValidTree}
use Rattle.mls_check.proofs.Remaining.{sound_grow}
use Rattle.mls_apply.specs.MergePath.{PathStep, path_step_at, append_parent_hash, merged_from, hashes_from}
use Rattle.mls_apply.specs.PathRules.{copath_resolutions, append_non_empty}
use Rattle.mls_apply.specs.CommitsPreserveValidity.{SeatsPreserveValidity, JoinsMergeAsAdds, JoinsExpectAsAdds, JoinsCountAsAdds, JoinsResolveAsAdds}

-- ---- the seat

pub seats_sound : SeatsPreserveValidity
seats_sound H t h = by_blank (first_blank_leaf 0 t)
  where
    by_blank : (o : Option ℕ) → IsParentHashValidTree H (extended_if_full o t)
    by_blank None = sound_grow H t h
    by_blank (Some j) = h

-- ---- two trees that differ at most at leaf i and at the parents above it

data AgreeBeside (i : ℕ) : ℕ → Tree → Tree → Type 0 where
  at_leaf : (first : ℕ) (x y : Option LeafNode) → AgreeBeside i first (leaf x) (leaf y)
  in_left : (first : ℕ) (l k : Tree) (n m : Option ParentNode) (r : Tree) → i < first + leaf_count l → leaf_count l ≡ leaf_count k
      → AgreeBeside i first l k → AgreeBeside i first (branch l n r) (branch k m r)
  in_right : (first : ℕ) (l : Tree) (n m : Option ParentNode) (r k : Tree) → first + leaf_count l ≤ i
      → AgreeBeside i (first + leaf_count l) r k → AgreeBeside i first (branch l n r) (branch l m k)

-- changing them makes such a tree
module _ (f : Option ParentNode → Option ParentNode) (y : Option LeafNode) (i : ℕ) where
  changed_agrees : (first : ℕ) (t : Tree) → AgreeBeside i first t (put_leaf first (change_above f first t i) i y)
  changed_agrees first (leaf x) = at_leaf first x y
  changed_agrees first (branch l n r) =
      elim (cases_lt i (first + leaf_count l)) [
        | inl lt ↦
            (let count = leaf_count-change_above f first l i in
            let put = leaf_count-put_leaf first (change_above f first l i) i y in
            let own = is_less i (first + leaf_count l) lt in
            let inner = is_less i (first + leaf_count (change_above f first l i)) (omega arith) in
            rw (own, inner) (in_left first l (put_leaf first (change_above f first l i) i y) n (f n) r lt (sym (put ∙ count)) (changed_agrees first l)))
        | inr ge ↦
            (let own = not_less i (first + leaf_count l) ge in
            rw (own, own) (in_right first l n (f n) r (put_leaf (first + leaf_count l) (change_above f (first + leaf_count l) r i) i y) ge (changed_agrees (first + leaf_count l) r)))
      ]

-- ---- what a path of leaf i depends on is equal in both

module _ (i leaves : ℕ) where
  filtered_alike : (first : ℕ) (t u : Tree) → AgreeBeside i first t u → filtered_direct_path leaves first t i ≡ filtered_direct_path leaves first u i
  filtered_alike first _ _ (at_leaf _ x y) = refl
  filtered_alike first _ _ (in_left _ l k n m r lt count h) =
      rw (is_less i (first + leaf_count l) lt, is_less i (first + leaf_count k) (omega arith))
      (λ j. filtered_alike first l k h j ++ where_resolved (resolution leaves (first + count j) r) (2 * (first + count j) - 1))
  filtered_alike first _ _ (in_right _ l n m r k ge h) =
      rw (not_less i (first + leaf_count l) ge)
      (λ j. filtered_alike (first + leaf_count l) r k h j ++ where_resolved (resolution leaves first l) (2 * (first + leaf_count l) - 1))

  resolutions_alike : (first : ℕ) (t u : Tree) → AgreeBeside i first t u → copath_resolutions leaves first t i ≡ copath_resolutions leaves first u i
  resolutions_alike first _ _ (at_leaf _ x y) = refl
  resolutions_alike first _ _ (in_left _ l k n m r lt count h) =
      rw (is_less i (first + leaf_count l) lt, is_less i (first + leaf_count k) (omega arith))
      (λ j. append_non_empty (resolutions_alike first l k h j) (resolution leaves (first + count j) r))
  resolutions_alike first _ _ (in_right _ l n m r k ge h) =
      rw (not_less i (first + leaf_count l) ge)
      (λ j. append_non_empty (resolutions_alike (first + leaf_count l) r k h j) (resolution leaves first l))

  module _ (H : List ℕ → List ℕ) where
    hashes_alike : (first : ℕ) (t u : Tree) (hash : List ℕ) (keys : List (List ℕ)) → AgreeBeside i first t u
        → hashes_from H leaves first t i hash keys ≡ hashes_from H leaves first u i hash keys
    hashes_alike first _ _ hash [] (at_leaf _ x y) = refl
    hashes_alike first _ _ hash (key ∷ keys) (at_leaf _ x y) = refl
    hashes_alike first _ _ hash keys (in_left _ l k n m r lt count h) =
        rw (is_less i (first + leaf_count l) lt, is_less i (first + leaf_count k) (omega arith))
        (λ j. option_and_then (λ (s : PathStep). option_map (append_parent_hash s.parent hash) (hashes_alike first l k s.hash s.keys h j)) (path_step_at H leaves (first + count j) r hash keys))
    hashes_alike first _ _ hash keys (in_right _ l n m r k ge h) =
        rw (not_less i (first + leaf_count l) ge)
        (λ j. option_and_then (λ (s : PathStep). option_map (append_parent_hash s.parent hash) (hashes_alike (first + leaf_count l) r k s.hash s.keys h j)) (path_step_at H leaves first l hash keys))

    merged_alike : (first : ℕ) (t u : Tree) (x : LeafNode) (hash : List ℕ) (keys : List (List ℕ)) → AgreeBeside i first t u
        → merged_from H leaves first t i x hash keys ≡ merged_from H leaves first u i x hash keys
    merged_alike first _ _ x hash [] (at_leaf _ y z) = refl
    merged_alike first _ _ x hash (key ∷ keys) (at_leaf _ y z) = refl
    merged_alike first _ _ x hash keys (in_left _ l k n m r lt count h) =
        rw (is_less i (first + leaf_count l) lt, is_less i (first + leaf_count k) (omega arith))
        (λ j. option_and_then (λ (s : PathStep). option_map (λ v. branch v s.parent r) (merged_alike first l k x s.hash s.keys h j)) (path_step_at H leaves (first + count j) r hash keys))
    merged_alike first _ _ x hash keys (in_right _ l n m r k ge h) =
        rw (not_less i (first + leaf_count l) ge)
        (λ j. option_and_then (λ (s : PathStep). option_map (λ v. branch l s.parent v) (merged_alike (first + leaf_count l) r k x s.hash s.keys h j)) (path_step_at H leaves first l hash keys))

-- ---- so an Add of the joiner before its path changes nothing

module _ (t : Tree) (y : LeafNode) where
  agree : AgreeBeside (seat t).leaf 0 (seat t).tree (add t y)
  agree = changed_agrees (with_unmerged (seat t).leaf) (Some y) (seat t).leaf 0 (seat t).tree

  same_leaves : leaf_count (seat t).tree ≡ leaf_count (add t y)
  same_leaves =
      let in_lists = add_unmerged (seat t).tree (seat t).leaf in
      sym (leaf_count-put_leaf 0 in_lists (seat t).leaf (Some y) ∙ leaf_count-change_above (with_unmerged (seat t).leaf) 0 (seat t).tree (seat t).leaf)

pub joins_merge : JoinsMergeAsAdds
joins_merge H t x y keys =
    merged_alike (seat t).leaf (leaf_count (seat t).tree) H 0 (seat t).tree (add t y) x [] (reverse keys) (agree t y)
    ∙ ap (λ n. merged_from H n 0 (add t y) (seat t).leaf x [] (reverse keys)) (same_leaves t y)

pub joins_expect : JoinsExpectAsAdds
joins_expect H t y keys =
    hashes_alike (seat t).leaf (leaf_count (seat t).tree) H 0 (seat t).tree (add t y) [] (reverse keys) (agree t y)
    ∙ ap (λ n. hashes_from H n 0 (add t y) (seat t).leaf [] (reverse keys)) (same_leaves t y)

pub joins_count : JoinsCountAsAdds
joins_count t y =
    ap length
    (filtered_alike (seat t).leaf (leaf_count (seat t).tree) 0 (seat t).tree (add t y) (agree t y)
    ∙ ap (λ n. filtered_direct_path n 0 (add t y) (seat t).leaf) (same_leaves t y))

pub joins_resolve : JoinsResolveAsAdds
joins_resolve t y =
    resolutions_alike (seat t).leaf (leaf_count (seat t).tree) 0 (seat t).tree (add t y) (agree t y)
    ∙ ap (λ n. copath_resolutions n 0 (add t y) (seat t).leaf) (same_leaves t y)
