-- One step of a change of the array along a path: the parent is written, and then the subtree that the path goes into is changed.
use Rattle.std.proofs.Common.{◌≡◌, ◌≢◌, ℕ, ◌+◌, ◌*◌, ◌-◌, ◌<◌, ◌≤◌, List, length, Option, Some, sym, ap, ◌∙◌, subst, inl, inr, arith}
use Rattle.std.specs.Prelude.{slice_get, slice_set, ◌⊎◌}
use Rattle.std.proofs.lemmas.Bool.{cases_order}
use Rattle.mls_nodes.specs.declared.parent.ParentNode.{ParentNode}
use Rattle.mls_nodes.specs.declared.node.Node.{Node}
use Rattle.mls_tree.specs.Tree.{branch, leaf_count}
use Rattle.mls_tree.specs.TreeInternal.{leaves_at}
use Rattle.mls_tree.specs.NodeArray.{parent_part, tree_in, IsNoLeaf, IsNoParent, ChangesWithin}
use Rattle.mls_tree.specs.TreeOperations.{change_above}
use Rattle.mls_tree.proofs.Numbers.{leaves_at-positive}
use Rattle.mls_tree.proofs.Choices.{below, from}
use Rattle.mls_tree.proofs.Arrays.{tree_in-same, slice_get-set_same, slice_get-set_other}
use Rattle.mls_tree.proofs.Walking.{tree_in-split, near-count, leaves_at-split}

module _ (xs zs : List (Option Node)) (first half level : ℕ) (deep : level ≢ 0) (e : half ≡ leaves_at (level - 1)) (v : Option Node) (fits : IsNoLeaf (Some v))
    (within : 2 * (first + leaves_at level) ≤ length xs + 1) where
  abbrev mid : ℕ
  mid = 2 * (first + half) - 1

  abbrev ys : List (Option Node)
  ys = slice_set xs (2 * (first + half) - 1) v

  half-positive : 0 < half
  half-positive = subst (λ n. 0 < n) (sym e) (leaves_at-positive (level - 1))

  mid-within : 2 * (first + half) - 1 < length xs
  mid-within = omega (arith, half-positive, leaves_at-split level half deep e)

  -- the write itself
  written-even : (i : ℕ) → IsNoParent (slice_get xs (2 * i)) → IsNoParent (slice_get ys (2 * i))
  written-even i h = subst (λ o. IsNoParent o) (sym (slice_get-set_other xs (2 * (first + half) - 1) (2 * i) v (λ q. omega (arith, half-positive)))) h

  written-odd : (i : ℕ) → IsNoLeaf (slice_get xs (2 * i + 1)) → IsNoLeaf (slice_get ys (2 * i + 1))
  written-odd i h =
      elim (cases_order (2 * i + 1) (2 * (first + half) - 1)) [
        | inl q ↦ subst (λ o. IsNoLeaf o) (sym (ap (λ k. slice_get ys k) q ∙ slice_get-set_same xs (2 * (first + half) - 1) v mid-within)) fits
        | inr w ↦ subst (λ o. IsNoLeaf o) (sym (slice_get-set_other xs (2 * (first + half) - 1) (2 * i + 1) v (λ q. elim w [ inl w1 ↦ omega arith | inr w2 ↦ omega arith ]))) h
      ]

  module _ (low high : ℕ) (c : ChangesWithin ys zs low high) (a : 2 * first ≤ low) (b : high ≤ 2 * (first + leaves_at level) - 1) where
    pub changes-step : ChangesWithin xs zs (2 * first) (2 * (first + leaves_at level) - 1)
    changes-step = record {
      outside = λ p w.
          c.outside p (elim w [ inl w1 ↦ inl (omega arith) | inr w2 ↦ inr (omega arith) ])
          ∙ slice_get-set_other xs (2 * (first + half) - 1) p v
          (λ q. elim w [ inl w1 ↦ omega (arith, half-positive) | inr w2 ↦ omega (arith, half-positive, leaves_at-split level half deep e) ]);
      even = λ i h. c.even i (written-even i h);
      odd = λ i h. c.odd i (written-odd i h);
    }

    pub parent-step : (2 * (first + half) - 1 < low) ⊎ (high ≤ 2 * (first + half) - 1) → parent_part (slice_get zs (2 * (first + half) - 1)) ≡ parent_part (Some v)
    parent-step w = ap parent_part (c.outside (2 * (first + half) - 1) w ∙ slice_get-set_same xs (2 * (first + half) - 1) v mid-within)

  -- into the left subtree
  module _ (c : ChangesWithin ys zs (2 * first) (2 * (first + leaves_at (level - 1)) - 1)) where
    pub changes-left : ChangesWithin xs zs (2 * first) (2 * (first + leaves_at level) - 1)
    changes-left = changes-step _ _ c (omega arith) (omega (arith, e, leaves_at-split level half deep e))

    pub change-left : (f : Option ParentNode → Option ParentNode) (i : ℕ) → i < first + half
        → parent_part (Some v) ≡ f (parent_part (slice_get xs (2 * (first + half) - 1)))
        → tree_in zs (level - 1) first ≡ change_above f first (tree_in ys (level - 1) first) i
        → tree_in zs level first ≡ change_above f first (tree_in xs level first) i
    change-left f i lt at h =
        let pos = half-positive in
        let s : tree_in ys (level - 1) first ≡ tree_in xs (level - 1) first
        = tree_in-same ys xs (level - 1) first (λ p u w. slice_get-set_other xs (2 * (first + half) - 1) p v (λ q. omega arith)) in
        let r : tree_in zs (level - 1) (first + half) ≡ tree_in xs (level - 1) (first + half)
        = tree_in-same zs xs (level - 1) (first + half)
        (λ p u w. c.outside p (inr (omega arith)) ∙ slice_get-set_other xs (2 * (first + half) - 1) p v (λ q. omega arith)) in
        let m = parent-step _ _ c (omega arith) (omega (arith, e, leaves_at-split level half deep e)) (inr (omega arith)) ∙ at in
        let count = near-count xs first half level deep e in
        tree_in-split zs first half level deep e
        ∙ (λ j. branch ((h ∙ ap (λ t. change_above f first t i) s) j) (m j) (r j))
        ∙ sym (below i (first + leaf_count (tree_in xs (level - 1) first)) _ _ (omega arith))
        ∙ ap (λ t. change_above f first t i) (sym (tree_in-split xs first half level deep e))

  -- into the right subtree
  module _ (c : ChangesWithin ys zs (2 * (first + half)) (2 * (first + half + leaves_at (level - 1)) - 1)) where
    pub changes-right : ChangesWithin xs zs (2 * first) (2 * (first + leaves_at level) - 1)
    changes-right = changes-step _ _ c (omega arith) (omega (arith, e, leaves_at-split level half deep e))

    pub change-right : (f : Option ParentNode → Option ParentNode) (i : ℕ) → first + half ≤ i
        → parent_part (Some v) ≡ f (parent_part (slice_get xs (2 * (first + half) - 1)))
        → tree_in zs (level - 1) (first + half) ≡ change_above f (first + half) (tree_in ys (level - 1) (first + half)) i
        → tree_in zs level first ≡ change_above f first (tree_in xs level first) i
    change-right f i ge at h =
        let pos = half-positive in
        let s : tree_in ys (level - 1) (first + half) ≡ tree_in xs (level - 1) (first + half)
        = tree_in-same ys xs (level - 1) (first + half) (λ p u w. slice_get-set_other xs (2 * (first + half) - 1) p v (λ q. omega arith)) in
        let l : tree_in zs (level - 1) first ≡ tree_in xs (level - 1) first
        = tree_in-same zs xs (level - 1) first
        (λ p u w. c.outside p (inl (omega arith)) ∙ slice_get-set_other xs (2 * (first + half) - 1) p v (λ q. omega arith)) in
        let m = parent-step _ _ c (omega arith) (omega (arith, e, leaves_at-split level half deep e)) (inl (omega arith)) ∙ at in
        let count = near-count xs first half level deep e in
        tree_in-split zs first half level deep e
        ∙ (λ j. branch (l j) (m j) ((h ∙ ap (λ t. change_above f (first + half) t i) s ∙ ap (λ k. change_above f (first + k) (tree_in xs (level - 1) (first + half)) i) (sym count)) j))
        ∙ sym (from i (first + leaf_count (tree_in xs (level - 1) first)) _ _ (omega arith))
        ∙ ap (λ t. change_above f first t i) (sym (tree_in-split xs first half level deep e))
