-- A tree is valid, or one condition fails first at one place: not both, and at no other.
use Rattle.std.proofs.Common.{◌≡◌, ◌≢◌, ℕ, ◌+◌, ◌*◌, ◌-◌, ◌<◌, true, List, Option, Some, None, refl, sym, ap, ◌∙◌, subst, arith, inl, inr, length}
use Rattle.std.specs.Prelude.{◌⊎◌, slice_index}
use Rattle.std.specs.List.Sorted.{IsStrictlyIncreasing}
use Rattle.std.proofs.lemmas.Bool.{cases_lt, cases_Bool, false≢true}
use Rattle.std.proofs.lemmas.Option.{same_Some, none-some}
use Rattle.mls_nodes.specs.NodeModel.{NodeValue, leaf_node, parent_node}
use Rattle.mls_tree.specs.Tree.{Tree, leaf_count, Subtree, subtree_at, node_at}
use Rattle.mls_tree.specs.TreeHash.{tree_hash}
use Rattle.mls_tree.proofs.Trees.{leaf_count-positive}
use Rattle.mls_check.specs.DistinctKeys.{encryption_key_at, HaveOneKey, HasUniqueKeyAt, IsDistinct}
use Rattle.mls_check.specs.ParentHashValid.{IsParentHashValidAt}
use Rattle.mls_check.specs.UnmergedLists.{is_consistent, HasSortedList, IsSortedAt, HasStrictlyIncreasingLists, HasConsistentUnmergedAt, HasConsistentUnmerged}
use Rattle.mls_check.specs.ValidTree.{Valid, IsFirstTreeFault}
use Rattle.mls_check.specs.declared.tree_validation.TreeFault.{TreeFault}
use Rattle.mls_check.specs.declared.tree_validation.TreeFault.TheVariants.{HashDiffers, UnmergedUnsorted, UnmergedUnsound, KeyRepeated, ParentHashInvalid, OutOfMemory}
use Rattle.mls_check.proofs.Chains.{decided-parent_hash}
use Rattle.mls_check.proofs.Decided.{Decided, decided-like, decided-and, decided-implies, decided-lt, decided-other, decided-agree, decided-all, found_below, first_or_all, not_all, failure-unique}
use Rattle.mls_check.proofs.Outside.{outside_above}
use Rattle.mls_check.proofs.Placing.{consistent_everywhere, sorted_everywhere}
use Rattle.mls_check.proofs.Repeats.{no_key_above}

-- ---- each condition is decided

decided-increasing : (xs : List ℕ) → Decided (IsStrictlyIncreasing xs)
decided-increasing xs =
    decided-all (λ k. k + 1 < length xs → slice_index xs k < slice_index xs (k + 1))
    (λ k. decided-implies (decided-lt (k + 1) (length xs)) (decided-lt (slice_index xs k) (slice_index xs (k + 1)))) (length xs) (λ k g l. absurd (omega arith))

decided-list : (o : Option NodeValue) → Decided (HasSortedList o)
decided-list None = inl tt
decided-list (Some (leaf_node x)) = inl tt
decided-list (Some (parent_node p)) = decided-increasing p.unmerged

decided-consistent : (t : Tree) (p : ℕ) → Decided (HasConsistentUnmergedAt t p)
decided-consistent t p = go (subtree_at 0 t p) refl
  where
    go : (o : Option Subtree) → subtree_at 0 t p ≡ o → Decided (HasConsistentUnmergedAt t p)
    go None e = inl (λ s f. absurd (none-some s (sym e ∙ f)))
    go (Some s) e =
        elim (cases_Bool (is_consistent s.first s.tree)) [
          | inl h ↦ inl (λ u f. subst (λ (v : Subtree). is_consistent v.first v.tree ≡ true) (same_Some s u (sym e ∙ f)) h)
          | inr m ↦ inr (λ w. false≢true (sym m ∙ w s e))
        ]

decided-one_key : (t : Tree) (p q : ℕ) → Decided (HaveOneKey t p q)
decided-one_key t p q =
    decided-like (λ w. record { key = w.0; here = w.1; there = w.2 }) (λ h. (h.key, h.here, h.there)) (decided-agree (encryption_key_at t p) (encryption_key_at t q))

decided-own_key : (t : Tree) (n : ℕ) → n + 1 ≡ 2 * leaf_count t → (p : ℕ) → Decided (HasUniqueKeyAt t p)
decided-own_key t n e p =
    elim (found_below (λ q. (q ≢ p) × HaveOneKey t p q) (λ q. decided-and (decided-other q p) (decided-one_key t p q)) n) [
      | inl w ↦ (let both = w.2 in inr (λ own. own w.0 both.0 both.1))
      | inr none ↦ inl (λ q d h. elim (cases_lt q n) [ inl l ↦ none q l (d, h) | inr g ↦ none-some h.key (sym (no_key_above t n q e g) ∙ h.there) ])
    ]

-- past the last place each of them holds
own_everywhere : (t : Tree) (n : ℕ) → n + 1 ≡ 2 * leaf_count t → ((p : ℕ) → p < n → HasUniqueKeyAt t p) → (p : ℕ) → HasUniqueKeyAt t p
own_everywhere t n e h p q d k = elim (cases_lt p n) [ inl l ↦ h p l q d k | inr g ↦ none-some k.key (sym (no_key_above t n p e g) ∙ k.here) ]

reached_everywhere : (H : List ℕ → List ℕ) (t : Tree) (n : ℕ) → n + 1 ≡ 2 * leaf_count t → ((p : ℕ) → p < n → IsParentHashValidAt H t p) → (p : ℕ) → IsParentHashValidAt H t p
reached_everywhere H t n e h p s a k = elim (cases_lt p n) [ inl l ↦ h p l s a k | inr g ↦ absurd (none-some s (sym (outside_above t p n e g) ∙ a)) ]

-- ---- the tree

module _ (H : List ℕ → List ℕ) (hash : List ℕ) (t : Tree) where
  abbrev CheckedTrees : Type 0
  CheckedTrees = Valid H hash t ⊎ ((fault : TreeFault) × (fault ≢ OutOfMemory) × IsFirstTreeFault H hash t fault)

  decided-hash : Decided (tree_hash H 0 t ≡ Some hash)
  decided-hash =
      decided-like (λ w. w.1 ∙ sym w.2) (λ e. (hash, e, refl)) (decided-agree (tree_hash H 0 t) (Some hash))

  abbrev last : ℕ
  last = 2 * leaf_count t - 1

  node_indices : last + 1 ≡ 2 * leaf_count t
  node_indices = omega (arith, leaf_count-positive t)

  check_parent_hash_valid : tree_hash H 0 t ≡ Some hash → HasStrictlyIncreasingLists t → HasConsistentUnmerged t → IsDistinct t → CheckedTrees
  check_parent_hash_valid h s p d =
      elim (first_or_all (λ k. IsParentHashValidAt H t k) (decided-parent_hash H t) last (reached_everywhere H t last node_indices)) [
        | inl all ↦ inl (record { hashed = h; sorted = s; consistent = p; distinct = d; parent_hashes = all })
        | inr w ↦ inr (ParentHashInvalid w.0, (λ e. absurd cc), record { hashed = h; sorted = s; consistent = p; distinct = d; first = w.1 })
      ]

  check_keys : tree_hash H 0 t ≡ Some hash → HasStrictlyIncreasingLists t → HasConsistentUnmerged t → CheckedTrees
  check_keys h s p =
      elim (first_or_all (λ k. HasUniqueKeyAt t k) (decided-own_key t last node_indices) last (own_everywhere t last node_indices)) [
        | inl all ↦ check_parent_hash_valid h s p all
        | inr w ↦ inr (KeyRepeated w.0, (λ e. absurd cc), record { hashed = h; sorted = s; consistent = p; first = w.1 })
      ]

  check_consistent : tree_hash H 0 t ≡ Some hash → HasStrictlyIncreasingLists t → CheckedTrees
  check_consistent h s =
      elim (first_or_all (λ k. HasConsistentUnmergedAt t k) (decided-consistent t) last (consistent_everywhere t last node_indices)) [
        | inl all ↦ check_keys h s all
        | inr w ↦ inr (UnmergedUnsound w.0, (λ e. absurd cc), record { hashed = h; sorted = s; first = w.1 })
      ]

  check_sorted : tree_hash H 0 t ≡ Some hash → CheckedTrees
  check_sorted h =
      elim (first_or_all (λ k. IsSortedAt t k) (λ k. decided-list (node_at t k)) last (sorted_everywhere t last node_indices)) [
        | inl all ↦ check_consistent h all
        | inr w ↦ inr (UnmergedUnsorted w.0, (λ e. absurd cc), record { hashed = h; first = w.1 })
      ]

  -- it is valid, or has a fault
  pub valid_or_fault : CheckedTrees
  valid_or_fault =
      elim decided-hash [
        | inl h ↦ check_sorted h
        | inr m ↦ inr (HashDiffers, (λ e. absurd cc), m)
      ]

  -- not both
  pub fault-not_valid : (fault : TreeFault) → fault ≢ OutOfMemory → IsFirstTreeFault H hash t fault → ¬ (Valid H hash t)
  fault-not_valid HashDiffers m f v = f v.hashed
  fault-not_valid (UnmergedUnsorted p) m f v = not_all p f.first v.sorted
  fault-not_valid (UnmergedUnsound p) m f v = not_all p f.first v.consistent
  fault-not_valid (KeyRepeated p) m f v = not_all p f.first v.distinct
  fault-not_valid (ParentHashInvalid p) m f v = not_all p f.first v.parent_hashes
  fault-not_valid OutOfMemory m f v = m refl

  -- and only one fault
  pub fault-unique : (fault other : TreeFault) → fault ≢ OutOfMemory → other ≢ OutOfMemory → IsFirstTreeFault H hash t fault → IsFirstTreeFault H hash t other → fault ≡ other
  fault-unique OutOfMemory other m n f g = absurd (m refl)
  fault-unique HashDiffers OutOfMemory m n f g = absurd (n refl)
  fault-unique HashDiffers HashDiffers m n f g = refl
  fault-unique HashDiffers (UnmergedUnsorted q) m n f g = absurd (f g.hashed)
  fault-unique HashDiffers (UnmergedUnsound q) m n f g = absurd (f g.hashed)
  fault-unique HashDiffers (KeyRepeated q) m n f g = absurd (f g.hashed)
  fault-unique HashDiffers (ParentHashInvalid q) m n f g = absurd (f g.hashed)
  fault-unique (UnmergedUnsorted p) OutOfMemory m n f g = absurd (n refl)
  fault-unique (UnmergedUnsorted p) HashDiffers m n f g = absurd (g f.hashed)
  fault-unique (UnmergedUnsorted p) (UnmergedUnsorted q) m n f g = ap UnmergedUnsorted (failure-unique p q f.first g.first)
  fault-unique (UnmergedUnsorted p) (UnmergedUnsound q) m n f g = absurd (not_all p f.first g.sorted)
  fault-unique (UnmergedUnsorted p) (KeyRepeated q) m n f g = absurd (not_all p f.first g.sorted)
  fault-unique (UnmergedUnsorted p) (ParentHashInvalid q) m n f g = absurd (not_all p f.first g.sorted)
  fault-unique (UnmergedUnsound p) OutOfMemory m n f g = absurd (n refl)
  fault-unique (UnmergedUnsound p) HashDiffers m n f g = absurd (g f.hashed)
  fault-unique (UnmergedUnsound p) (UnmergedUnsorted q) m n f g = absurd (not_all q g.first f.sorted)
  fault-unique (UnmergedUnsound p) (UnmergedUnsound q) m n f g = ap UnmergedUnsound (failure-unique p q f.first g.first)
  fault-unique (UnmergedUnsound p) (KeyRepeated q) m n f g = absurd (not_all p f.first g.consistent)
  fault-unique (UnmergedUnsound p) (ParentHashInvalid q) m n f g = absurd (not_all p f.first g.consistent)
  fault-unique (KeyRepeated p) OutOfMemory m n f g = absurd (n refl)
  fault-unique (KeyRepeated p) HashDiffers m n f g = absurd (g f.hashed)
  fault-unique (KeyRepeated p) (UnmergedUnsorted q) m n f g = absurd (not_all q g.first f.sorted)
  fault-unique (KeyRepeated p) (UnmergedUnsound q) m n f g = absurd (not_all q g.first f.consistent)
  fault-unique (KeyRepeated p) (KeyRepeated q) m n f g = ap KeyRepeated (failure-unique p q f.first g.first)
  fault-unique (KeyRepeated p) (ParentHashInvalid q) m n f g = absurd (not_all p f.first g.distinct)
  fault-unique (ParentHashInvalid p) OutOfMemory m n f g = absurd (n refl)
  fault-unique (ParentHashInvalid p) HashDiffers m n f g = absurd (g f.hashed)
  fault-unique (ParentHashInvalid p) (UnmergedUnsorted q) m n f g = absurd (not_all q g.first f.sorted)
  fault-unique (ParentHashInvalid p) (UnmergedUnsound q) m n f g = absurd (not_all q g.first f.consistent)
  fault-unique (ParentHashInvalid p) (KeyRepeated q) m n f g = absurd (not_all q g.first f.distinct)
  fault-unique (ParentHashInvalid p) (ParentHashInvalid q) m n f g = ap ParentHashInvalid (failure-unique p q f.first g.first)
