-- What is known of the hashes of a tree, and what a walk adds to it.
use Rattle.std.proofs.Common.{◌≡◌, ℕ, ◌+◌, ◌*◌, ◌/◌, List, ◌++◌, ◌<◌, ◌≤◌, Option, Some, None, length, refl, sym, ap, subst, ◌∙◌, inl, inr, arith}
use Rattle.std.specs.Prelude.{All, option_map, option_and_then, slice_get, slice_set}
use Rattle.std.proofs.lemmas.Bool.{cases_lt, cases_order}
use Rattle.std.proofs.lemmas.List.{set_past}
use Rattle.std.proofs.lemmas.Option.{same_Some}
use Rattle.mls_nodes.specs.declared.parent.ParentNode.{ParentNode}
use Rattle.mls_tree.specs.Tree.{Tree, Subtree}
use Rattle.mls_tree.specs.TreeHash.{hash_of_parent, parent_tree_hash_input}
use Rattle.mls_tree.specs.NodeView.{HasChildren}
use Rattle.mls_tree.proofs.Arrays.{slice_get-set_same, slice_get-set_other}
use Rattle.mls_tree.proofs.Trees.{leaf_count-positive, subtree_at-stands}
use Rattle.mls_hash.specs.declared.side.Side.TheVariants.{Left, Right}
use Rattle.mls_hash.specs.OriginalTreeHashes.{AreChildHashes, AreKnownHashes, AreOwnHashes, KnownHashes, child_hash_at, own_hash_at, root_child_hash}
use Rattle.mls_hash.specs.OriginalTreeHashesInternal.{ListsJust}
use Rattle.mls_hash.specs.ParentHash.{parent_at, root_parent}
use Rattle.mls_hash.specs.WithoutLeaves.{original_tree_hash, original_tree_hash_at, stripped_parent}
use Rattle.mls_hash.specs.SubtreeHashes.{HoldsOwnLeaves}
use Rattle.mls_hash.specs.SubtreeHashesInternal.{AreLeavesUnder}
use Rattle.mls_hash.proofs.Alike.{left_alike, right_alike}
use Rattle.mls_hash.proofs.Answers.{whole_hash}

-- ---- one hash is stored

-- the list after the own hash of the parent at node index 2 * n + 1 was put into it
own-put : (H : List ℕ → List ℕ) (t : Tree) (own : List (Option (List ℕ))) (n : ℕ) (hash : List ℕ) → AreOwnHashes H t own → own_hash_at H t (2 * n + 1) ≡ Some hash
    → AreOwnHashes H t (slice_set own n (Some hash))
own-put H t own n hash known here k other e =
    elim (cases_order k n) [
      | inl at ↦
          elim (cases_lt n (length own)) [
            | inl within ↦
                (let there : Some hash ≡ Some other = same_Some _ _ (sym (slice_get-set_same own n (Some hash) within) ∙ ap (slice_get (slice_set own n (Some hash))) (sym at) ∙ e) in
                ap (λ i. own_hash_at H t (2 * i + 1)) at ∙ here ∙ there)
            | inr past ↦ known k other (ap (λ (xs : List (Option (List ℕ))). slice_get xs k) (sym (set_past own n (Some hash) past)) ∙ e)
          ]
      | inr (inl lt) ↦ known k other (sym (slice_get-set_other own n k (Some hash) (λ same. omega arith)) ∙ e)
      | inr (inr gt) ↦ known k other (sym (slice_get-set_other own n k (Some hash) (λ same. omega arith)) ∙ e)
    ]

-- ---- at a parent

module _ (t : Tree) (p q u m : ℕ) (n : Option ParentNode) (c : HasChildren t p q u m n) where
  -- its node index is odd
  numbered : 2 * (p / 2) + 1 ≡ p
  numbered =
      let node_index = (subtree_at-stands 0 t p _ c.whole).node_index in
      omega (arith, node_index, leaf_count-positive c.left)

  pub here : parent_at t p ≡ n
  here = ap (option_and_then (λ (s : Subtree). root_parent s.tree)) c.whole

  own_hash : (H : List ℕ → List ℕ) (parent : ParentNode) → n ≡ Some parent → own_hash_at H t p ≡ original_tree_hash_at H parent.unmerged t p
  own_hash H parent e = ap (option_and_then (λ (r : ParentNode). original_tree_hash_at H r.unmerged t p)) (here ∙ e)

  -- an own hash that is known
  pub own_known : (H : List ℕ → List ℕ) (own : List (Option (List ℕ))) (L hash : List ℕ) → AreOwnHashes H t own → ListsJust L n → slice_get own (p / 2) ≡ Some (Some hash)
      → original_tree_hash_at H L t p ≡ Some hash
  own_known H own L hash known just e = go n just own_hash
    where
      go : (o : Option ParentNode) → ListsJust L o → ((H : List ℕ → List ℕ) (parent : ParentNode) → o ≡ Some parent → own_hash_at H t p ≡ original_tree_hash_at H parent.unmerged t p)
          → original_tree_hash_at H L t p ≡ Some hash
      go None just is = absurd just
      go (Some parent) just is =
          ap (λ (M : List ℕ). original_tree_hash_at H M t p) just ∙ sym (is H parent refl) ∙ ap (own_hash_at H t) (sym numbered) ∙ known (p / 2) hash e

-- ---- at a non-blank parent, whose list is split at the first leaf of its right subtree

module _ (t : Tree) (p q u m : ℕ) (parent : ParentNode) (c : HasChildren t p q u m (Some parent)) (L : List ℕ) (listed : L ≡ parent.unmerged) where
  pub list_under : HoldsOwnLeaves t → AreLeavesUnder t p L
  list_under own s f =
      subst (λ (M : List ℕ). AreLeavesUnder t p M) (sym listed)
      (λ v g. own p v parent g (ap (λ (o : Option Subtree). option_and_then (λ (w : Subtree). root_parent w.tree) o) (sym g ∙ c.whole))) s f

  module _ (H : List ℕ → List ℕ) (own_leaves : HoldsOwnLeaves t) (before after : List ℕ) (e : L ≡ before ++ after) (low : All (λ i. i < m) before) (high : All (λ i. m ≤ i) after)
      (left right : List ℕ) (l : original_tree_hash_at H before t q ≡ Some left) (r : original_tree_hash_at H after t u ≡ Some right) where
    left_hash : original_tree_hash_at H L t q ≡ Some left
    left_hash = left_alike t p q u m (Some parent) c L before after e low high H own_leaves ∙ l

    right_hash : original_tree_hash_at H L t u ≡ Some right
    right_hash = right_alike t p q u m (Some parent) c L before after e low high H own_leaves ∙ r

    left_child_hash : child_hash_at H t p Left ≡ Some left
    left_child_hash =
        ap (option_and_then (λ (s : Subtree). root_child_hash H Left s.first s.tree)) c.whole
        ∙ sym (ap (option_and_then (λ (s : Subtree). original_tree_hash H parent.unmerged s.first s.tree)) c.left_child)
        ∙ ap (λ (M : List ℕ). original_tree_hash_at H M t q) (sym listed) ∙ left_hash

    right_child_hash : child_hash_at H t p Right ≡ Some right
    right_child_hash =
        ap (option_and_then (λ (s : Subtree). root_child_hash H Right s.first s.tree)) c.whole
        ∙ sym (ap (option_and_then (λ (s : Subtree). original_tree_hash H parent.unmerged s.first s.tree)) c.right_child)
        ∙ ap (λ (M : List ℕ). original_tree_hash_at H M t u) (sym listed) ∙ right_hash

    pub child_hashes : AreChildHashes H t p (record { left = left; right = right })
    child_hashes = record { left = left_child_hash; right = right_child_hash }

    -- the parent's own hash is known besides
    pub known_more : (known : KnownHashes) (hash : List ℕ) → AreKnownHashes H t known
        → option_map H (parent_tree_hash_input (option_map (stripped_parent L) (Some parent)) left right) ≡ Some hash
        → AreKnownHashes H t (record known { own = slice_set known.own (p / 2) (Some hash) })
    known_more known hash h a = record {
      subtrees = h.subtrees;
      own = own-put H t known.own (p / 2) hash h.own
          (ap (own_hash_at H t) (numbered t p q u m (Some parent) c) ∙ own_hash t p q u m (Some parent) c H parent refl
          ∙ ap (λ (M : List ℕ). original_tree_hash_at H M t p) (sym listed)
          ∙ whole_hash t p q u m (Some parent) c H L ∙ (λ i. hash_of_parent H (option_map (stripped_parent L) (Some parent)) (left_hash i) (right_hash i)) ∙ a);
    }
