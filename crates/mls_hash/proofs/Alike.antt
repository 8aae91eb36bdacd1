-- A subtree whose unmerged lists have its own leaves alone: without the leaves of a list it is the same as without those of the list that lie under it.
use Rattle.std.proofs.Common.{◌≡◌, ℕ, ◌+◌, ◌<◌, ◌≤◌, cond, List, [], ◌++◌, Option, Some, None, sym, ap, subst, ◌∙◌, get_or, arith}
use Rattle.std.specs.Prelude.{option_and_then, All, slice_get}
use Rattle.std.proofs.lemmas.Option.{same_Some}
use Rattle.mls_nodes.specs.declared.parent.ParentNode.{ParentNode}
use Rattle.mls_tree.specs.Tree.{Tree, leaf, branch, leaf_count, Subtree, subtree_at, root_node_index}
use Rattle.mls_tree.specs.TreeHash.{tree_hash}
use Rattle.mls_tree.proofs.Trees.{subtree_at-stands, subtree_at-root, subtree_at-nested, subtree_at-in_left, subtree_at-in_right, root_node_index-above, root_node_index-below}
use Rattle.mls_tree.specs.NodeView.{HasChildren}
use Rattle.mls_hash.specs.ParentHash.{root_parent}
use Rattle.mls_hash.specs.WithoutLeaves.{strip, original_tree_hash, original_tree_hash_at}
use Rattle.mls_hash.specs.SubtreeHashes.{AreSubtreeHashes, HoldsOwnLeaves, IsLeafOf}
use Rattle.mls_hash.specs.SubtreeHashesInternal.{AreLeavesUnder}
use Rattle.mls_hash.proofs.Strips.{HaveAlike, parent-alike}
use Rattle.mls_hash.proofs.Answers.{whole_tree}
use Rattle.mls_hash.proofs.Sets.{front_has, rest_has, among_front, among_rest}

-- the unmerged lists of a tree whose first leaf is numbered `first` have leaves under their parents alone
abbrev OwnLeaves : ℕ → Tree → Type 0
OwnLeaves first t = (p : ℕ) (s : Subtree) (q : ParentNode) → subtree_at first t p ≡ Some s → root_parent s.tree ≡ Some q → All (IsLeafOf s) q.unmerged

module _ (L M : List ℕ) where
  strip-alike : (first : ℕ) (t : Tree) → ((i : ℕ) → first ≤ i → i < first + leaf_count t → HaveAlike L M i) → OwnLeaves first t → strip L first t ≡ strip M first t
  strip-alike first (leaf x) alike own = let e = alike first (omega arith) (omega arith) in λ i. leaf (cond (e i) None x)
  strip-alike first (branch l n r) alike own =
      let left =
      strip-alike first l (λ i a b. alike i a (omega arith))
      (λ p s q e h.
      let at = subtree_at-stands first l p s e in
      own p s q (subtree_at-in_left first l n r p (omega (arith, at.node_index, at.to_right, root_node_index-below s.first s.tree)) ∙ e) h) in
      let right =
      strip-alike (first + leaf_count l) r (λ i a b. alike i (omega arith) (omega arith))
      (λ p s q e h.
      let at = subtree_at-stands (first + leaf_count l) r p s e in
      own p s q (subtree_at-in_right first l n r p (omega (arith, at.node_index, at.from_left, root_node_index-above s.first s.tree)) ∙ e) h) in
      let here =
      parent-alike L M n
      (λ q e k d lt.
      let range = own (root_node_index first (branch l n r)) _ q (subtree_at-root first (branch l n r)) e k d lt in
      alike _ range.0 range.1) in
      λ i. branch (left i) (here i) (right i)

module _ (H : List ℕ → List ℕ) (t : Tree) where
  -- the hash of the subtree at a node index is the same without the leaves of either list
  hash-alike : (L M : List ℕ) (p : ℕ) (s : Subtree) → HoldsOwnLeaves t → subtree_at 0 t p ≡ Some s → ((i : ℕ) → IsLeafOf s i → HaveAlike L M i)
      → original_tree_hash_at H L t p ≡ original_tree_hash_at H M t p
  hash-alike L M p s own e alike =
      let same = strip-alike L M s.first s.tree (λ i low high. alike i (low, high)) (λ q u n f m. own q u n (subtree_at-nested 0 t p s e q u f) m) in
      ap (option_and_then (λ (u : Subtree). original_tree_hash H L u.first u.tree)) e ∙ ap (tree_hash H s.first) same
      ∙ sym (ap (option_and_then (λ (u : Subtree). original_tree_hash H M u.first u.tree)) e)

  -- with no leaf left out it is the cached hash
  pub kept_hash : (L : List ℕ) (hashes : List (List ℕ)) (p : ℕ) (h : List ℕ) → AreSubtreeHashes H t hashes → L ≡ [] → slice_get hashes p ≡ Some h → original_tree_hash_at H L t p ≡ Some h
  kept_hash L hashes p h all none g = ap (λ (M : List ℕ). original_tree_hash_at H M t p) none ∙ whole_tree H t p ∙ sym (all p) ∙ g

-- ---- at a parent the list is split in two, at the first leaf of the right subtree

module _ (t : Tree) (p q u m : ℕ) (n : Option ParentNode) (c : HasChildren t p q u m n) (L before after : List ℕ) (e : L ≡ before ++ after)
    (low : All (λ i. i < m) before) (high : All (λ i. m ≤ i) after) where
  pub left_alike : (H : List ℕ → List ℕ) → HoldsOwnLeaves t → original_tree_hash_at H L t q ≡ original_tree_hash_at H before t q
  left_alike H own = hash-alike H t L before q _ own c.left_child (λ i r. among_front L before after e i (λ k d lt. let a = high k d lt in omega (arith, c.split)))

  pub right_alike : (H : List ℕ → List ℕ) → HoldsOwnLeaves t → original_tree_hash_at H L t u ≡ original_tree_hash_at H after t u
  right_alike H own = hash-alike H t L after u _ own c.right_child (λ i r. among_rest L before after e i (λ k d lt. let a = low k d lt in omega (arith, c.split)))

  pub left_under : AreLeavesUnder t p L → AreLeavesUnder t q before
  left_under under s f k d lt =
      let a = front_has (IsLeafOf (record { first = c.first; tree = branch c.left n c.right })) L before after e (under _ c.whole) k d lt in
      let b = low k d lt in
      subst (λ (v : Subtree). IsLeafOf v (get_or before k d)) (same_Some _ _ (sym c.left_child ∙ f)) (a.0, omega (arith, c.split))

  pub right_under : AreLeavesUnder t p L → AreLeavesUnder t u after
  right_under under s f k d lt =
      let a = rest_has (IsLeafOf (record { first = c.first; tree = branch c.left n c.right })) L before after e (under _ c.whole) k d lt in
      let b = high k d lt in
      subst (λ (v : Subtree). IsLeafOf v (get_or after k d)) (same_Some _ _ (sym c.right_child ∙ f)) (omega (arith, c.split), omega (arith, a.1))
