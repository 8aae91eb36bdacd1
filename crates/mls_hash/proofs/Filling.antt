-- The hashes of all subtrees, put into a list, the children's first.
use Rattle.std.proofs.Common.{◌≡◌, ◌≢◌, ℕ, ◌+◌, ◌*◌, ◌-◌, ◌<◌, List, [], length, map, get_or, Option, Some, None, IsSome, refl, sym, ap, subst, ◌∙◌, arith, inl, inr}
use Rattle.std.specs.Prelude.{option_map, option_and_then, slice_get, slice_set}
use Rattle.std.proofs.lemmas.Bool.{cases_order, cases_lt}
use Rattle.std.proofs.lemmas.List.{length-map, length-set}
use Rattle.std.proofs.lemmas.Option.{none-some, same_Some, slice_get_past, slice_get-get_or}
use Rattle.mls_nodes.specs.declared.leaf.LeafNode.{LeafNode}
use Rattle.mls_nodes.specs.declared.parent.ParentNode.{ParentNode}
use Rattle.mls_nodes.specs.declared.node.Node.{Node}
use Rattle.mls_nodes.specs.NodeValues.{entry_value}
use Rattle.mls_tree.specs.Tree.{Tree, leaf, branch, leaf_count, listing, Subtree, subtree_at, root_node_index}
use Rattle.mls_tree.specs.RatchetTree.{RatchetTree}
use Rattle.mls_tree.specs.TreeHash.{leaf_tree_hash_input, parent_tree_hash_input, tree_hash}
use Rattle.mls_tree.proofs.Arrays.{slice_get-set_same, slice_get-set_other}
use Rattle.mls_tree.proofs.Coordinates.{root-seen}
use Rattle.mls_tree.proofs.Descent.{inside_bound}
use Rattle.mls_tree.proofs.Trees.{length-listing, subtree_at-stands, subtree_at-root, subtree_at-some, subtree_at-none, subtree_at-in_left, subtree_at-in_right, root_node_index-above, root_node_index-below}
use Rattle.mls_tree.specs.NodeView.{HasChildren}
use Rattle.mls_tree.specs.HashLists.{EqualHashes}
use Rattle.mls_hash.specs.WithoutLeaves.{stripped_parent, tree_hash_at}
use Rattle.mls_hash.specs.SubtreeHashes.{AreAllHashes, IsSubtreeHashAt, AreSubtreeHashes}
use Rattle.mls_hash.specs.SubtreeHashesInternal.{AreHashesKept, AreHashesUnder, HasEntryForEachSubtree}
use Rattle.mls_hash.proofs.Answers.{leaf_answer, parent_answer, whole_tree}

module _ (H : List ℕ → List ℕ) (t : Tree) where
  -- the hash of a leaf
  pub leaf_hashed : (p number : ℕ) (x : Option LeafNode) (h : List ℕ) → subtree_at 0 t p ≡ Some (record { first = number; tree = leaf x })
      → option_map H (leaf_tree_hash_input number x) ≡ Some h → tree_hash_at H t p ≡ Some h
  leaf_hashed p number x h e a = sym (whole_tree H t p) ∙ leaf_answer H [] t p number x x h e refl a

  -- the hash of a parent, after its children
  pub parent_hashed : (p q u m : ℕ) (n : Option ParentNode) (c : HasChildren t p q u m n) (L left right h : List ℕ) → L ≡ []
      → tree_hash_at H t q ≡ Some left → tree_hash_at H t u ≡ Some right
      → option_map H (parent_tree_hash_input (option_map (stripped_parent L) n) left right) ≡ Some h
      → tree_hash_at H t p ≡ Some h
  parent_hashed p q u m n c L left right h none a b e =
      sym (whole_tree H t p)
      ∙ parent_answer t p q u m n c H [] left right h (whole_tree H t q ∙ a) (whole_tree H t u ∙ b)
      (ap (λ (M : List ℕ). option_map H (parent_tree_hash_input (option_map (stripped_parent M) n) left right)) (sym none) ∙ e)

  -- ---- one hash is put

  module _ (old new : List (List ℕ)) (p : ℕ) (hash : List ℕ) (under : p < length old) (is : new ≡ slice_set old p hash) (right : tree_hash_at H t p ≡ Some hash) where
    pub put_here : IsSubtreeHashAt H t new p
    put_here = ap (λ (hs : List (List ℕ)). slice_get hs p) is ∙ slice_get-set_same old p hash under ∙ sym right

    other : (q : ℕ) → q ≢ p → IsSubtreeHashAt H t old q → IsSubtreeHashAt H t new q
    other q ne e = ap (λ (hs : List (List ℕ)). slice_get hs q) is ∙ slice_get-set_other old p q hash ne ∙ e

    pub put_keeps : AreHashesKept H t old new
    put_keeps q e =
        elim (cases_order q p) [
          | inl at ↦ subst (λ (k : ℕ). IsSubtreeHashAt H t new k) (sym at) put_here
          | inr (inl lt) ↦ other q (omega arith) e
          | inr (inr gt) ↦ other q (omega arith) e
        ]

    -- a leaf has no other subtree
    pub leaf_put : (number : ℕ) (x : Option LeafNode) → subtree_at 0 t p ≡ Some (record { first = number; tree = leaf x }) → AreHashesUnder H t new p
    leaf_put number x e s f q u sub =
        let node_index = (subtree_at-stands 0 t p _ e).node_index in
        let inside : subtree_at number (leaf x) q ≡ Some u = subst (λ (v : Subtree). subtree_at v.first v.tree q ≡ Some u) (same_Some _ _ (sym f ∙ e)) sub in
        let st = subtree_at-stands number (leaf x) q u inside in
        let at : q ≡ p = omega (arith, node_index, st.node_index, st.from_left, st.to_right, root_node_index-above u.first u.tree, root_node_index-below u.first u.tree) in
        subst (λ (k : ℕ). IsSubtreeHashAt H t new k) (sym at) put_here

    -- a parent has those of its children as well
    pub parent_put : (q u m : ℕ) (n : Option ParentNode) → HasChildren t p q u m n → AreHashesUnder H t old q → AreHashesUnder H t old u → AreHashesUnder H t new p
    parent_put q u m n c left after s f k v sub =
        let node_index = (subtree_at-stands 0 t p _ c.whole).node_index in
        let inside : subtree_at c.first (branch c.left n c.right) k ≡ Some v = subst (λ (w : Subtree). subtree_at w.first w.tree k ≡ Some v) (same_Some _ _ (sym f ∙ c.whole)) sub in
        elim (cases_order (k + 1) (2 * (c.first + leaf_count c.left))) [
          | inl at ↦ subst (λ (w : ℕ). IsSubtreeHashAt H t new w) (omega (arith, node_index)) put_here
          | inr (inl lt) ↦ put_keeps k (left _ c.left_child k v (sym (subtree_at-in_left c.first c.left n c.right k lt) ∙ inside))
          | inr (inr gt) ↦ put_keeps k (after _ c.right_child k v (sym (subtree_at-in_right c.first c.left n c.right k gt) ∙ inside))
        ]

  pub keep_under : (old new : List (List ℕ)) (q : ℕ) → AreHashesKept H t old new → AreHashesUnder H t old q → AreHashesUnder H t new q
  keep_under old new q kept h s e k v sub = kept k (h s e k v sub)

  -- ---- all hashes are put

  pub all_listed : (hashes : List (List ℕ)) → length hashes + 1 ≡ 2 * leaf_count t → ((p : ℕ) → p + 1 < 2 * leaf_count t → IsSubtreeHashAt H t hashes p) → AreSubtreeHashes H t hashes
  all_listed hashes capacity each p =
      elim (cases_lt (p + 1) (2 * leaf_count t)) [
        | inl lt ↦ each p lt
        | inr past ↦
            slice_get_past hashes p (omega arith)
            ∙ sym (ap (option_and_then (λ (s : Subtree). tree_hash H s.first s.tree)) (subtree_at-none 0 t p (omega arith)))
      ]

  pub all_put : (hashes : List (List ℕ)) (root : ℕ) → length hashes + 1 ≡ 2 * leaf_count t → root ≡ root_node_index 0 t → AreHashesUnder H t hashes root → AreSubtreeHashes H t hashes
  all_put hashes root capacity at h =
      all_listed hashes capacity
      (λ p lt.
      let s = subtree_at-some 0 t p (omega arith) (omega arith) in
      h (record { first = 0; tree = t }) (ap (subtree_at 0 t) at ∙ subtree_at-root 0 t) p s.0 s.1)

-- a hash is put into a list that has capacity for all of them
pub put_room : (suite : ℕ) (t : Tree) (old new : EqualHashes) (p : ℕ) (hash : List ℕ) → HasEntryForEachSubtree suite t old → new ≡ record old { hashes = slice_set old.hashes p hash } → HasEntryForEachSubtree suite t new
put_room suite t old new p hash capacity is = record {
  count = omega (arith, ap (λ l. length l.hashes) is, length-set old.hashes p hash, capacity.count);
  width = ap (λ l. l.width) is ∙ capacity.width;
}

pub node_count : (t : Tree) (nodes : List (Option Node)) → map entry_value nodes ≡ listing t → length nodes + 1 ≡ 2 * leaf_count t
node_count t nodes e = omega (arith, ap length e, length-map nodes entry_value, length-listing t)

pub root_there : (t : RatchetTree) (n : ℕ) → n ≡ leaf_count t.tree → IsSome (subtree_at 0 t.tree (n - 1))
root_there t n e = subst (λ (p : ℕ). IsSome (subtree_at 0 t.tree p)) (sym (root-seen t n (sym e))) (subst (λ (o : Option Subtree). IsSome o) (sym (subtree_at-root 0 t.tree)) refl)

-- ---- a list of all hashes is read

some_of : (o : Option Subtree) → IsSome o → (s : Subtree) × (o ≡ Some s)
some_of None h = absurd (cc)
some_of (Some s) h = (s, refl)

-- it has one at each node index of the tree
pub hash_there : (H : List ℕ → List ℕ) (t : Tree) (hashes : List (List ℕ)) → AreAllHashes H t hashes → (p : ℕ) → IsSome (subtree_at 0 t p) → slice_get hashes p ≡ None → ⊥
hash_there H t hashes all p there none =
    let s = some_of (subtree_at 0 t p) there in
    none-some (get_or hashes p []) (sym none ∙ slice_get-get_or hashes p [] (omega (arith, all.count, inside_bound t p s.0 s.1)))
