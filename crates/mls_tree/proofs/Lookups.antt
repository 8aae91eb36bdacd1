-- What the array says of the tree that it holds.
use Rattle.std.proofs.Common.{◌≡◌, ◌≢◌, ℕ, zero, suc, ◌+◌, ◌*◌, ◌-◌, ◌/◌, ◌%◌, ◌<◌, ◌≤◌, List, length, Option, Some, None, refl, sym, ap, ◌∙◌, subst, inl, inr, arith, length-set, get_or, Bor, option_map, option_copied, is_some, true, false, nat_lt, ltb-true, ltb-false}
use Rattle.std.specs.Prelude.{slice_get, slice_set, ◌⊎◌}
use Rattle.std.proofs.lemmas.Bool.{cases_order, cases_lt}
use Rattle.std.proofs.lemmas.Option.{slice_get_past, slice_get_read}
use Rattle.mls_nodes.specs.declared.leaf.LeafNode.{LeafNode}
use Rattle.mls_nodes.specs.declared.parent.ParentNode.{ParentNode}
use Rattle.mls_nodes.specs.declared.node.Node.{Node}
use Rattle.mls_nodes.specs.NodeValues.{entry_value, node_value}
use Rattle.mls_tree.specs.Tree.{Tree, leaf, branch, height, leaf_count, Subtree, subtree_at, root_node_index, root_entry, leaf_at, node_at, entry_of, IsBranch, IsParent, IsParentNodeIndex}
use Rattle.mls_tree.specs.TreeInternal.{leaves_at}
use Rattle.mls_tree.specs.TreeOperations.{put_leaf, put_parent}
use Rattle.mls_tree.specs.NodeArray.{leaf_part, parent_part, tree_in, IsNoLeaf, IsNoParent, IsArrayOf, height-tree_in}
use Rattle.mls_tree.specs.RatchetTree.{RatchetTree}
use Rattle.mls_tree.specs.NodeIndicesInternal.{HasLevel}
use Rattle.mls_tree.specs.Paths.{resolution, resolution_at}
use Rattle.mls_tree.proofs.Coordinates.{At, at_place}
use Rattle.mls_tree.proofs.Numbers.{leaves_at-positive}
use Rattle.mls_tree.proofs.Choices.{below, from, same, other}
use Rattle.mls_tree.proofs.Trees.{leaf_count-positive, along, subtree_at-stands, subtree_at-some, subtree_at-none}
use Rattle.mls_tree.proofs.Arrays.{leaf_count-tree_in, entry_at, leaf_entry-part, parent_entry-part, slice_get-set_same, slice_get-set_other, tree_in-put_leaf, tree_in-put_parent}

pub leaf_at-past : (first : ℕ) (t : Tree) (i : ℕ) → first + leaf_count t ≤ i → leaf_at first t i ≡ None
leaf_at-past first (leaf x) i h = other i first x None (λ e. omega arith)
leaf_at-past first (branch l n r) i h =
    from i (first + leaf_count l) (leaf_at first l i) (leaf_at (first + leaf_count l) r i) (omega arith) ∙ leaf_at-past (first + leaf_count l) r i (omega arith)

pub leaf_at-tree_in : (xs : List (Option Node)) (h first i : ℕ) → first ≤ i → i < first + leaves_at h
    → leaf_at first (tree_in xs h first) i ≡ leaf_part (slice_get xs (2 * i))
leaf_at-tree_in xs zero first i a b =
    let e : first ≡ i = omega arith in
    same i first (leaf_part (slice_get xs (2 * first))) None (sym e) ∙ ap (λ k. leaf_part (slice_get xs (2 * k))) e
leaf_at-tree_in xs (suc h) first i a b =
    let count = leaf_count-tree_in xs h first in
    let l = tree_in xs h first in
    let r = tree_in xs h (first + leaves_at h) in
    elim (cases_lt i (first + leaves_at h)) [
      | inl lt ↦ below i (first + leaf_count l) (leaf_at first l i) (leaf_at (first + leaf_count l) r i) (omega arith) ∙ leaf_at-tree_in xs h first i a lt
      | inr ge ↦
          from i (first + leaf_count l) (leaf_at first l i) (leaf_at (first + leaf_count l) r i) (omega arith)
          ∙ ap (λ k. leaf_at (first + k) r i) count ∙ leaf_at-tree_in xs h (first + leaves_at h) i ge (omega arith)
    ]

pub leaf_at-array : (xs : List (Option Node)) (h i : ℕ) → IsArrayOf xs h → leaf_at 0 (tree_in xs h 0) i ≡ leaf_part (slice_get xs (2 * i))
leaf_at-array xs h i ok =
    elim (cases_lt i (leaves_at h)) [
      | inl lt ↦ leaf_at-tree_in xs h 0 i (omega arith) (omega arith)
      | inr ge ↦
          leaf_at-past 0 (tree_in xs h 0) i (omega (arith, leaf_count-tree_in xs h 0))
          ∙ sym (ap leaf_part (slice_get_past xs (2 * i) (omega (arith, ok.long))))
    ]

-- a subtree of the tree in an array is the tree in that array at its own height and first leaf
subtree_from : (xs : List (Option Node)) (first : ℕ) (t : Tree) (p : ℕ) (s : Subtree) → subtree_at first t p ≡ Some s
    → (h : ℕ) → t ≡ tree_in xs h first → s.tree ≡ tree_in xs (height s.tree) s.first
subtree_from xs =
    along (λ first t p s. (h : ℕ) → t ≡ tree_in xs h first → s.tree ≡ tree_in xs (height s.tree) s.first)
    (λ first t p at h e. e ∙ ap (λ k. tree_in xs k first) (sym (ap height e ∙ height-tree_in xs h first)))
    (λ first l n r p s lt sub ih h e.
    (elim h as (λ k. branch l n r ≡ tree_in xs k first → s.tree ≡ tree_in xs (height s.tree) s.first) [
      | zero ↦ λ w. absurd (cc)
      | suc k ↦ λ w. ih k (cc)
    ]) e)
    (λ first l n r p s gt sub ih h e.
    (elim h as (λ k. branch l n r ≡ tree_in xs k first → s.tree ≡ tree_in xs (height s.tree) s.first) [
      | zero ↦ λ w. absurd (cc)
      | suc k ↦ λ w.
          (let el : l ≡ tree_in xs k first = cc in
          let er : r ≡ tree_in xs k (first + leaves_at k) = cc in
          let en : leaves_at k ≡ leaf_count l = sym (ap leaf_count el ∙ leaf_count-tree_in xs k first) in
          ih k (er ∙ ap (λ v. tree_in xs k (first + v)) en))
    ]) e)

pub subtree_at-tree_in : (xs : List (Option Node)) (h first p : ℕ) (s : Subtree) → subtree_at first (tree_in xs h first) p ≡ Some s
    → s.tree ≡ tree_in xs (height s.tree) s.first
subtree_at-tree_in xs h first p s e = subtree_from xs first (tree_in xs h first) p s e h refl

pub root_entry-tree_in : (xs : List (Option Node)) (n h first : ℕ) → IsArrayOf xs n
    → root_entry (tree_in xs h first) ≡ entry_at (slice_get xs (root_node_index first (tree_in xs h first)))
root_entry-tree_in xs n zero first ok = leaf_entry-part (slice_get xs (2 * first)) (ok.even first)
root_entry-tree_in xs n (suc h) first ok =
    let count = leaf_count-tree_in xs h first in
    let pos = leaves_at-positive h in
    let i = first + leaves_at h - 1 in
    let at : 2 * i + 1 ≡ 2 * (first + leaves_at h) - 1 = omega arith in
    parent_entry-part (slice_get xs (2 * (first + leaves_at h) - 1)) (subst (λ k. IsNoLeaf (slice_get xs k)) at (ok.odd i))
    ∙ ap (λ k. entry_at (slice_get xs (2 * (first + k) - 1))) (sym count)

pub node_at-array : (xs : List (Option Node)) (h p : ℕ) → IsArrayOf xs h → node_at (tree_in xs h 0) p ≡ entry_at (slice_get xs p)
node_at-array xs h p ok =
    let t = tree_in xs h 0 in
    let count = leaf_count-tree_in xs h 0 in
    elim (cases_lt (p + 1) (2 * leaves_at h)) [
      | inl lt ↦
          (let s = subtree_at-some 0 t p (omega arith) (omega arith) in
          let e = subtree_at-tree_in xs h 0 p s.0 s.1 in
          let at = subtree_at-stands 0 t p s.0 s.1 in
          ap entry_of s.1
          ∙ ap root_entry e
          ∙ root_entry-tree_in xs h (height s.0.tree) s.0.first ok
          ∙ ap (λ v. entry_at (slice_get xs (root_node_index s.0.first v))) (sym e)
          ∙ ap (λ k. entry_at (slice_get xs k)) (sym at.node_index))
      | inr ge ↦
          ap entry_of (subtree_at-none 0 t p (omega arith)) ∙ sym (ap entry_at (slice_get_past xs p (omega (arith, ok.long))))
    ]

-- parents are at the odd node indices
pub IsBranch-odd : (first : ℕ) (t : Tree) (i : ℕ) → root_node_index first t ≡ 2 * i + 1 → IsBranch t
IsBranch-odd first (leaf x) i e = omega arith
IsBranch-odd first (branch l n r) i e = tt

pub IsBranch-even : (first : ℕ) (t : Tree) (i : ℕ) → root_node_index first t ≡ 2 * i → IsBranch t → ⊥
IsBranch-even first (leaf x) i e b = b
IsBranch-even first (branch l n r) i e b = omega (arith, leaf_count-positive l)

pub IsParentNodeIndex-odd : (t : Tree) (i : ℕ) → 2 * i + 2 < 2 * leaf_count t → IsParentNodeIndex t (2 * i + 1)
IsParentNodeIndex-odd t i h =
    let s = subtree_at-some 0 t (2 * i + 1) (omega arith) (omega arith) in
    let at = subtree_at-stands 0 t (2 * i + 1) s.0 s.1 in
    subst (λ o. IsParent o) (sym s.1) (IsBranch-odd s.0.first s.0.tree i (sym at.node_index))

-- a parent's node index is odd, and in the tree
pub IsParentNodeIndex-bounds : (t : Tree) (p : ℕ) → IsParentNodeIndex t p → (p % 2 ≡ 1) × (p + 1 < 2 * leaf_count t)
IsParentNodeIndex-bounds t p h =
    elim (cases_lt (p + 1) (2 * leaf_count t)) [
      | inl lt ↦
          (let s = subtree_at-some 0 t p (omega arith) (omega arith) in
          let at = subtree_at-stands 0 t p s.0 s.1 in
          let b : IsBranch s.0.tree = subst (λ o. IsParent o) s.1 h in
          elim (cases_lt (p % 2) 1) [
            | inl even ↦ (let q : root_node_index s.0.first s.0.tree ≡ 2 * (p / 2) = omega arith in absurd (IsBranch-even s.0.first s.0.tree (p / 2) q b))
            | inr odd ↦ (omega arith, lt)
          ])
      | inr ge ↦ absurd (subst (λ o. IsParent o) (subtree_at-none 0 t p (omega arith)) h)
    ]

-- after a write the array is still one of a tree
pub IsArrayOf-set_leaf : (xs : List (Option Node)) (h i : ℕ) (v : Option Node) → IsArrayOf xs h → IsNoParent (Some v) → 2 * i < length xs → IsArrayOf (slice_set xs (2 * i) v) h
IsArrayOf-set_leaf xs h i v ok fits n = record {
  long = omega (arith, ok.long, length-set xs (2 * i) v);
  even = λ k.
      elim (cases_order k i) [
        | inl e ↦ subst (λ o. IsNoParent o) (sym (ap (λ j. slice_get (slice_set xs (2 * i) v) (2 * j)) e ∙ slice_get-set_same xs (2 * i) v n)) fits
        | inr w ↦ subst (λ o. IsNoParent o) (sym (slice_get-set_other xs (2 * i) (2 * k) v (λ e. elim w [ inl w1 ↦ omega arith | inr w2 ↦ omega arith ]))) (ok.even k)
      ];
  odd = λ k. subst (λ o. IsNoLeaf o) (sym (slice_get-set_other xs (2 * i) (2 * k + 1) v (λ e. omega arith))) (ok.odd k);
}

pub IsArrayOf-set_parent : (xs : List (Option Node)) (h i : ℕ) (v : Option Node) → IsArrayOf xs h → IsNoLeaf (Some v) → 2 * i + 1 < length xs → IsArrayOf (slice_set xs (2 * i + 1) v) h
IsArrayOf-set_parent xs h i v ok fits n = record {
  long = omega (arith, ok.long, length-set xs (2 * i + 1) v);
  even = λ k. subst (λ o. IsNoParent o) (sym (slice_get-set_other xs (2 * i + 1) (2 * k) v (λ e. omega arith))) (ok.even k);
  odd = λ k.
      elim (cases_order k i) [
        | inl e ↦ subst (λ o. IsNoLeaf o) (sym (ap (λ j. slice_get (slice_set xs (2 * i + 1) v) (2 * j + 1)) e ∙ slice_get-set_same xs (2 * i + 1) v n)) fits
        | inr w ↦ subst (λ o. IsNoLeaf o) (sym (slice_get-set_other xs (2 * i + 1) (2 * k + 1) v (λ e. elim w [ inl w1 ↦ omega arith | inr w2 ↦ omega arith ]))) (ok.odd k)
      ];
}

value-copied : (r : Option (Bor Node)) → option_map (λ n. node_value n.now) r ≡ entry_value (option_copied r)
value-copied None = refl
value-copied (Some n) = refl

-- the same, by what a look-up in the array ys returns
module _ (xs ys : List (Option Node)) (h p : ℕ) (ok : IsArrayOf xs h) (t : Tree) (view : tree_in xs h 0 ≡ t) (read : ys ≡ xs) where
  pub node_at-found : (e : Option Node) (r : Option (Bor Node)) → true ≡ nat_lt p (length ys) → e ≡ get_or ys p e → option_copied r ≡ e
      → option_map (λ n. node_value n.now) r ≡ node_at t p
  node_at-found e r within at copied =
      value-copied r ∙ ap entry_value copied
      ∙ sym (ap entry_at (ap (λ v. slice_get v p) (sym read) ∙ slice_get_read ys (length ys) p e refl (ltb-true p (length ys) (sym within)) at))
      ∙ sym (node_at-array xs h p ok) ∙ ap (λ v. node_at v p) view

  pub node_at-missing : false ≡ nat_lt p (length ys) → None ≡ node_at t p
  node_at-missing past =
      sym (ap entry_at (ap (λ v. slice_get v p) (sym read) ∙ slice_get_past ys p (ltb-false p (length ys) (sym past))))
      ∙ sym (node_at-array xs h p ok) ∙ ap (λ v. node_at v p) view

module _ (xs ys : List (Option Node)) (h i : ℕ) (ok : IsArrayOf xs h) (t : Tree) (view : tree_in xs h 0 ≡ t) (read : ys ≡ xs) where
  pub leaf_at-found : (e : Option Node) → true ≡ nat_lt (2 * i) (length ys) → e ≡ get_or ys (2 * i) e → leaf_part (Some e) ≡ leaf_at 0 t i
  leaf_at-found e within at =
      sym (ap leaf_part (ap (λ v. slice_get v (2 * i)) (sym read) ∙ slice_get_read ys (length ys) (2 * i) e refl (ltb-true (2 * i) (length ys) (sym within)) at))
      ∙ sym (leaf_at-array xs h i ok) ∙ ap (λ v. leaf_at 0 v i) view

  pub leaf_at-missing : false ≡ nat_lt (2 * i) (length ys) → None ≡ leaf_at 0 t i
  leaf_at-missing past =
      sym (ap leaf_part (ap (λ v. slice_get v (2 * i)) (sym read) ∙ slice_get_past ys (2 * i) (ltb-false (2 * i) (length ys) (sym past))))
      ∙ sym (leaf_at-array xs h i ok) ∙ ap (λ v. leaf_at 0 v i) view

-- what a function knows of the array xs that it opened, seen as the tree t
module _ (xs : List (Option Node)) (h : ℕ) (ok : IsArrayOf xs h) (t : Tree) (view : tree_in xs h 0 ≡ t) where
  pub leaf_count-seen : leaf_count t ≡ leaves_at h
  leaf_count-seen = sym (ap leaf_count view) ∙ leaf_count-tree_in xs h 0

  pub length-seen : length xs + 1 ≡ 2 * leaf_count t
  length-seen = omega (arith, ok.long, leaf_count-seen)

  pub set_leaf-seen : (i : ℕ) (v : Option Node) (x : Option LeafNode) → i < leaves_at h → leaf_part (Some v) ≡ x
      → tree_in (slice_set xs (2 * i) v) h 0 ≡ put_leaf 0 t i x
  set_leaf-seen i v x n e = tree_in-put_leaf xs h 0 i v x (omega arith) (omega arith) (omega (arith, ok.long)) e ∙ ap (λ r. put_leaf 0 r i x) view

  pub put_parent-seen : (p : ℕ) (v : Option Node) (x : Option ParentNode) → p % 2 ≢ 0 → p < length xs → parent_part (Some v) ≡ x
      → tree_in (slice_set xs p v) h 0 ≡ put_parent 0 t p x
  put_parent-seen p v x odd n e =
      let i = p / 2 in
      let at : 2 * i + 1 ≡ p = omega arith in
      ap (λ k. tree_in (slice_set xs k v) h 0) (sym at)
      ∙ tree_in-put_parent xs h 0 i v x (omega arith) (omega (arith, ok.long)) (omega arith) e
      ∙ ap (λ k. put_parent 0 (tree_in xs h 0) k x) at ∙ ap (λ r. put_parent 0 r p x) view

  pub IsArrayOf-put_parent : (p : ℕ) (v : Option Node) → IsNoLeaf (Some v) → p % 2 ≢ 0 → p < length xs → IsArrayOf (slice_set xs p v) h
  IsArrayOf-put_parent p v fits odd n =
      let at : 2 * (p / 2) + 1 ≡ p = omega arith in
      subst (λ k. IsArrayOf (slice_set xs k v) h) at (IsArrayOf-set_parent xs h (p / 2) v ok fits (omega arith))

  pub IsParentNodeIndex-seen : (p : ℕ) → p % 2 ≢ 0 → p < length xs → IsParentNodeIndex t p
  IsParentNodeIndex-seen p odd n =
      let at : 2 * (p / 2) + 1 ≡ p = omega arith in
      subst (λ k. IsParentNodeIndex t k) at (IsParentNodeIndex-odd t (p / 2) (omega (arith, length-seen)))

  pub IsParentNodeIndex-not : (p : ℕ) → (p % 2 ≡ 0) ⊎ (length xs ≤ p) → IsParentNodeIndex t p → ⊥
  IsParentNodeIndex-not p away h = let b = IsParentNodeIndex-bounds t p h in elim away [ inl even ↦ omega arith | inr past ↦ omega (arith, length-seen) ]

-- the subtree at a node index of the tree that is the model of the array xs, by its level and its first leaf
module _ (xs : List (Option Node)) (h : ℕ) (t : RatchetTree) (view : tree_in xs h 0 ≡ t.tree) (p n k first : ℕ) (c : leaf_count t.tree ≡ n) (s : HasLevel p n k) (f : first ≡ (p + 1 - leaves_at k) / 2) where
  HasLevel-first : (a : At t.tree p k) → a.subtree.first ≡ first
  HasLevel-first a =
      let q : (2 * a.number + 1) * leaves_at k ≡ 2 * (a.number * leaves_at k) + leaves_at k = omega arith in
      omega (arith, a.first, a.node_index)

  pub subtree_at-seen : subtree_at 0 t.tree p ≡ Some (record { first = first; tree = tree_in xs k first })
  subtree_at-seen =
      let a = at_place t p n k c s in
      let g = HasLevel-first a in
      let e : a.subtree.tree ≡ tree_in xs (height a.subtree.tree) a.subtree.first = subtree_from xs 0 t.tree p a.subtree a.stands h (sym view) in
      a.stands ∙ (λ i. Some (record { first = g i; tree = (e ∙ (λ j. tree_in xs (a.level j) (g j))) i }))

  pub HasLevel-inside : first + leaves_at k ≤ n
  HasLevel-inside =
      let st = subtree_at-stands 0 t.tree p _ subtree_at-seen in
      omega (arith, st.to_right, leaf_count-tree_in xs k first, c)

  pub resolution_at-seen : resolution_at t.tree p ≡ Some (resolution n first (tree_in xs k first))
  resolution_at-seen = ap (λ o. option_map (λ (u : Subtree). resolution (leaf_count t.tree) u.first u.tree) o) subtree_at-seen ∙ ap (λ v. Some (resolution v first (tree_in xs k first))) c

pub no_some : {X : Type 0} → (o : Option X) → is_some o ≡ false → o ≡ None
no_some None e = refl
no_some (Some x) e = absurd (cc)
