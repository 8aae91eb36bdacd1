-- A change that is undone leaves the tree as it was.
use Rattle.std.proofs.Common.{◌≡◌, ℕ, ◌+◌, ◌*◌, ◌<◌, ◌≤◌, List, [], ◌∷◌, ◌++◌, Option, Some, None, refl, sym, ap, ◌∙◌, subst, inl, inr, arith, Box, Global}
use Rattle.std.specs.Prelude.{option_map, Result, Ok, Err, OnOk, OnErr, IsErr, IsNone}
use Rattle.std.proofs.lemmas.Bool.{cases_lt, cases_order}
use Rattle.mls_nodes.specs.declared.leaf.LeafNode.{LeafNode}
use Rattle.mls_nodes.specs.declared.parent.ParentNode.{ParentNode}
use Rattle.mls_tree.specs.Tree.{Tree, leaf, branch, leaf_count, leaf_at, node_at, entry_of, Subtree, subtree_at, IsParent, IsParentNodeIndex}
use Rattle.mls_tree.specs.TreeOperations.{put_leaf, put_parent, change_parent, without_unmerged, left_subtree, extend, rejoined}
use Rattle.mls_tree.specs.NodeView.{parent_of}
use Rattle.mls_tree.specs.Journals.{undone, all_undone}
use Rattle.mls_tree.specs.declared.journal.UndoEntry.{UndoEntry}
use Rattle.mls_tree.specs.declared.journal.UndoEntry.TheVariants.{Leaf, Parent, AddedUnmerged, Extended, Truncated}
use Rattle.mls_tree.specs.RatchetTree.{RatchetTree}
use Rattle.mls_tree.specs.PublicTreeModel.{KeptTree}
use Rattle.mls_tree.proofs.Elsewhere.{put_parent-elsewhere}
use Rattle.mls_tree.proofs.Choices.{below, from, here, before, after, same}
use Rattle.mls_tree.proofs.AlongPaths.{parent_of-entry}
use Rattle.mls_tree.proofs.Kept.{leaf_count-put_leaf, leaf_count-put_parent}

-- ---- a leaf

pub put_leaf-back : (first : ℕ) (t : Tree) (i : ℕ) (x : Option LeafNode) → first ≤ i → i < first + leaf_count t
    → put_leaf first (put_leaf first t i x) i (leaf_at first t i) ≡ t
put_leaf-back first (leaf y) i x a b = ap leaf (same i first y None (omega arith))
put_leaf-back first (branch l n r) i x a b =
    let m = first + leaf_count l in
    let c = leaf_count-put_leaf first l i x in
    elim (cases_lt i m) [
      | inl lt ↦
          (let at : leaf_at first (branch l n r) i ≡ leaf_at first l i = below i m (leaf_at first l i) (leaf_at m r i) lt in
          let put : put_leaf first (branch l n r) i x ≡ branch (put_leaf first l i x) n r
          = below i m (branch (put_leaf first l i x) n r) (branch l n (put_leaf m r i x)) lt in
          let u = put_leaf first l i x in
          (λ k. put_leaf first (put k) i (at k))
          ∙ below i (first + leaf_count u) (branch (put_leaf first u i (leaf_at first l i)) n r) (branch u n (put_leaf (first + leaf_count u) r i (leaf_at first l i))) (omega arith)
          ∙ ap (λ v. branch v n r) (put_leaf-back first l i x a lt))
      | inr ge ↦
          (let at : leaf_at first (branch l n r) i ≡ leaf_at m r i = from i m (leaf_at first l i) (leaf_at m r i) ge in
          let put : put_leaf first (branch l n r) i x ≡ branch l n (put_leaf m r i x)
          = from i m (branch (put_leaf first l i x) n r) (branch l n (put_leaf m r i x)) ge in
          let u = put_leaf m r i x in
          (λ k. put_leaf first (put k) i (at k))
          ∙ from i m (branch (put_leaf first l i (leaf_at m r i)) n u) (branch l n (put_leaf m u i (leaf_at m r i))) ge
          ∙ ap (λ v. branch l n v) (put_leaf-back m r i x ge (omega arith)))
    ]

-- ---- a parent

pub put_parent-back : (first : ℕ) (t : Tree) (p : ℕ) (x : Option ParentNode) → IsParent (subtree_at first t p)
    → put_parent first (put_parent first t p x) p (parent_of (entry_of (subtree_at first t p))) ≡ t
put_parent-back first (leaf y) p x h = refl
put_parent-back first (branch l n r) p x h =
    let m = first + leaf_count l in
    let whole : Option Subtree = Some (record { first = first; tree = branch l n r }) in
    let at_left = subtree_at first l p in
    let at_right = subtree_at m r p in
    elim (cases_order (p + 1) (2 * m)) [
      | inl at ↦
          (let e : subtree_at first (branch l n r) p ≡ whole = here (p + 1) (2 * m) whole at_left at_right at in
          let put : put_parent first (branch l n r) p x ≡ branch l x r
          = here (p + 1) (2 * m) (branch l x r) (branch (put_parent first l p x) n r) (branch l n (put_parent m r p x)) at in
          (λ k. put_parent first (put k) p (parent_of (entry_of (e k))))
          ∙ ap (λ v. put_parent first (branch l x r) p v) (parent_of-entry n)
          ∙ here (p + 1) (2 * m) (branch l n r) (branch (put_parent first l p n) x r) (branch l x (put_parent m r p n)) at)
      | inr (inl lt) ↦
          (let e : subtree_at first (branch l n r) p ≡ at_left = before (p + 1) (2 * m) whole at_left at_right lt in
          let u = put_parent first l p x in
          let c = leaf_count-put_parent first l p x in
          let v = parent_of (entry_of at_left) in
          let put : put_parent first (branch l n r) p x ≡ branch u n r
          = before (p + 1) (2 * m) (branch l x r) (branch u n r) (branch l n (put_parent m r p x)) lt in
          (λ k. put_parent first (put k) p (parent_of (entry_of (e k))))
          ∙ before (p + 1) (2 * (first + leaf_count u)) (branch u v r) (branch (put_parent first u p v) n r) (branch u n (put_parent (first + leaf_count u) r p v)) (omega arith)
          ∙ ap (λ w. branch w n r) (put_parent-back first l p x (subst (λ o. IsParent o) e h)))
      | inr (inr gt) ↦
          (let e : subtree_at first (branch l n r) p ≡ at_right = after (p + 1) (2 * m) whole at_left at_right gt in
          let u = put_parent m r p x in
          let v = parent_of (entry_of at_right) in
          let put : put_parent first (branch l n r) p x ≡ branch l n u
          = after (p + 1) (2 * m) (branch l x r) (branch (put_parent first l p x) n r) (branch l n u) gt in
          (λ k. put_parent first (put k) p (parent_of (entry_of (e k))))
          ∙ after (p + 1) (2 * m) (branch l v u) (branch (put_parent first l p v) n u) (branch l n (put_parent m u p v)) gt
          ∙ ap (λ w. branch l n w) (put_parent-back m r p x (subst (λ o. IsParent o) e h)))
    ]

-- ---- a list of changes

-- the last change is undone first
pub undone-last : (xs : List UndoEntry) (x : UndoEntry) (t : Tree) → all_undone (xs ++ x ∷ []) t ≡ all_undone xs (undone x t)
undone-last [] x t = refl
undone-last (y ∷ xs) x t = ap (undone y) (undone-last xs x t)

-- ---- one change is undone

pub leaf-undone : (t u : Tree) (i : ℕ) (x : Option LeafNode) (node : Option LeafNode) → i < leaf_count t → u ≡ put_leaf 0 t i x
    → node ≡ leaf_at 0 t i → undone (Leaf i node) u ≡ t
leaf-undone t u i x node inside put former =
    let c = leaf_count-put_leaf 0 t i x in
    let e : leaf_count u ≡ leaf_count t = ap leaf_count put ∙ c in
    below i (leaf_count u) (put_leaf 0 u i node) u (omega arith)
    ∙ (λ k. put_leaf 0 (put k) i (former k))
    ∙ put_leaf-back 0 t i x (omega arith) (omega arith)

pub parent-undone : (t u : Tree) (p : ℕ) (x : Option ParentNode) (node : Option (Box ParentNode Global)) → IsParentNodeIndex t p → u ≡ put_parent 0 t p x
    → option_map (λ b. b.value) node ≡ parent_of (node_at t p) → undone (Parent p node) u ≡ t
parent-undone t u p x node inside put former = (λ k. put_parent 0 (put k) p (former k)) ∙ put_parent-back 0 t p x inside

-- the parent that is there is put
put_parent-same : (first : ℕ) (t : Tree) (p : ℕ) → IsParent (subtree_at first t p) → put_parent first t p (parent_of (entry_of (subtree_at first t p))) ≡ t
put_parent-same first (leaf y) p h = refl
put_parent-same first (branch l n r) p h =
    let m = first + leaf_count l in
    let whole : Option Subtree = Some (record { first = first; tree = branch l n r }) in
    let at_left = subtree_at first l p in
    let at_right = subtree_at m r p in
    elim (cases_order (p + 1) (2 * m)) [
      | inl at ↦
          (let e : subtree_at first (branch l n r) p ≡ whole = here (p + 1) (2 * m) whole at_left at_right at in
          ap (λ o. put_parent first (branch l n r) p (parent_of (entry_of o))) e
          ∙ ap (put_parent first (branch l n r) p) (parent_of-entry n)
          ∙ here (p + 1) (2 * m) (branch l n r) (branch (put_parent first l p n) n r) (branch l n (put_parent m r p n)) at)
      | inr (inl lt) ↦
          (let e : subtree_at first (branch l n r) p ≡ at_left = before (p + 1) (2 * m) whole at_left at_right lt in
          let v = parent_of (entry_of at_left) in
          ap (λ o. put_parent first (branch l n r) p (parent_of (entry_of o))) e
          ∙ before (p + 1) (2 * m) (branch l v r) (branch (put_parent first l p v) n r) (branch l n (put_parent m r p v)) lt
          ∙ ap (λ w. branch w n r) (put_parent-same first l p (subst (λ o. IsParent o) e h)))
      | inr (inr gt) ↦
          (let e : subtree_at first (branch l n r) p ≡ at_right = after (p + 1) (2 * m) whole at_left at_right gt in
          let v = parent_of (entry_of at_right) in
          ap (λ o. put_parent first (branch l n r) p (parent_of (entry_of o))) e
          ∙ after (p + 1) (2 * m) (branch l v r) (branch (put_parent first l p v) n r) (branch l n (put_parent m r p v)) gt
          ∙ ap (λ w. branch l n w) (put_parent-same m r p (subst (λ o. IsParent o) e h)))
    ]

-- a blank parent that becomes blank
pub blank-kept : (t u : Tree) (p : ℕ) (x node : Option (Box ParentNode Global)) → IsParentNodeIndex t p → IsNone x → IsNone node → u ≡ put_parent 0 t p (option_map (λ b. b.value) x)
    → option_map (λ b. b.value) node ≡ parent_of (node_at t p) → u ≡ t
blank-kept t u p None None inside a b put former = put ∙ ap (put_parent 0 t p) former ∙ put_parent-same 0 t p inside
blank-kept t u p None (Some n) inside a b put former = absurd (cc)
blank-kept t u p (Some x) node inside a b put former = absurd (cc)

-- ---- what a journal stores of one change

module _ (t u : Tree) (old capacity new : List UndoEntry) (reserved : capacity ≡ old) where
  -- a leaf was replaced
  pub leaf-kept_back : (i : ℕ) (x : Option LeafNode) (node : Option LeafNode) → i < leaf_count t → u ≡ put_leaf 0 t i x
      → node ≡ leaf_at 0 t i → new ≡ capacity ++ Leaf i node ∷ [] → all_undone new u ≡ all_undone old t
  leaf-kept_back i x node inside put former pushed =
      ap (λ xs. all_undone xs u) (pushed ∙ ap (λ xs. xs ++ Leaf i node ∷ []) reserved)
      ∙ undone-last old (Leaf i node) u
      ∙ ap (all_undone old) (leaf-undone t u i x node inside put former)

  -- a parent was replaced
  pub parent-kept_back : (p : ℕ) (x : Option ParentNode) (node : Option (Box ParentNode Global)) → IsParentNodeIndex t p → u ≡ put_parent 0 t p x
      → option_map (λ b. b.value) node ≡ parent_of (node_at t p) → new ≡ capacity ++ Parent p node ∷ [] → all_undone new u ≡ all_undone old t
  parent-kept_back p x node inside put former pushed =
      ap (λ xs. all_undone xs u) (pushed ∙ ap (λ xs. xs ++ Parent p node ∷ []) reserved)
      ∙ undone-last old (Parent p node) u
      ∙ ap (all_undone old) (parent-undone t u p x node inside put former)

  -- a leaf's index entered a list
  pub in_lists-kept_back : (p i : ℕ) → change_parent (without_unmerged i) 0 u p ≡ t → new ≡ capacity ++ AddedUnmerged p i ∷ [] → all_undone new u ≡ all_undone old t
  in_lists-kept_back p i left pushed =
      ap (λ xs. all_undone xs u) (pushed ∙ ap (λ xs. xs ++ AddedUnmerged p i ∷ []) reserved)
      ∙ undone-last old (AddedUnmerged p i) u
      ∙ ap (all_undone old) left

  -- the tree was doubled
  pub grown-kept_back : u ≡ extend t → new ≡ capacity ++ Extended ∷ [] → all_undone new u ≡ all_undone old t
  grown-kept_back put pushed =
      ap (λ xs. all_undone xs u) (pushed ∙ ap (λ xs. xs ++ Extended ∷ []) reserved)
      ∙ undone-last old Extended u
      ∙ ap (λ v. all_undone old (left_subtree v)) put

-- a parent that is put, or refused if the node index is that of no parent
pub parent-put_back : {A E : Type 0} (r : Result A E) (t u : RatchetTree) (p : ℕ) (x : Option ParentNode) → OnOk r (u.tree ≡ put_parent 0 t.tree p x) → OnErr r (u ≡ t)
    → (IsErr r → ¬ IsParentNodeIndex t.tree p) → u.tree ≡ put_parent 0 t.tree p x
parent-put_back (Ok a) t u p x put stays none = put
parent-put_back (Err e) t u p x put stays none = ap (λ (r : RatchetTree). r.tree) stays ∙ sym (put_parent-elsewhere t.tree p x (none refl))

-- the last change is undone
pub undone-step : (t u : Tree) (all rest : List UndoEntry) (x : UndoEntry) → all ≡ rest ++ x ∷ [] → u ≡ undone x t → all_undone rest u ≡ all_undone all t
undone-step t u all rest x split e = ap (all_undone rest) e ∙ sym (undone-last rest x t) ∙ ap (λ xs. all_undone xs t) (sym split)

-- the tree was truncated
pub truncated-kept_back : (t u : Tree) (b : Box KeptTree Global) (old capacity new : List UndoEntry) → capacity ≡ old → rejoined u b.value.tree ≡ t → new ≡ capacity ++ Truncated b ∷ []
    → all_undone new u ≡ all_undone old t
truncated-kept_back t u b old capacity new reserved back pushed =
    ap (λ xs. all_undone xs u) (pushed ∙ ap (λ xs. xs ++ Truncated b ∷ []) reserved)
    ∙ undone-last old (Truncated b) u
    ∙ ap (all_undone old) back
