-- A node that is replaced is one entry of the listing.
use Rattle.std.proofs.Common.{◌≡◌, ℕ, zero, suc, ◌+◌, ◌*◌, ◌-◌, ◌<◌, List, [], ◌∷◌, ◌++◌, length, Option, Some, None, refl, sym, ap, ◌∙◌, subst, inl, inr, arith}
use Rattle.std.specs.Prelude.{slice_set}
use Rattle.std.proofs.lemmas.Bool.{cases_lt, cases_order}
use Rattle.mls_nodes.specs.declared.leaf.LeafNode.{LeafNode}
use Rattle.mls_nodes.specs.declared.parent.ParentNode.{ParentNode}
use Rattle.mls_tree.specs.Tree.{Tree, leaf, branch, leaf_count, listing, leaf_entry, parent_entry, subtree_at, IsParent, IsParentNodeIndex}
use Rattle.mls_tree.specs.TreeOperations.{put_leaf, put_parent}
use Rattle.mls_tree.proofs.Choices.{below, from, here, before, after, same, other}
use Rattle.mls_tree.proofs.Trees.{length-listing, subtree_at-in_left, subtree_at-in_right}

-- a write in a list of two parts
slice_set-append_left : {X : Type 0} (xs ys : List X) (p : ℕ) (v : X) → p < length xs → slice_set (xs ++ ys) p v ≡ slice_set xs p v ++ ys
slice_set-append_left [] ys p v h = absurd (omega arith)
slice_set-append_left (x ∷ xs) ys zero v h = refl
slice_set-append_left (x ∷ xs) ys (suc p) v h = ap (λ zs. x ∷ zs) (slice_set-append_left xs ys p v (omega arith))

slice_set-append_right : {X : Type 0} (xs ys : List X) (p : ℕ) (v : X) → slice_set (xs ++ ys) (length xs + p) v ≡ xs ++ slice_set ys p v
slice_set-append_right [] ys p v = ap (λ k. slice_set ys k v) (let e : 0 + p ≡ p = omega arith in e)
slice_set-append_right (x ∷ xs) ys p v =
    ap (λ k. slice_set (x ∷ xs ++ ys) k v) (let e : length (x ∷ xs) + p ≡ suc (length xs + p) = omega arith in e) ∙ ap (λ zs. x ∷ zs) (slice_set-append_right xs ys p v)

-- a write in the listing of a parent
module _ (l : Tree) (n : Option ParentNode) (r : Tree) (p : ℕ) where
  set-left : (v : _) → p + 1 < 2 * leaf_count l → slice_set (listing (branch l n r)) p v ≡ slice_set (listing l) p v ++ parent_entry n ∷ listing r
  set-left v lt = slice_set-append_left (listing l) (parent_entry n ∷ listing r) p v (omega (arith, length-listing l))

  set-parent : (x : Option ParentNode) → p + 1 ≡ 2 * leaf_count l → slice_set (listing (branch l n r)) p (parent_entry x) ≡ listing (branch l x r)
  set-parent x at =
      let e : p ≡ length (listing l) + 0 = omega (arith, length-listing l) in
      ap (λ k. slice_set (listing l ++ parent_entry n ∷ listing r) k (parent_entry x)) e ∙ slice_set-append_right (listing l) (parent_entry n ∷ listing r) 0 (parent_entry x)

  set-right : (v : _) → 2 * leaf_count l < p + 1 → slice_set (listing (branch l n r)) p v ≡ listing l ++ parent_entry n ∷ slice_set (listing r) (p - 2 * leaf_count l) v
  set-right v gt =
      let e : p ≡ length (listing l) + suc (p - 2 * leaf_count l) = omega (arith, length-listing l) in
      ap (λ k. slice_set (listing l ++ parent_entry n ∷ listing r) k v) e ∙ slice_set-append_right (listing l) (parent_entry n ∷ listing r) (suc (p - 2 * leaf_count l)) v

leaf-replaced : (first : ℕ) (t : Tree) (i : ℕ) (x : Option LeafNode) → i < leaf_count t
    → listing (put_leaf first t (first + i) x) ≡ slice_set (listing t) (2 * i) (leaf_entry x)
leaf-replaced first (leaf y) i x inside =
    let at : 0 ≡ 2 * i = omega arith in
    ap (λ k. slice_set (leaf_entry y ∷ []) k (leaf_entry x)) at
leaf-replaced first (branch l n r) i x inside =
    elim (cases_lt i (leaf_count l)) [
      | inl lt ↦
          ap listing (below (first + i) (first + leaf_count l) (branch (put_leaf first l (first + i) x) n r) (branch l n (put_leaf (first + leaf_count l) r (first + i) x)) (omega arith))
          ∙ ap (λ v. v ++ parent_entry n ∷ listing r) (leaf-replaced first l i x lt)
          ∙ sym (set-left l n r (2 * i) (leaf_entry x) (omega arith))
      | inr ge ↦
          (let j = i - leaf_count l in
          let at : first + i ≡ first + leaf_count l + j = omega arith in
          let back : 2 * j ≡ 2 * i - 2 * leaf_count l = omega arith in
          ap listing (from (first + i) (first + leaf_count l) (branch (put_leaf first l (first + i) x) n r) (branch l n (put_leaf (first + leaf_count l) r (first + i) x)) (omega arith))
          ∙ ap (λ k. listing l ++ parent_entry n ∷ listing (put_leaf (first + leaf_count l) r k x)) at
          ∙ ap (λ v. listing l ++ parent_entry n ∷ v) (leaf-replaced (first + leaf_count l) r j x (omega arith))
          ∙ ap (λ k. listing l ++ parent_entry n ∷ slice_set (listing r) k (leaf_entry x)) back
          ∙ sym (set-right l n r (2 * i) (leaf_entry x) (omega arith)))
    ]

pub listing-put_leaf : (t : Tree) (i : ℕ) (x : Option LeafNode) → i < leaf_count t → listing (put_leaf 0 t i x) ≡ slice_set (listing t) (2 * i) (leaf_entry x)
listing-put_leaf t i x inside = let at : i ≡ 0 + i = omega arith in ap (λ k. listing (put_leaf 0 t k x)) at ∙ leaf-replaced 0 t i x inside

no_parent_at_leaf : (first p : ℕ) (y : Option LeafNode) → IsParent (subtree_at first (leaf y) (2 * first + p)) → ⊥
no_parent_at_leaf first zero y h = subst (λ o. IsParent o) (same (2 * first + 0) (2 * first) _ None (omega arith)) h
no_parent_at_leaf first (suc p) y h = subst (λ o. IsParent o) (other (2 * first + suc p) (2 * first) (Some (record { first = first; tree = leaf y })) None (λ e. omega arith)) h

parent-replaced : (first : ℕ) (t : Tree) (p : ℕ) (x : Option ParentNode) → IsParent (subtree_at first t (2 * first + p))
    → listing (put_parent first t (2 * first + p) x) ≡ slice_set (listing t) p (parent_entry x)
parent-replaced first (leaf y) p x h = absurd (no_parent_at_leaf first p y h)
parent-replaced first (branch l n r) p x h =
    let q = 2 * first + p in
    let m = 2 * (first + leaf_count l) in
    let there = branch l x r in
    let nearer = branch (put_parent first l q x) n r in
    let farther = branch l n (put_parent (first + leaf_count l) r q x) in
    elim (cases_order (p + 1) (2 * leaf_count l)) [
      | inl at ↦ ap listing (here (q + 1) m there nearer farther (omega arith)) ∙ sym (set-parent l n r p x at)
      | inr (inl lt) ↦
          ap listing (before (q + 1) m there nearer farther (omega arith))
          ∙ ap (λ v. v ++ parent_entry n ∷ listing r) (parent-replaced first l p x (subst (λ o. IsParent o) (subtree_at-in_left first l n r q (omega arith)) h))
          ∙ sym (set-left l n r p (parent_entry x) lt)
      | inr (inr gt) ↦
          (let j = p - 2 * leaf_count l in
          let at : q ≡ 2 * (first + leaf_count l) + j = omega arith in
          let deeper = subst (λ o. IsParent o) (subtree_at-in_right first l n r q (omega arith) ∙ ap (λ k. subtree_at (first + leaf_count l) r k) at) h in
          ap listing (after (q + 1) m there nearer farther (omega arith))
          ∙ ap (λ k. listing l ++ parent_entry n ∷ listing (put_parent (first + leaf_count l) r k x)) at
          ∙ ap (λ v. listing l ++ parent_entry n ∷ v) (parent-replaced (first + leaf_count l) r j x deeper)
          ∙ sym (set-right l n r p (parent_entry x) gt))
    ]

pub listing-put_parent : (t : Tree) (p : ℕ) (x : Option ParentNode) → IsParentNodeIndex t p → listing (put_parent 0 t p x) ≡ slice_set (listing t) p (parent_entry x)
listing-put_parent t p x h =
    let at : p ≡ 2 * 0 + p = omega arith in
    ap (λ k. listing (put_parent 0 t k x)) at ∙ parent-replaced 0 t p x (subst (λ k. IsParent (subtree_at 0 t k)) at h)
