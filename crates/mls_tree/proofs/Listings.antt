-- The entries at the node indices of a listing.
use Rattle.std.proofs.Common.{◌≡◌, ℕ, zero, suc, ◌+◌, ◌*◌, ◌-◌, ◌/◌, List, [], ◌∷◌, ◌++◌, length, map, Option, Some, None, refl, sym, ap, ◌∙◌, subst, inl, inr, arith, option_map}
use Rattle.std.specs.Prelude.{slice_get}
use Rattle.std.proofs.lemmas.Bool.{cases_lt, cases_order}
use Rattle.std.proofs.lemmas.List.{length-map}
use Rattle.std.proofs.lemmas.Option.{slice_get-map}
use Rattle.mls_nodes.specs.declared.leaf.LeafNode.{LeafNode}
use Rattle.mls_nodes.specs.declared.parent.ParentNode.{ParentNode}
use Rattle.mls_nodes.specs.declared.node.Node.{Node}
use Rattle.mls_nodes.specs.declared.node.Node.TheVariants.{Leaf, Parent}
use Rattle.mls_nodes.specs.NodeModel.{NodeValue, leaf_node, parent_node}
use Rattle.mls_nodes.specs.NodeValues.{entry_value}
use Rattle.mls_tree.specs.Tree.{Tree, leaf, branch, leaf_count, listing, leaf_entry, parent_entry}
use Rattle.mls_tree.specs.TreeInternal.{leaves_at}
use Rattle.mls_tree.specs.NodeArray.{IsNoLeaf, IsNoParent, FitsNodeIndex, IsArrayOf, leaf_part, parent_part, tree_in}
use Rattle.mls_tree.proofs.Arrays.{listing-array}
use Rattle.mls_tree.proofs.Trees.{length-listing}
use Rattle.mls_tree.proofs.Growing.{slice_get-append_left}

pub slice_get-append_right : {X : Type 0} (xs ys : List X) (p : ℕ) → slice_get (xs ++ ys) (length xs + p) ≡ slice_get ys p
slice_get-append_right [] ys p = ap (λ k. slice_get ys k) (omega arith)
slice_get-append_right (x ∷ xs) ys p = ap (λ k. slice_get (x ∷ xs ++ ys) k) (let e : length (x ∷ xs) + p ≡ suc (length xs + p) = omega arith in e) ∙ slice_get-append_right xs ys p

abbrev IsLeafNodeIndex : Option (Option NodeValue) → Type 0
IsLeafNodeIndex None = Unit {0}
IsLeafNodeIndex (Some None) = Unit {0}
IsLeafNodeIndex (Some (Some (leaf_node x))) = Unit {0}
IsLeafNodeIndex (Some (Some (parent_node x))) = ⊥

abbrev IsParentEntry : Option (Option NodeValue) → Type 0
IsParentEntry None = Unit {0}
IsParentEntry (Some None) = Unit {0}
IsParentEntry (Some (Some (leaf_node x))) = ⊥
IsParentEntry (Some (Some (parent_node x))) = Unit {0}

leaf-kind : (x : Option LeafNode) → IsLeafNodeIndex (Some (leaf_entry x))
leaf-kind None = tt
leaf-kind (Some x) = tt

parent-kind : (x : Option ParentNode) → IsParentEntry (Some (parent_entry x))
parent-kind None = tt
parent-kind (Some x) = tt

listing-even : (t : Tree) (i : ℕ) → IsLeafNodeIndex (slice_get (listing t) (2 * i))
listing-even (leaf x) i =
    elim (cases_lt i 1) [
      | inl lt ↦ subst (λ k. IsLeafNodeIndex (slice_get (listing (leaf x)) k)) (let e : 0 ≡ 2 * i = omega arith in e) (leaf-kind x)
      | inr ge ↦ subst (λ k. IsLeafNodeIndex (slice_get (listing (leaf x)) k)) (let e : suc (2 * i - 1) ≡ 2 * i = omega arith in e) tt
    ]
listing-even (branch l n r) i =
    let count = length-listing l in
    elim (cases_lt (2 * i) (length (listing l))) [
      | inl lt ↦ subst (λ o. IsLeafNodeIndex o) (sym (slice_get-append_left (listing l) (parent_entry n ∷ listing r) (2 * i) lt)) (listing-even l i)
      | inr ge ↦
          (let j = i - leaf_count l in
          let e : length (listing l) + suc (2 * j) ≡ 2 * i = omega arith in
          subst (λ k. IsLeafNodeIndex (slice_get (listing l ++ parent_entry n ∷ listing r) k)) e
          (subst (λ o. IsLeafNodeIndex o) (sym (slice_get-append_right (listing l) (parent_entry n ∷ listing r) (suc (2 * j)))) (listing-even r j)))
    ]

listing-odd : (t : Tree) (i : ℕ) → IsParentEntry (slice_get (listing t) (2 * i + 1))
listing-odd (leaf x) i = subst (λ k. IsParentEntry (slice_get (listing (leaf x)) k)) (let e : suc (2 * i) ≡ 2 * i + 1 = omega arith in e) tt
listing-odd (branch l n r) i =
    let count = length-listing l in
    elim (cases_order (2 * i + 1) (length (listing l))) [
      | inl e ↦
          subst (λ k. IsParentEntry (slice_get (listing l ++ parent_entry n ∷ listing r) k)) (let q : length (listing l) + 0 ≡ 2 * i + 1 = omega arith in q)
          (subst (λ o. IsParentEntry o) (sym (slice_get-append_right (listing l) (parent_entry n ∷ listing r) 0)) (parent-kind n))
      | inr (inl lt) ↦ subst (λ o. IsParentEntry o) (sym (slice_get-append_left (listing l) (parent_entry n ∷ listing r) (2 * i + 1) lt)) (listing-odd l i)
      | inr (inr gt) ↦
          (let j = i - leaf_count l in
          let e : length (listing l) + suc (2 * j + 1) ≡ 2 * i + 1 = omega arith in
          subst (λ k. IsParentEntry (slice_get (listing l ++ parent_entry n ∷ listing r) k)) e
          (subst (λ o. IsParentEntry o) (sym (slice_get-append_right (listing l) (parent_entry n ∷ listing r) (suc (2 * j + 1)))) (listing-odd r j)))
    ]

no_parent : (o : Option (Option Node)) → IsLeafNodeIndex (option_map entry_value o) → IsNoParent o
no_parent None h = tt
no_parent (Some None) h = tt
no_parent (Some (Some (Leaf b))) h = tt
no_parent (Some (Some (Parent b))) h = h

no_leaf : (o : Option (Option Node)) → IsParentEntry (option_map entry_value o) → IsNoLeaf o
no_leaf None h = tt
no_leaf (Some None) h = tt
no_leaf (Some (Some (Leaf b))) h = h
no_leaf (Some (Some (Parent b))) h = tt

-- an array whose model is the listing of a tree has its nodes at the right node indices
pub listing-fits : (t : Tree) (xs : List (Option Node)) → listing t ≡ map entry_value xs → (p : ℕ) → FitsNodeIndex p (slice_get xs p)
listing-fits t xs e p = record {
  even = λ z.
      no_parent (slice_get xs p)
      (subst (λ o. IsLeafNodeIndex o) (ap (λ v. slice_get v (2 * (p / 2))) e ∙ slice_get-map entry_value xs (2 * (p / 2)) ∙ ap (λ k. option_map entry_value (slice_get xs k)) (let q : 2 * (p / 2) ≡ p = omega arith in q)) (listing-even t (p / 2)));
  odd = λ z.
      no_leaf (slice_get xs p)
      (subst (λ o. IsParentEntry o) (ap (λ v. slice_get v (2 * (p / 2) + 1)) e ∙ slice_get-map entry_value xs (2 * (p / 2) + 1) ∙ ap (λ k. option_map entry_value (slice_get xs k)) (let q : 2 * (p / 2) + 1 ≡ p = omega arith in q)) (listing-odd t (p / 2)));
}

pub IsArrayOf-fits : (xs ys : List (Option Node)) (h : ℕ) → ys ≡ xs → length xs + 1 ≡ 2 * leaves_at h → ((p : ℕ) → FitsNodeIndex p (slice_get ys p)) → IsArrayOf xs h
IsArrayOf-fits xs ys h read n f = record {
  long = n;
  even = λ i. subst (λ v. IsNoParent (slice_get v (2 * i))) read ((f (2 * i)).even (omega arith));
  odd = λ i. subst (λ v. IsNoLeaf (slice_get v (2 * i + 1))) read ((f (2 * i + 1)).odd (λ e. omega arith));
}

-- two arrays of the same model contain the same tree
leaf_value : Option (Option NodeValue) → Option LeafNode
leaf_value None = None
leaf_value (Some None) = None
leaf_value (Some (Some (leaf_node x))) = Some x
leaf_value (Some (Some (parent_node x))) = None

parent_value : Option (Option NodeValue) → Option ParentNode
parent_value None = None
parent_value (Some None) = None
parent_value (Some (Some (leaf_node x))) = None
parent_value (Some (Some (parent_node x))) = Some x

leaf_part-seen : (o : Option (Option Node)) → leaf_part o ≡ leaf_value (option_map entry_value o)
unfolding leaf_value
leaf_part-seen None = refl
leaf_part-seen (Some None) = refl
leaf_part-seen (Some (Some (Leaf b))) = refl
leaf_part-seen (Some (Some (Parent b))) = refl

parent_part-seen : (o : Option (Option Node)) → parent_part o ≡ parent_value (option_map entry_value o)
unfolding parent_value
parent_part-seen None = refl
parent_part-seen (Some None) = refl
parent_part-seen (Some (Some (Leaf b))) = refl
parent_part-seen (Some (Some (Parent b))) = refl

module _ (xs ys : List (Option Node)) (e : map entry_value xs ≡ map entry_value ys) where
  seen-same : (p : ℕ) → option_map entry_value (slice_get xs p) ≡ option_map entry_value (slice_get ys p)
  seen-same p = sym (slice_get-map entry_value xs p) ∙ ap (λ v. slice_get v p) e ∙ slice_get-map entry_value ys p

  pub tree_in-seen : (h first : ℕ) → tree_in xs h first ≡ tree_in ys h first
  tree_in-seen zero first = ap leaf (leaf_part-seen _ ∙ ap leaf_value (seen-same (2 * first)) ∙ sym (leaf_part-seen _))
  tree_in-seen (suc h) first =
      let l = tree_in-seen h first in
      let r = tree_in-seen h (first + leaves_at h) in
      let p = 2 * (first + leaves_at h) - 1 in
      let m = parent_part-seen (slice_get xs p) ∙ ap parent_value (seen-same p) ∙ sym (parent_part-seen (slice_get ys p)) in
      λ i. branch (l i) (m i) (r i)

  pub IsArrayOf-seen : (h : ℕ) → IsArrayOf ys h → IsArrayOf xs h
  IsArrayOf-seen h ok =
      let f = listing-fits (tree_in ys h 0) xs (sym (e ∙ listing-array ys h ok)) in
      let n = ap length e in
      IsArrayOf-fits xs xs h refl (omega (arith, ok.long, length-map xs entry_value, length-map ys entry_value)) f
