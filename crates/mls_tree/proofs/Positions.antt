-- A node index is a position in the listing.
use Rattle.std.proofs.Common.{◌≡◌, ℕ, zero, suc, ◌+◌, ◌*◌, ◌-◌, ◌%◌, ◌<◌, [], ◌∷◌, ◌++◌, length, Option, Some, None, IsSome, refl, sym, ap, ◌∙◌, subst, inl, inr, arith, option_map, unwrap_or}
use Rattle.std.specs.Prelude.{slice_get, ◌↔◌, ◌⊎◌}
use Rattle.std.proofs.lemmas.Bool.{cases_lt, cases_order}
use Rattle.mls_nodes.specs.declared.parent.ParentNode.{ParentNode}
use Rattle.mls_nodes.specs.NodeModel.{NodeValue}
use Rattle.mls_tree.specs.Tree.{Tree, leaf, branch, leaf_count, listing, leaf_entry, parent_entry, Subtree, subtree_at, root_node_index, root_entry, entry_of, node_at, leaf_at, IsBranch, IsParent, IsParentNodeIndex}
use Rattle.mls_tree.proofs.Choices.{below, from, same, other}
use Rattle.mls_tree.proofs.Trees.{length-listing, leaf_count-positive, subtree_at-in_left, subtree_at-in_right, subtree_at-here, subtree_at-stands, subtree_at-some, subtree_at-none}
use Rattle.mls_tree.proofs.Growing.{slice_get-append_left}
use Rattle.mls_tree.proofs.Listings.{slice_get-append_right}

-- the node at the root of a subtree, if there is one
abbrev standing : Option Subtree → Option (Option NodeValue)
standing o = option_map (λ s. root_entry s.tree) o

-- the entries of a parent's listing
module _ (l : Tree) (n : Option ParentNode) (r : Tree) (p : ℕ) where
  entry-left : p + 1 < 2 * leaf_count l → slice_get (listing (branch l n r)) p ≡ slice_get (listing l) p
  entry-left lt = slice_get-append_left (listing l) (parent_entry n ∷ listing r) p (omega (arith, length-listing l))

  entry-parent : p + 1 ≡ 2 * leaf_count l → slice_get (listing (branch l n r)) p ≡ Some (parent_entry n)
  entry-parent at =
      let e : p ≡ length (listing l) + 0 = omega (arith, length-listing l) in
      ap (λ k. slice_get (listing l ++ parent_entry n ∷ listing r) k) e ∙ slice_get-append_right (listing l) (parent_entry n ∷ listing r) 0

  entry-right : 2 * leaf_count l < p + 1 → slice_get (listing (branch l n r)) p ≡ slice_get (listing r) (p - 2 * leaf_count l)
  entry-right gt =
      let e : p ≡ length (listing l) + suc (p - 2 * leaf_count l) = omega (arith, length-listing l) in
      ap (λ k. slice_get (listing l ++ parent_entry n ∷ listing r) k) e ∙ slice_get-append_right (listing l) (parent_entry n ∷ listing r) (suc (p - 2 * leaf_count l))

-- the entry of the listing at a node index is the node at the root of the subtree there
pub listing-subtree_at : (first : ℕ) (t : Tree) (p : ℕ) → slice_get (listing t) p ≡ standing (subtree_at first t (2 * first + p))
listing-subtree_at first (leaf x) zero = sym (ap standing (same (2 * first + 0) (2 * first) _ None (omega arith)))
listing-subtree_at first (leaf x) (suc p) = sym (ap standing (other (2 * first + suc p) (2 * first) (Some (record { first = first; tree = leaf x })) None (λ e. omega arith)))
listing-subtree_at first (branch l n r) p =
    elim (cases_order (p + 1) (2 * leaf_count l)) [
      | inl at ↦ entry-parent l n r p at ∙ sym (ap standing (subtree_at-here first l n r (2 * first + p) (omega arith)))
      | inr (inl lt) ↦ entry-left l n r p lt ∙ listing-subtree_at first l p ∙ sym (ap standing (subtree_at-in_left first l n r (2 * first + p) (omega arith)))
      | inr (inr gt) ↦
          (let q : 2 * (first + leaf_count l) + (p - 2 * leaf_count l) ≡ 2 * first + p = omega arith in
          entry-right l n r p gt ∙ listing-subtree_at (first + leaf_count l) r (p - 2 * leaf_count l)
          ∙ ap (λ k. standing (subtree_at (first + leaf_count l) r k)) q
          ∙ sym (ap standing (subtree_at-in_right first l n r (2 * first + p) (omega arith))))
    ]

entry_of-standing : (o : Option Subtree) → entry_of o ≡ unwrap_or (standing o) None
entry_of-standing None = refl
entry_of-standing (Some s) = refl

pub node_at-listing : (t : Tree) (p : ℕ) → node_at t p ≡ unwrap_or (slice_get (listing t) p) None
node_at-listing t p =
    let at : 2 * 0 + p ≡ p = omega arith in
    entry_of-standing (subtree_at 0 t p) ∙ sym (ap (λ o. unwrap_or o None) (listing-subtree_at 0 t p ∙ ap (λ k. standing (subtree_at 0 t k)) at))

-- a tree has the node indices of its listing
pub node_index-inside : (t : Tree) (p : ℕ) → IsSome (subtree_at 0 t p) ↔ (p < length (listing t))
node_index-inside t p =
    elim (cases_lt p (length (listing t))) [
      | inl lt ↦
          (let s = subtree_at-some 0 t p (omega arith) (omega (arith, length-listing t)) in
          (λ some. lt, λ inside. subst (λ o. IsSome o) (sym s.1) refl))
      | inr ge ↦
          (let none = subtree_at-none 0 t p (omega (arith, length-listing t)) in
          (λ some. absurd (cc (subst (λ o. IsSome o) none some)), λ inside. absurd (omega arith)))
    ]

-- a leaf is at twice its index
leaf-standing : (first : ℕ) (t : Tree) (i : ℕ) → leaf_entry (leaf_at first t (first + i)) ≡ unwrap_or (slice_get (listing t) (2 * i)) None
leaf-standing first (leaf x) zero = ap leaf_entry (same (first + 0) first x None (omega arith))
leaf-standing first (leaf x) (suc i) =
    let up : suc (2 * i + 1) ≡ 2 * suc i = omega arith in
    ap leaf_entry (other (first + suc i) first x None (λ e. omega arith)) ∙ ap (λ k. unwrap_or (slice_get (leaf_entry x ∷ []) k) None) up
leaf-standing first (branch l n r) i =
    elim (cases_lt i (leaf_count l)) [
      | inl lt ↦
          ap leaf_entry (below (first + i) (first + leaf_count l) (leaf_at first l (first + i)) (leaf_at (first + leaf_count l) r (first + i)) (omega arith))
          ∙ leaf-standing first l i
          ∙ ap (λ o. unwrap_or o None) (sym (entry-left l n r (2 * i) (omega arith)))
      | inr ge ↦
          (let j = i - leaf_count l in
          let at : first + i ≡ first + leaf_count l + j = omega arith in
          let back : 2 * j ≡ 2 * i - 2 * leaf_count l = omega arith in
          ap leaf_entry (from (first + i) (first + leaf_count l) (leaf_at first l (first + i)) (leaf_at (first + leaf_count l) r (first + i)) (omega arith))
          ∙ ap (λ k. leaf_entry (leaf_at (first + leaf_count l) r k)) at
          ∙ leaf-standing (first + leaf_count l) r j
          ∙ ap (λ k. unwrap_or (slice_get (listing r) k) None) back
          ∙ ap (λ o. unwrap_or o None) (sym (entry-right l n r (2 * i) (omega arith))))
    ]

pub leaf_at-listing : (t : Tree) (i : ℕ) → leaf_entry (leaf_at 0 t i) ≡ unwrap_or (slice_get (listing t) (2 * i)) None
leaf_at-listing t i = let at : i ≡ 0 + i = omega arith in ap (λ k. leaf_entry (leaf_at 0 t k)) at ∙ leaf-standing 0 t i

-- parents are at odd node indices
odd_node_index : (first : ℕ) (t : Tree) → IsBranch t → root_node_index first t % 2 ≡ 1
odd_node_index first (leaf x) h = absurd h
odd_node_index first (branch l n r) h = omega (arith, leaf_count-positive l)

even_node_index : (first : ℕ) (t : Tree) → (IsBranch t → ⊥) → root_node_index first t % 2 ≡ 0
even_node_index first (leaf x) h = omega arith
even_node_index first (branch l n r) h = absurd (h tt)

is_branch : (t : Tree) → IsBranch t ⊎ (IsBranch t → ⊥)
is_branch (leaf x) = inr (λ h. h)
is_branch (branch l n r) = inl tt

pub parent_node_index-listing : (t : Tree) (p : ℕ) → IsParentNodeIndex t p ↔ ((p < length (listing t)) × (p % 2 ≡ 1))
parent_node_index-listing t p =
    elim (cases_lt p (length (listing t))) [
      | inl lt ↦
          (let s = subtree_at-some 0 t p (omega arith) (omega (arith, length-listing t)) in
          let at = (subtree_at-stands 0 t p s.0 s.1).node_index in (
            λ parent. (lt, ap (λ k. k % 2) at ∙ odd_node_index s.0.first s.0.tree (subst (λ o. IsParent o) s.1 parent)),
            λ odd. elim (is_branch s.0.tree) [
              | inl h ↦ subst (λ o. IsParent o) (sym s.1) h
              | inr h ↦ (let even = ap (λ k. k % 2) at ∙ even_node_index s.0.first s.0.tree h in let o = odd.1 in absurd (omega arith))
            ],
          ))
      | inr ge ↦
          (let none = subtree_at-none 0 t p (omega (arith, length-listing t)) in
          (λ parent. absurd (subst (λ o. IsParent o) none parent), λ odd. let inside = odd.0 in absurd (omega arith)))
    ]
