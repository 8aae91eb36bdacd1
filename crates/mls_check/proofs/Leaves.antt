-- Going over the leaves of a tree, one after the other.
use Rattle.std.proofs.Common.{◌≡◌, ℕ, ◌+◌, ◌<◌, ◌≤◌, Bool, true, false, Option, Some, None, eqb, ltb, refl, sym, ◌∙◌, arith, inl, inr}
use Rattle.std.proofs.lemmas.Bool.{cases_eq, cases_lt, and_parts}
use Rattle.std.proofs.lemmas.Bool.Decides.{nat_tests}
use Rattle.mls_nodes.specs.declared.leaf.LeafNode.{LeafNode}
use Rattle.mls_nodes.specs.declared.parent.ParentNode.{ParentNode}
use Rattle.mls_tree.specs.Tree.{Tree, leaf, branch, leaf_count, leaf_at}
use Rattle.mls_check.specs.LeafValidation.{all_leaves, FailsFirst}

pub leaf_at-here : (first : ℕ) (y : Option LeafNode) → leaf_at first (leaf y) first ≡ y
leaf_at-here first y = let t : eqb first first ≡ true = grind (arith, nat_tests) in rw t refl

pub leaf_at-left : (first : ℕ) (l : Tree) (n : Option ParentNode) (r : Tree) (i : ℕ) → i < first + leaf_count l → leaf_at first (branch l n r) i ≡ leaf_at first l i
leaf_at-left first l n r i low = let t : ltb i (first + leaf_count l) ≡ true = grind (arith, nat_tests) in rw t refl

pub leaf_at-right : (first : ℕ) (l : Tree) (n : Option ParentNode) (r : Tree) (i : ℕ) → first + leaf_count l ≤ i → leaf_at first (branch l n r) i ≡ leaf_at (first + leaf_count l) r i
leaf_at-right first l n r i from = let t : ltb i (first + leaf_count l) ≡ false = grind (arith, nat_tests) in rw t refl

-- which leaf stands in a tree of one leaf
pub leaf_at-leaf : (first : ℕ) (y : Option LeafNode) (i : ℕ) (x : LeafNode) → leaf_at first (leaf y) i ≡ Some x → (i ≡ first) × (y ≡ Some x)
leaf_at-leaf first y i x e =
    elim (cases_eq i first) [
      | inl same ↦ (same, sym (leaf_at-here first y) ∙ rw same at e)
      | inr other ↦
          let t : eqb i first ≡ false = grind (arith, nat_tests) in
          let f : ◌≡◌ {A = Option LeafNode} None (Some x) = rw t at e in absurd cc
    ]

-- a test holds of each set leaf below number i
pub record HoldsBelow (test : ℕ → LeafNode → Bool) (t : Tree) (i : ℕ) : Type 0 where
  pub at : (j : ℕ) (x : LeafNode) → j < i → leaf_at 0 t j ≡ Some x → test j x ≡ true

module _ (test : ℕ → LeafNode → Bool) where
  pub HoldsBelow-none : (t : Tree) → HoldsBelow test t 0
  HoldsBelow-none t = record { at = λ j x low e. absurd (omega arith) }

  -- leaf i passes the test, if it is set
  pub HoldsBelow-more : (t : Tree) (i : ℕ) → HoldsBelow test t i → ((x : LeafNode) → leaf_at 0 t i ≡ Some x → test i x ≡ true) → HoldsBelow test t (i + 1)
  HoldsBelow-more t i below here = record {
    at = λ j x low e.
        elim (cases_lt j i) [
          | inl before ↦ below.at j x before e
          | inr after ↦ let same : j ≡ i = omega arith in rw same (here x (rw same at e))
        ];
  }

  pub HoldsBelow-blank : (t : Tree) (i : ℕ) → HoldsBelow test t i → leaf_at 0 t i ≡ None → HoldsBelow test t (i + 1)
  HoldsBelow-blank t i below blank = HoldsBelow-more t i below (λ x e. let f : ◌≡◌ {A = Option LeafNode} None (Some x) = sym blank ∙ e in absurd cc)

  pub HoldsBelow-set : (t : Tree) (i : ℕ) (x : LeafNode) → HoldsBelow test t i → leaf_at 0 t i ≡ Some x → test i x ≡ true → HoldsBelow test t (i + 1)
  HoldsBelow-set t i x below set passes = HoldsBelow-more t i below (λ y e. let f : ◌≡◌ {A = Option LeafNode} (Some x) (Some y) = sym set ∙ e in let g : x ≡ y = cc in rw g at passes)

  -- each of a tree's own leaves passes the test
  pub all_leaves-from : (first : ℕ) (t : Tree) → ((i : ℕ) (x : LeafNode) → first ≤ i → i < first + leaf_count t → leaf_at first t i ≡ Some x → test i x ≡ true) → all_leaves test first t ≡ true
  all_leaves-from first (leaf None) h = refl
  all_leaves-from first (leaf (Some x)) h = h first x (omega arith) (omega arith) (leaf_at-here first (Some x))
  all_leaves-from first (branch l n r) h =
      let left = all_leaves-from first l (λ i x from low e. h i x from (omega arith) (leaf_at-left first l n r i low ∙ e)) in
      let right = all_leaves-from (first + leaf_count l) r (λ i x from low e. h i x (omega arith) (omega arith) (leaf_at-right first l n r i from ∙ e)) in
      rw (left, right) refl

  pub all_leaves-below : (t : Tree) (i : ℕ) → HoldsBelow test t i → leaf_count t ≤ i → all_leaves test 0 t ≡ true
  all_leaves-below t i below end = all_leaves-from 0 t (λ j x from low e. below.at j x (omega arith) e)

  all_leaves-one : (first : ℕ) (y : Option LeafNode) → all_leaves test first (leaf y) ≡ true → (i : ℕ) (x : LeafNode) → i ≡ first → y ≡ Some x → test i x ≡ true
  all_leaves-one first None h i x same e = absurd cc
  all_leaves-one first (Some z) h i x same e = let f : z ≡ x = cc in rw (same, ← f) h

  all_leaves-leaf : (first : ℕ) (y : Option LeafNode) → all_leaves test first (leaf y) ≡ true → (i : ℕ) (x : LeafNode) → leaf_at first (leaf y) i ≡ Some x → test i x ≡ true
  all_leaves-leaf first y h i x e =
      elim (cases_eq i first) [
        | inl same ↦ all_leaves-one first y h i x same (sym (leaf_at-here first y) ∙ rw same at e)
        | inr other ↦
            let t : eqb i first ≡ false = grind (arith, nat_tests) in
            let f : ◌≡◌ {A = Option LeafNode} None (Some x) = rw t at e in absurd cc
      ]

  -- what holds of all leaves holds of each
  pub all_leaves-at : (first : ℕ) (t : Tree) → all_leaves test first t ≡ true → (i : ℕ) (x : LeafNode) → leaf_at first t i ≡ Some x → test i x ≡ true
  all_leaves-at first (leaf y) h i x e = all_leaves-leaf first y h i x e
  all_leaves-at first (branch l n r) h i x e =
      let children = and_parts (all_leaves test first l) (all_leaves test (first + leaf_count l) r) h in
      elim (cases_lt i (first + leaf_count l)) [
        | inl low ↦ all_leaves-at first l children.0 i x (sym (leaf_at-left first l n r i low) ∙ e)
        | inr from ↦ all_leaves-at (first + leaf_count l) r children.1 i x (sym (leaf_at-right first l n r i from) ∙ e)
      ]

  pub FailsFirst-here : (t : Tree) (i : ℕ) (x : LeafNode) → HoldsBelow test t i → leaf_at 0 t i ≡ Some x → test i x ≡ false → FailsFirst test t i
  FailsFirst-here t i x below set fails = record { node = x; set = set; fails = fails; smaller = below.at }

-- a set leaf's number is below the number of leaves
pub leaf_at-low : (first : ℕ) (t : Tree) (i : ℕ) (x : LeafNode) → leaf_at first t i ≡ Some x → i < first + leaf_count t
leaf_at-low first (leaf y) i x e =
    elim (cases_eq i first) [
      | inl same ↦ omega arith
      | inr other ↦ let t : eqb i first ≡ false = grind (arith, nat_tests) in let f : ◌≡◌ {A = Option LeafNode} None (Some x) = rw t at e in absurd cc
    ]
leaf_at-low first (branch l n r) i x e =
    elim (cases_lt i (first + leaf_count l)) [
      | inl low ↦ omega arith
      | inr from ↦ let below = leaf_at-low (first + leaf_count l) r i x (sym (leaf_at-right first l n r i from) ∙ e) in omega arith
    ]
