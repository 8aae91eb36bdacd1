-- The array cut to its first nodes, and made twice as large.
use Rattle.std.proofs.Common.{◌≡◌, ℕ, zero, suc, ◌+◌, ◌*◌, ◌-◌, ◌<◌, ◌≤◌, List, [], ◌∷◌, ◌++◌, length, take, replicate, Option, Some, None, Result, Ok, Err, OnErr, refl, sym, ap, ◌∙◌, subst, inl, inr, arith, length-append}
use Rattle.std.specs.Prelude.{slice_get, ◌⊎◌}
use Rattle.std.proofs.lemmas.Bool.{cases_lt}
use Rattle.std.proofs.lemmas.Option.{slice_get_past}
use Rattle.std.proofs.lemmas.List.{length-take}
use Rattle.std.proofs.Math.ListN.{length-replicate}
use Rattle.mls_nodes.specs.declared.node.Node.{Node}
use Rattle.mls_tree.specs.Tree.{Tree, leaf, branch, height}
use Rattle.mls_tree.specs.TreeInternal.{leaves_at}
use Rattle.mls_tree.specs.NodeArray.{leaf_part, parent_part, tree_in, IsNoLeaf, IsNoParent, IsArrayOf, height-tree_in}
use Rattle.mls_tree.specs.TreeOperations.{blank_tree, extend}
use Rattle.mls_tree.proofs.Numbers.{leaves_at-positive, leaves_at-le}
use Rattle.mls_tree.proofs.Arrays.{tree_in-same}

module _ {X : Type 0} where
  pub slice_get-take : (xs : List X) (n p : ℕ) → p < n → slice_get (take n xs) p ≡ slice_get xs p
  slice_get-take xs zero p h = absurd (omega arith)
  slice_get-take [] (suc n) p h = refl
  slice_get-take (x ∷ xs) (suc n) zero h = refl
  slice_get-take (x ∷ xs) (suc n) (suc p) h = slice_get-take xs n p (omega arith)

  pub slice_get-append_left : (xs ys : List X) (p : ℕ) → p < length xs → slice_get (xs ++ ys) p ≡ slice_get xs p
  slice_get-append_left [] ys p h = absurd (omega arith)
  slice_get-append_left (x ∷ xs) ys zero h = refl
  slice_get-append_left (x ∷ xs) ys (suc p) h = slice_get-append_left xs ys p (omega arith)

  -- past the end of xs there is v, n times
  pub slice_get-filled : (xs : List X) (n p : ℕ) (v : X) → length xs ≤ p → p < length xs + n → slice_get (xs ++ replicate n v) p ≡ Some v
  slice_get-filled (x ∷ xs) n zero v low high = absurd (omega arith)
  slice_get-filled (x ∷ xs) n (suc p) v low high = slice_get-filled xs n p v (omega arith) (omega arith)
  slice_get-filled [] zero p v low high = absurd (omega arith)
  slice_get-filled [] (suc n) zero v low high = refl
  slice_get-filled [] (suc n) (suc p) v low high = slice_get-filled [] n p v (omega arith) (omega arith)

  -- and nothing else
  pub slice_get-fill : (xs : List X) (n p : ℕ) (v : X) → length xs ≤ p → (slice_get (xs ++ replicate n v) p ≡ None) ⊎ (slice_get (xs ++ replicate n v) p ≡ Some v)
  slice_get-fill xs n p v low =
      elim (cases_lt p (length xs + n)) [
        | inl lt ↦ inr (slice_get-filled xs n p v low lt)
        | inr ge ↦ inl (slice_get_past (xs ++ replicate n v) p (omega (arith, length-append xs (replicate n v), length-replicate n v)))
      ]

  -- past the n first elements there is none
  pub slice_get-take_past : (xs : List X) (n p : ℕ) → n ≤ p → slice_get (take n xs) p ≡ None
  slice_get-take_past xs n p h = slice_get_past (take n xs) p (omega (arith, length-take n xs))

-- cut to its first nodes
module _ (xs : List (Option Node)) (h low : ℕ) (le : low ≤ h) (ok : IsArrayOf xs h) (front : ℕ) (e : front ≡ leaves_at low) where
  pub IsArrayOf-take : IsArrayOf (take (2 * front - 1) xs) low
  IsArrayOf-take =
      record {
        long = omega (arith, length-take (2 * front - 1) xs, ok.long, leaves_at-le low h le, leaves_at-positive low);
        even = λ i. elim (cases_lt (2 * i) (2 * front - 1)) [
          | inl lt ↦ subst (λ o. IsNoParent o) (sym (slice_get-take xs (2 * front - 1) (2 * i) lt)) (ok.even i)
          | inr ge ↦ subst (λ o. IsNoParent o) (sym (slice_get-take_past xs (2 * front - 1) (2 * i) ge)) tt
        ];
        odd = λ i. elim (cases_lt (2 * i + 1) (2 * front - 1)) [
          | inl lt ↦ subst (λ o. IsNoLeaf o) (sym (slice_get-take xs (2 * front - 1) (2 * i + 1) lt)) (ok.odd i)
          | inr ge ↦ subst (λ o. IsNoLeaf o) (sym (slice_get-take_past xs (2 * front - 1) (2 * i + 1) ge)) tt
        ];
      }

  pub tree_in-take : tree_in (take (2 * front - 1) xs) low 0 ≡ tree_in xs low 0
  tree_in-take = tree_in-same (take (2 * front - 1) xs) xs low 0 (λ p a b. slice_get-take xs (2 * front - 1) p (omega arith))

-- made larger
pub tree_in-blank : (xs : List (Option Node)) (h first : ℕ)
    → ((p : ℕ) → 2 * first ≤ p → (slice_get xs p ≡ None) ⊎ (slice_get xs p ≡ Some None)) → tree_in xs h first ≡ blank_tree h
tree_in-blank xs zero first b = elim (b (2 * first) (omega arith)) [ inl e ↦ ap (λ o. leaf (leaf_part o)) e | inr e ↦ ap (λ o. leaf (leaf_part o)) e ]
tree_in-blank xs (suc h) first b =
    let pos = leaves_at-positive h in
    let l = tree_in-blank xs h first b in
    let r = tree_in-blank xs h (first + leaves_at h) (λ p a. b p (omega arith)) in
    let m : parent_part (slice_get xs (2 * (first + leaves_at h) - 1)) ≡ None = elim (b (2 * (first + leaves_at h) - 1) (omega arith)) [ inl e ↦ ap parent_part e | inr e ↦ ap parent_part e ] in
    λ i. branch (l i) (m i) (r i)

-- blank from the start
module _ (xs : List (Option Node)) (n h : ℕ) (long : n + 1 ≡ 2 * leaves_at h) (all : xs ≡ replicate n None) where
  entry-blank : (p : ℕ) → (slice_get xs p ≡ None) ⊎ (slice_get xs p ≡ Some None)
  entry-blank p = subst (λ v. (slice_get v p ≡ None) ⊎ (slice_get v p ≡ Some None)) (sym all) (slice_get-fill [] n p None (omega arith))

  pub IsArrayOf-blank : IsArrayOf xs h
  IsArrayOf-blank = record {
    long = omega (arith, ap length all, length-replicate n (let blank : Option Node = None in blank));
    even = λ i. elim (entry-blank (2 * i)) [ inl q ↦ subst (λ o. IsNoParent o) (sym q) tt | inr q ↦ subst (λ o. IsNoParent o) (sym q) tt ];
    odd = λ i. elim (entry-blank (2 * i + 1)) [ inl q ↦ subst (λ o. IsNoLeaf o) (sym q) tt | inr q ↦ subst (λ o. IsNoLeaf o) (sym q) tt ];
  }

  pub tree_in-all_blank : tree_in xs h 0 ≡ blank_tree h
  tree_in-all_blank = tree_in-blank xs h 0 (λ p a. entry-blank p)

module _ (xs : List (Option Node)) (h : ℕ) (ok : IsArrayOf xs h) (more : ℕ) (e : more ≡ 2 * leaves_at h) where
  pub IsArrayOf-fill : IsArrayOf (xs ++ replicate more None) (h + 1)
  IsArrayOf-fill =
      let up : leaves_at (h + 1) ≡ leaves_at h + leaves_at h = ap leaves_at (let q : h + 1 ≡ suc h = omega arith in q) in
      record {
        long = omega (arith, length-append xs (replicate more None), length-replicate more (let blank : Option Node = None in blank), ok.long);
        even = λ i. elim (cases_lt (2 * i) (length xs)) [
          | inl lt ↦ subst (λ o. IsNoParent o) (sym (slice_get-append_left xs (replicate more None) (2 * i) lt)) (ok.even i)
          | inr ge ↦ elim (slice_get-fill xs more (2 * i) None ge) [ inl q ↦ subst (λ o. IsNoParent o) (sym q) tt | inr q ↦ subst (λ o. IsNoParent o) (sym q) tt ]
        ];
        odd = λ i. elim (cases_lt (2 * i + 1) (length xs)) [
          | inl lt ↦ subst (λ o. IsNoLeaf o) (sym (slice_get-append_left xs (replicate more None) (2 * i + 1) lt)) (ok.odd i)
          | inr ge ↦ elim (slice_get-fill xs more (2 * i + 1) None ge) [ inl q ↦ subst (λ o. IsNoLeaf o) (sym q) tt | inr q ↦ subst (λ o. IsNoLeaf o) (sym q) tt ]
        ];
      }

  pub tree_in-fill : (t : Tree) → tree_in xs h 0 ≡ t → tree_in (xs ++ replicate more None) (h + 1) 0 ≡ extend t
  tree_in-fill t view =
      let ys = xs ++ replicate more None in
      let l : tree_in ys h 0 ≡ t = tree_in-same ys xs h 0 (λ p a b. slice_get-append_left xs (replicate more None) p (omega (arith, ok.long))) ∙ view in
      let r : tree_in ys h (0 + leaves_at h) ≡ blank_tree h = tree_in-blank ys h (0 + leaves_at h) (λ p a. slice_get-fill xs more p None (omega (arith, ok.long))) in
      let m : parent_part (slice_get ys (2 * (0 + leaves_at h) - 1)) ≡ None
      = elim (slice_get-fill xs more (2 * (0 + leaves_at h) - 1) None (omega (arith, ok.long))) [ inl q ↦ ap parent_part q | inr q ↦ ap parent_part q ] in
      let k : blank_tree h ≡ blank_tree (height t) = ap blank_tree (sym (ap height (sym view) ∙ height-tree_in xs h 0)) in
      ap (λ n. tree_in ys n 0) (let q : h + 1 ≡ suc h = omega arith in q) ∙ (λ i. branch (l i) (m i) ((r ∙ k) i))

pub OnErr-from : {T E : Type 0} → (r : Result T E) (P : Type 0) → P → OnErr r P
OnErr-from (Ok x) P p = tt
OnErr-from (Err e) P p = p
