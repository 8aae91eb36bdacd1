-- The leftmost blank leaf, and the leftmost one from a leaf on.
use Rattle.std.proofs.Common.{◌≡◌, ℕ, ◌+◌, ◌<◌, ◌≤◌, Option, Some, None, IsSome, refl, sym, ap, ◌∙◌, subst, inl, inr, arith}
use Rattle.std.specs.Prelude.{MatchOption}
use Rattle.std.proofs.lemmas.Bool.{cases_lt, cases_order}
use Rattle.mls_nodes.specs.declared.leaf.LeafNode.{LeafNode}
use Rattle.mls_nodes.specs.declared.parent.ParentNode.{ParentNode}
use Rattle.mls_tree.specs.Tree.{Tree, leaf, branch, leaf_count, leaf_at}
use Rattle.mls_tree.specs.BlankLeaves.{first_of, first_blank_leaf, next_blank_leaf, IsFirstBlank, AllLeavesNonBlank, AreNonBlankBelow}
use Rattle.mls_tree.proofs.Choices.{below, from, same}

-- the leaves from `first` and from `start` on and below `last` are non-blank
abbrev AreSet : ℕ → ℕ → Tree → ℕ → Type 0
AreSet start first t last = (i : ℕ) → start ≤ i → first ≤ i → i < last → IsSome (leaf_at first t i)

-- what the search finds
record Finds (start first : ℕ) (t : Tree) (j : ℕ) : Type 0 where
  pub from_start : start ≤ j
  pub from_first : first ≤ j
  pub inside : j < first + leaf_count t
  pub blank : leaf_at first t j ≡ None
  pub earlier : AreSet start first t j

abbrev Answer : ℕ → ℕ → Tree → Option ℕ → Type 0
Answer start first t None = AreSet start first t (first + leaf_count t)
Answer start first t (Some j) = Finds start first t j

module _ (start first : ℕ) (l : Tree) (n : Option ParentNode) (r : Tree) where
  in_left : (i : ℕ) → i < first + leaf_count l → leaf_at first (branch l n r) i ≡ leaf_at first l i
  in_left i h = below i (first + leaf_count l) (leaf_at first l i) (leaf_at (first + leaf_count l) r i) h

  in_right : (i : ℕ) → first + leaf_count l ≤ i → leaf_at first (branch l n r) i ≡ leaf_at (first + leaf_count l) r i
  in_right i h = from i (first + leaf_count l) (leaf_at first l i) (leaf_at (first + leaf_count l) r i) h

  set_left : (last : ℕ) → last ≤ first + leaf_count l → AreSet start first l last → AreSet start first (branch l n r) last
  set_left last h s i late a b = subst (λ o. IsSome o) (sym (in_left i (omega arith))) (s i late a b)

  set_both : (last : ℕ) → AreSet start first l (first + leaf_count l) → AreSet start (first + leaf_count l) r last → AreSet start first (branch l n r) last
  set_both last s t i late a b =
      elim (cases_lt i (first + leaf_count l)) [
        | inl lt ↦ subst (λ o. IsSome o) (sym (in_left i lt)) (s i late a lt)
        | inr ge ↦ subst (λ o. IsSome o) (sym (in_right i ge)) (t i late ge b)
      ]

  joined : (a b : Option ℕ) → Answer start first l a → Answer start (first + leaf_count l) r b → Answer start first (branch l n r) (first_of a b)
  joined None None s t = λ i late a b. set_both (first + leaf_count l + leaf_count r) s t i late a (omega arith)
  joined None (Some j) s t = record {
    from_start = t.from_start;
    from_first = omega (arith, t.from_first);
    inside = omega (arith, t.inside);
    blank = in_right j t.from_first ∙ t.blank;
    earlier = set_both j s t.earlier;
  }
  joined (Some j) b s t = record {
    from_start = s.from_start;
    from_first = s.from_first;
    inside = omega (arith, s.inside);
    blank = in_left j s.inside ∙ s.blank;
    earlier = set_left j (omega (arith, s.inside)) s.earlier;
  }

search_blank : (start first : ℕ) → Answer start first (leaf None) (next_blank_leaf start first (leaf None))
search_blank start first =
    elim (cases_lt first start) [
      | inl lt ↦
          (let none : AreSet start first (leaf None) (first + 1) = λ i late a b. absurd (omega arith) in
          subst (Answer start first (leaf None)) (sym (below first start None (Some first) lt)) none)
      | inr ge ↦
          (let found : Finds start first (leaf None) first = record {
            from_start = ge;
            from_first = omega arith;
            inside = omega arith;
            blank = same first first None None refl;
            earlier = λ i late a b. absurd (omega arith);
          } in
          subst (Answer start first (leaf None)) (sym (from first start None (Some first) ge)) found)
    ]

search : (start first : ℕ) (t : Tree) → Answer start first t (next_blank_leaf start first t)
search start first (leaf None) = search_blank start first
search start first (leaf (Some x)) = λ i late a b. subst (λ o. IsSome o) (sym (same i first (Some x) None (omega arith))) refl
search start first (branch l n r) =
    joined start first l n r (next_blank_leaf start first l) (next_blank_leaf start (first + leaf_count l) r) (search start first l) (search start (first + leaf_count l) r)

not_both : (o : Option LeafNode) → o ≡ None → IsSome o → ⊥
not_both None e s = cc
not_both (Some x) e s = cc

only : (start : ℕ) (t : Tree) (j : ℕ) → Finds start 0 t j → (o : Option ℕ) → Answer start 0 t o → o ≡ Some j
only start t j h None s = absurd (not_both _ h.blank (s j h.from_start (omega arith) (omega (arith, h.inside))))
only start t j h (Some k) s =
    elim (cases_order k j) [
      | inl e ↦ ap (λ v. Some v) e
      | inr (inl lt) ↦ absurd (not_both _ s.blank (h.earlier k s.from_start (omega arith) lt))
      | inr (inr gt) ↦ absurd (not_both _ h.blank (s.earlier j h.from_start (omega arith) gt))
    ]

none : (start : ℕ) (t : Tree) → AreSet start 0 t (0 + leaf_count t) → (o : Option ℕ) → Answer start 0 t o → o ≡ None
none start t h None s = refl
none start t h (Some k) s = absurd (not_both _ s.blank (h k s.from_start (omega arith) s.inside))

-- leaf j is blank, and each one from `start` on and before it is non-blank
pub record IsNextBlank (start : ℕ) (t : Tree) (j : ℕ) : Type 0 where
  pub late : start ≤ j
  pub inside : j < leaf_count t
  pub blank : leaf_at 0 t j ≡ None
  pub earlier : (i : ℕ) → start ≤ i → i < j → IsSome (leaf_at 0 t i)

-- the number that the search finds is that of the leftmost blank leaf from `start` on, which is one at most
pub next_blank_leaf-found : (start : ℕ) (t : Tree) (j : ℕ) → IsNextBlank start t j → next_blank_leaf start 0 t ≡ Some j
next_blank_leaf-found start t j h =
    only start t j (record { from_start = h.late; from_first = omega arith; inside = omega (arith, h.inside); blank = h.blank; earlier = λ i late a b. h.earlier i late b })
    (next_blank_leaf start 0 t) (search start 0 t)

pub next_blank_leaf-none : (start : ℕ) (t : Tree) → ((i : ℕ) → start ≤ i → i < leaf_count t → IsSome (leaf_at 0 t i)) → next_blank_leaf start 0 t ≡ None
next_blank_leaf-none start t h = none start t (λ i late a b. h i late (omega arith)) (next_blank_leaf start 0 t) (search start 0 t)

-- the first one is the next one from leaf 0 on
pub next_blank_leaf-zero : (first : ℕ) (t : Tree) → next_blank_leaf 0 first t ≡ first_blank_leaf first t
next_blank_leaf-zero first (leaf None) = from first 0 None (Some first) (omega arith)
next_blank_leaf-zero first (leaf (Some x)) = refl
next_blank_leaf-zero first (branch l n r) =
    let a = next_blank_leaf-zero first l in let b = next_blank_leaf-zero (first + leaf_count l) r in λ i. first_of (a i) (b i)

leftmost : (t : Tree) (o : Option ℕ) → Answer 0 0 t o → MatchOption o (AllLeavesNonBlank t) (λ j. IsFirstBlank t j)
leftmost t None s = λ i l. s i (omega arith) (omega arith) (omega arith)
leftmost t (Some j) s = record { inside = omega (arith, s.inside); blank = s.blank; earlier = λ i l. s.earlier i (omega arith) (omega arith) l }

-- what the search from leaf 0 on says of the tree
pub first_blank_leaf-leftmost : (t : Tree) → MatchOption (first_blank_leaf 0 t) (AllLeavesNonBlank t) (λ j. IsFirstBlank t j)
first_blank_leaf-leftmost t = leftmost t (first_blank_leaf 0 t) (subst (Answer 0 0 t) (next_blank_leaf-zero 0 t) (search 0 0 t))

from_zero : (start : ℕ) (t : Tree) → AreNonBlankBelow t start → (o : Option ℕ) → Answer start 0 t o → next_blank_leaf 0 0 t ≡ o
from_zero start t set None s =
    none 0 t (λ i late a b. elim (cases_lt i start) [ inl lt ↦ set i lt | inr ge ↦ s i ge a b ]) (next_blank_leaf 0 0 t) (search 0 0 t)
from_zero start t set (Some j) s =
    only 0 t j (record {
      from_start = omega arith;
      from_first = s.from_first;
      inside = s.inside;
      blank = s.blank;
      earlier = λ i late a b. elim (cases_lt i start) [ inl lt ↦ set i lt | inr ge ↦ s.earlier i ge a b ];
    }) (next_blank_leaf 0 0 t) (search 0 0 t)

-- if each leaf below `start` is non-blank, the search from there on finds the first blank one
pub next_blank_leaf-first : (t : Tree) (start : ℕ) → AreNonBlankBelow t start → next_blank_leaf start 0 t ≡ first_blank_leaf 0 t
next_blank_leaf-first t start set = sym (from_zero start t set (next_blank_leaf start 0 t) (search start 0 t)) ∙ next_blank_leaf-zero 0 t
