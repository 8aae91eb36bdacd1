-- Leaf indices that are merged into a list, and split among the left and the right subtree.
use Rattle.std.proofs.Common.{◌≡◌, ℕ, suc, ◌<◌, ◌≤◌, List, [], ◌∷◌, ◌++◌, refl, sym, ap, ◌∙◌, subst, inl, inr, arith, append_assoc, nat_lt, true, false, not, cond, Bool}
use Rattle.std.specs.Prelude.{All, IfSome, slice_get, ◌==◌, ◌||◌, if◌then◌else◌}
use Rattle.std.specs.List.{list_any, AllPairs}
use Rattle.std.specs.List.Sorted.{IsStrictlyIncreasing}
use Rattle.std.proofs.lemmas.Bool.{cases_lt}
use Rattle.std.proofs.lemmas.Bool.Decides.{nat_tests}
use Rattle.std.proofs.lemmas.List.{append-nil}
use Rattle.std.proofs.lemmas.List.Elements.{All-nil, All-cons, All-head, All-tail, All-append, All-push, All-weaker, filter-append, filter_passes}
use Rattle.std.proofs.lemmas.List.Folds.{list_any-append, list_any_none}
use Rattle.std.proofs.lemmas.List.Kept.{AllPairs-from_increasing, IsStrictlyIncreasing-filter}
use Rattle.mls_tree.specs.TreeOperations.{insert_before, insert_number}
use Rattle.mls_tree.specs.MergedLists.{insert_numbers, leaves_before, leaves_from}
use Rattle.mls_tree.proofs.Choices.{below, from, is_less, not_less}
use Rattle.mls_tree.proofs.Lists.{insert_number-present}

-- ---- each number is below all later ones

abbrev pub Rises : List ℕ → Type 0
Rises [] = Unit {0}
Rises (i ∷ is) = All (λ j. i < j) is × Rises is

rises-from_pairs : (is : List ℕ) → AllPairs (λ x y. x < y) is → Rises is
rises-from_pairs [] h = tt
rises-from_pairs (i ∷ is) h =
    ((λ k d within. h 0 (suc k) d (omega arith) (omega arith)), rises-from_pairs is (λ a b d lt within. h (suc a) (suc b) d (omega arith) (omega arith)))

pub rises : (is : List ℕ) → IsStrictlyIncreasing is → Rises is
rises is h = rises-from_pairs is (AllPairs-from_increasing is h)

rises-back : (front back : List ℕ) → Rises (front ++ back) → Rises back
rises-back [] back h = h
rises-back (a ∷ front) back h = rises-back front back h.1

-- ---- a number that is inserted after the entries that are less

or_false : (a b : Bool) → a ≡ false → (a || b) ≡ b
or_false true b e = absurd cc
or_false false b e = refl

no_left : (a b : Bool) → (a || b) ≡ false → b ≡ false
no_left true b e = absurd cc
no_left false b e = e

unequal : (x i : ℕ) → x < i → (x == i) ≡ false
unequal x i lt = grind (arith, nat_tests)

-- lesser entries are not that number
pub lesser-without : (i : ℕ) (xs : List ℕ) → All (λ x. x < i) xs → list_any (λ x. x == i) xs ≡ false
lesser-without i xs low = list_any_none (λ x. x == i) xs (All-weaker (λ x. x < i) (λ x. (x == i) ≡ false) (λ x lt. unequal x i lt) xs low)

passed-without : (i : ℕ) (xs ys : List ℕ) → All (λ x. x < i) xs → list_any (λ x. x == i) (xs ++ ys) ≡ list_any (λ x. x == i) ys
passed-without i xs ys low = list_any-append (λ x. x == i) xs ys ∙ or_false _ _ (lesser-without i xs low)

insert_before-past : (i : ℕ) (xs ys : List ℕ) → All (λ x. x < i) xs → insert_before i (xs ++ ys) ≡ xs ++ insert_before i ys
insert_before-past i [] ys low = refl
insert_before-past i (x ∷ xs) ys low =
    below x i (x ∷ insert_before i (xs ++ ys)) (i ∷ x ∷ xs ++ ys) (All-head (λ x. x < i) x xs low)
    ∙ ap (λ zs. x ∷ zs) (insert_before-past i xs ys (All-tail (λ x. x < i) x xs low))

insert_before-front : (i : ℕ) (ys : List ℕ) → IfSome (slice_get ys 0) (λ y. i ≤ y) → insert_before i ys ≡ i ∷ ys
insert_before-front i [] h = refl
insert_before-front i (y ∷ ys) h = from y i (y ∷ insert_before i ys) (i ∷ y ∷ ys) h

insert_number-absent : (i : ℕ) (xs : List ℕ) → list_any (λ x. x == i) xs ≡ false → insert_number i xs ≡ insert_before i xs
insert_number-absent i xs e = ap (λ (b : Bool). if b then xs else insert_before i xs) e

-- ---- the loop that merges

-- of these indices those in `todo` are still to be inserted, and the list so far is `out`, then `rest`
pub record IsMerging (list indices todo out rest : List ℕ) : Type 0 where
  pub whole : insert_numbers todo (out ++ rest) ≡ insert_numbers indices list
  pub gone : List ℕ
  pub split : list ≡ gone ++ rest
  pub out_low : All (λ j. All (λ x. x < j) out) todo
  pub gone_low : All (λ j. All (λ x. x < j) gone) todo
  pub up : Rises todo

pub merging-start : (list indices todo out rest : List ℕ) → todo ≡ indices → out ≡ [] → rest ≡ list → IsStrictlyIncreasing indices → IsMerging list indices todo out rest
merging-start list indices todo out rest t o r h = record {
  whole = λ k. insert_numbers (t k) (o k ++ r k);
  gone = [];
  split = sym r;
  out_low = subst (λ v. All (λ j. All (λ x. x < j) v) todo) (sym o) (λ k d within. All-nil (λ x. x < _));
  gone_low = λ k d within. All-nil (λ x. x < _);
  up = subst Rises (sym t) (rises indices h);
}

module _ (list indices todo out rest : List ℕ) (i : ℕ) (is : List ℕ) (next : todo ≡ i ∷ is) (now : IsMerging list indices todo out rest) where
  out_now : All (λ j. All (λ x. x < j) out) (i ∷ is)
  out_now = subst (λ v. All (λ j. All (λ x. x < j) out) v) next now.out_low

  gone_now : All (λ j. All (λ x. x < j) now.gone) (i ∷ is)
  gone_now = subst (λ v. All (λ j. All (λ x. x < j) now.gone) v) next now.gone_low

  up_now : Rises (i ∷ is)
  up_now = subst Rises next now.up

  whole_now : insert_numbers is (insert_number i (out ++ rest)) ≡ insert_numbers indices list
  whole_now = ap (λ v. insert_numbers v (out ++ rest)) (sym next) ∙ now.whole

  -- what the list has, the rest of it has
  in_rest : list_any (λ x. x == i) (out ++ rest) ≡ list_any (λ x. x == i) list
  in_rest =
      passed-without i out rest (All-head (λ j. All (λ x. x < j) out) i is out_now)
      ∙ sym (passed-without i now.gone rest (All-head (λ j. All (λ x. x < j) now.gone) i is gone_now))
      ∙ ap (λ v. list_any (λ x. x == i) v) (sym now.split)

  pub merging-present : list_any (λ x. x == i) list ≡ true → IsMerging list indices is out rest
  merging-present has = record {
    whole = ap (insert_numbers is) (sym (insert_number-present i (out ++ rest) (in_rest ∙ has))) ∙ whole_now;
    gone = now.gone;
    split = now.split;
    out_low = All-tail (λ j. All (λ x. x < j) out) i is out_now;
    gone_low = All-tail (λ j. All (λ x. x < j) now.gone) i is gone_now;
    up = up_now.1;
  }

  module _ (less others longer new : List ℕ) (cut : rest ≡ less ++ others) (low : All (λ x. x < i) less) (high : IfSome (slice_get others 0) (λ x. i ≤ x))
      (copied : longer ≡ out ++ less) (pushed : new ≡ longer ++ i ∷ []) where
    -- the number is inserted between the two parts of the rest
    inserted : list_any (λ x. x == i) list ≡ false → new ++ others ≡ insert_number i (out ++ rest)
    inserted none =
        ap (λ v. v ++ others) (pushed ∙ ap (λ v. v ++ i ∷ []) copied)
        ∙ append_assoc (out ++ less) (i ∷ []) others
        ∙ append_assoc out less (i ∷ others)
        ∙ sym
        (insert_number-absent i (out ++ rest) (in_rest ∙ none)
        ∙ insert_before-past i out rest (All-head (λ j. All (λ x. x < j) out) i is out_now)
        ∙ ap (λ v. out ++ insert_before i v) cut
        ∙ ap (λ v. out ++ v) (insert_before-past i less others low)
        ∙ ap (λ v. out ++ (less ++ v)) (insert_before-front i others high))

    lower : (j : ℕ) → i < j → All (λ x. x < j) less
    lower j lt = All-weaker (λ x. x < i) (λ x. x < j) (λ x h. omega arith) less low

    module _ (j : ℕ) (lt : i < j) where
      out_lower : All (λ x. x < j) out → All (λ x. x < j) new
      out_lower h =
          subst (All (λ x. x < j)) (sym (pushed ∙ ap (λ v. v ++ i ∷ []) copied))
          (All-push (λ x. x < j) (out ++ less) i (All-append (λ x. x < j) out less h (lower j lt)) lt)

      gone_lower : All (λ x. x < j) now.gone → All (λ x. x < j) (now.gone ++ less)
      gone_lower h = All-append (λ x. x < j) now.gone less h (lower j lt)

    pub merging-absent : list_any (λ x. x == i) list ≡ false → IsMerging list indices is new others
    merging-absent none = record {
      whole = ap (insert_numbers is) (inserted none) ∙ whole_now;
      gone = now.gone ++ less;
      split = now.split ∙ ap (λ v. now.gone ++ v) cut ∙ sym (append_assoc now.gone less others);
      out_low = λ k d within. out_lower _ (up_now.0 k d within) (All-tail (λ j. All (λ x. x < j) out) i is out_now k d within);
      gone_low = λ k d within. gone_lower _ (up_now.0 k d within) (All-tail (λ j. All (λ x. x < j) now.gone) i is gone_now k d within);
      up = up_now.1;
    }

pub merging-end : (list indices todo out rest new : List ℕ) → todo ≡ [] → new ≡ out ++ rest → IsMerging list indices todo out rest → new ≡ insert_numbers indices list
merging-end list indices todo out rest new none pushed now = pushed ∙ ap (λ v. insert_numbers v (out ++ rest)) (sym none) ∙ now.whole

-- ---- the leaves of the subtrees

module _ (m i : ℕ) (is : List ℕ) where
  pub before-near : i < m → leaves_before m (i ∷ is) ≡ i ∷ leaves_before m is
  before-near lt = ap (λ b. cond b (i ∷ leaves_before m is) (leaves_before m is)) (is_less i m lt)

  pub before-far : m ≤ i → leaves_before m (i ∷ is) ≡ leaves_before m is
  before-far ge = ap (λ b. cond b (i ∷ leaves_before m is) (leaves_before m is)) (not_less i m ge)

  pub from-near : i < m → leaves_from m (i ∷ is) ≡ leaves_from m is
  from-near lt = ap (λ b. cond (not b) (i ∷ leaves_from m is) (leaves_from m is)) (is_less i m lt)

  pub from-far : m ≤ i → leaves_from m (i ∷ is) ≡ i ∷ leaves_from m is
  from-far ge = ap (λ b. cond (not b) (i ∷ leaves_from m is) (leaves_from m is)) (not_less i m ge)

-- the entries below `n` are among those below a larger number
pub before-nested : (n m : ℕ) (is : List ℕ) → n ≤ m → leaves_before n (leaves_before m is) ≡ leaves_before n is
before-nested n m [] le = refl
before-nested n m (i ∷ is) le =
    let nested = before-nested n m is le in
    elim (cases_lt i m) [
      | inl lt ↦
          ap (leaves_before n) (before-near m i is lt)
          ∙ (elim (cases_lt i n) [
            | inl low ↦ before-near n i (leaves_before m is) low ∙ ap (λ js. i ∷ js) nested ∙ sym (before-near n i is low)
            | inr high ↦ before-far n i (leaves_before m is) high ∙ nested ∙ sym (before-far n i is high)
          ])
      | inr ge ↦ ap (leaves_before n) (before-far m i is ge) ∙ nested ∙ sym (before-far n i is (omega arith))
    ]

passes : (m i : ℕ) → nat_lt i m ≡ true → i < m
passes m i e = grind (arith, nat_tests)

pub before-low : (m : ℕ) (is : List ℕ) → All (λ i. i < m) (leaves_before m is)
before-low m is = All-weaker (λ i. nat_lt i m ≡ true) (λ i. i < m) (passes m) (leaves_before m is) (filter_passes (λ i. nat_lt i m) is)

pub before-all : (m : ℕ) (is : List ℕ) → All (λ i. i < m) is → (leaves_before m is ≡ is) × (leaves_from m is ≡ [])
before-all m [] h = (refl, refl)
before-all m (i ∷ is) h =
    let lt = All-head (λ i. i < m) i is h in
    let ih = before-all m is (All-tail (λ i. i < m) i is h) in
    (before-near m i is lt ∙ ap (λ v. i ∷ v) ih.0, from-near m i is lt ∙ ih.1)

from-all : (m : ℕ) (is : List ℕ) → All (λ i. m ≤ i) is → (leaves_before m is ≡ []) × (leaves_from m is ≡ is)
from-all m [] h = (refl, refl)
from-all m (i ∷ is) h =
    let ge = All-head (λ i. m ≤ i) i is h in
    let ih = from-all m is (All-tail (λ i. m ≤ i) i is h) in
    (before-far m i is ge ∙ ih.0, from-far m i is ge ∙ ap (λ v. i ∷ v) ih.1)

all-high : (m : ℕ) (is : List ℕ) → Rises is → IfSome (slice_get is 0) (λ i. m ≤ i) → All (λ i. m ≤ i) is
all-high m [] up h = All-nil (λ i. m ≤ i)
all-high m (i ∷ is) up h = All-cons (λ i. m ≤ i) i is h (All-weaker (λ j. i < j) (λ j. m ≤ j) (λ j lt. omega arith) is up.0)

-- increasing leaf indices that are split at the middle
module _ (m : ℕ) (is front back : List ℕ) (up : IsStrictlyIncreasing is) (whole : is ≡ front ++ back) (low : All (λ i. i < m) front) (high : IfSome (slice_get back 0) (λ i. m ≤ i)) where
  high_all : All (λ i. m ≤ i) back
  high_all = all-high m back (rises-back front back (subst Rises whole (rises is up))) high

  pub split-before : leaves_before m is ≡ front
  split-before =
      ap (leaves_before m) whole ∙ filter-append (λ i. nat_lt i m) front back
      ∙ (λ k. (before-all m front low).0 k ++ (from-all m back high_all).0 k) ∙ append-nil front

  pub split-from : leaves_from m is ≡ back
  split-from =
      ap (leaves_from m) whole ∙ filter-append (λ i. not (nat_lt i m)) front back
      ∙ (λ k. (before-all m front low).1 k ++ (from-all m back high_all).1 k)

  pub split-left_rises : IsStrictlyIncreasing front
  split-left_rises = subst IsStrictlyIncreasing split-before (IsStrictlyIncreasing-filter (λ i. nat_lt i m) is up)

  pub split-right_rises : IsStrictlyIncreasing back
  split-right_rises = subst IsStrictlyIncreasing split-from (IsStrictlyIncreasing-filter (λ i. not (nat_lt i m)) is up)
