-- Entries of different numbers. In their order, it is enough that neighbours have different numbers. The first entry from a number
-- on says whether there is an entry of the number.
use Rattle.std.proofs.Common.{◌≡◌, ◌≢◌, ◌∙◌, ℕ, ◌<◌, ◌≤◌, List, [], ◌∷◌, Bool, Option, Some, None, true, cond, ◌⊎◌, inl, inr, refl, sym, ap, subst, arith, BTreeSet}
use Rattle.std.specs.Prelude.{◌||◌}
use Rattle.std.specs.List.{AllByRecursion, filter}
use Rattle.std.specs.List.Sorted.{IsStrictlySortedBy}
use Rattle.std.specs.BTreeSet.{keys_between}
use Rattle.std.specs.BTreeMap.Range.{range_contains}
use Rattle.std.specs.declared.cmp.Ordering.TheVariants.{Less}
use Rattle.std.specs.declared.ops.Bound.TheVariants.{Included, Unbounded}
use Rattle.std.proofs.lemmas.Bool.{cases_Bool}
use Rattle.std.proofs.lemmas.Bool.Decides.{nat_tests}
use Rattle.std.proofs.lemmas.Map.Keys.{sorted_head, sorted_tail}
use Rattle.mls_index.specs.EntryTable.{entry_cmp, has_entry, contains_entry, HaveDistinctNumbers}
use Rattle.mls_index.proofs.Entries.{is_entry, is_entry-own, or_left, or_right, lists-nil, lists-head, of_keys, below_listed, in_from}

-- no entry has the number of the one before it
abbrev pub AreApart : Option ℕ → List (ℕ × ℕ) → Type 0
AreApart last [] = Unit {0}
AreApart last (e ∷ es) = (last ≢ Some e.0) × AreApart (Some e.0) es

all_listed : (P : ℕ × ℕ → Type 0) (es : List (ℕ × ℕ)) → AllByRecursion P es → (b q : ℕ) → contains_entry es b q ≡ true → P (b, q)
all_listed P [] h b q on = absurd (lists-nil [] refl b q on)
all_listed P (e ∷ es) h b q on = elim (lists-head e es b q on) [
  | inl at ↦ subst (λ c. P (c, q)) at.0 (subst (λ r. P (e.0, r)) at.1 h.0)
  | inr more ↦ all_listed P es h.1 b q more
]

not_above : (e f : ℕ × ℕ) → entry_cmp e f ≡ Less → e.0 ≤ f.0
not_above e f less = grind (arith, nat_tests)

-- the numbers after an entry are greater
greater : (e : ℕ × ℕ) (es : List (ℕ × ℕ)) → IsStrictlySortedBy entry_cmp (e ∷ es) → AreApart (Some e.0) es
    → (b q : ℕ) → contains_entry es b q ≡ true → e.0 < b
greater e [] sorted apart b q on = absurd (lists-nil [] refl b q on)
greater e (f ∷ es) sorted apart b q on =
    let low : e.0 ≤ f.0 = not_above e f (sorted_head entry_cmp e (f ∷ es) sorted).0 in
    let other : e.0 ≢ f.0 = λ same. apart.0 (ap Some same) in
    let less : e.0 < f.0 = omega (arith, low, other) in
    elim (lists-head f es b q on) [
      | inl at ↦ subst (λ c. e.0 < c) at.0 less
      | inr more ↦
          (let high : f.0 ≤ b = not_above f (b, q) (all_listed (λ y. entry_cmp f y ≡ Less) es (sorted_head entry_cmp f es (sorted_tail entry_cmp e (f ∷ es) sorted)) b q more) in
          omega (arith, less, high))
    ]

distinct : (last : Option ℕ) (es : List (ℕ × ℕ)) → IsStrictlySortedBy entry_cmp es → AreApart last es
    → (b p q : ℕ) → contains_entry es b p ≡ true → contains_entry es b q ≡ true → p ≡ q
distinct last [] sorted apart b p q on on' = absurd (lists-nil [] refl b p on)
distinct last (e ∷ es) sorted apart b p q on on' =
    elim (lists-head e es b p on) [
      | inl at ↦ elim (lists-head e es b q on') [
        | inl at' ↦ sym at.1 ∙ at'.1
        | inr more' ↦ absurd (let less = greater e es sorted apart.1 b q more' in omega (arith, less, at.0))
      ]
      | inr more ↦ elim (lists-head e es b q on') [
        | inl at' ↦ absurd (let less = greater e es sorted apart.1 b p more in omega (arith, less, at'.0))
        | inr more' ↦ distinct (Some e.0) es (sorted_tail entry_cmp e es sorted) apart.1 b p q more more'
      ]
    ]

pub apart-distinct : (s : BTreeSet (ℕ × ℕ)) → IsStrictlySortedBy entry_cmp s.keys → AreApart None s.keys → HaveDistinctNumbers s
apart-distinct s sorted apart b p q has has' = distinct None s.keys sorted apart b p q (sym (of_keys s b p) ∙ has) (sym (of_keys s b q) ∙ has')

-- ---- the first entry from a number on

abbrev first_of : ℕ × ℕ → List (ℕ × ℕ) → ℕ × ℕ
first_of d [] = d
first_of d (e ∷ es) = e

lists-own : (e : ℕ × ℕ) (es : List (ℕ × ℕ)) → contains_entry (e ∷ es) e.0 e.1 ≡ true
unfolding contains_entry
lists-own e es = or_left (is_entry e.0 e.1 e) (contains_entry es e.0 e.1) (is_entry-own e.0 e.1)

lists-more : (e : ℕ × ℕ) (es : List (ℕ × ℕ)) (b p : ℕ) → contains_entry es b p ≡ true → contains_entry (e ∷ es) b p ≡ true
unfolding contains_entry
lists-more e es b p h = ap (λ v. is_entry b p e || v) h ∙ or_right (is_entry b p e)

-- the first entry that a filter lets through
record IsHead (test : ℕ × ℕ → Bool) (ks : List (ℕ × ℕ)) (e : ℕ × ℕ) : Type 0 where
  passes : test e ≡ true
  member : contains_entry ks e.0 e.1 ≡ true
  least : (b q : ℕ) → contains_entry (filter test ks) b q ≡ true → ((e.0 ≡ b) × (e.1 ≡ q)) ⊎ (entry_cmp e (b, q) ≡ Less)

head_of : (test : ℕ × ℕ → Bool) (ks : List (ℕ × ℕ)) → IsStrictlySortedBy entry_cmp ks → (e : ℕ × ℕ) (rest : List (ℕ × ℕ)) → e ∷ rest ≡ filter test ks → IsHead test ks e
head_of test [] sorted e rest is = absurd (lists-nil (e ∷ rest) is e.0 e.1 (lists-own e rest))
head_of test (k ∷ ks) sorted e rest is = elim (cases_Bool (test k)) [
  | inl passed ↦
      (let same : k ≡ e = ap (first_of k) (sym (is ∙ ap (λ v. cond v (k ∷ filter test ks) (filter test ks)) passed)) in
      record {
        passes = subst (λ d. test d ≡ true) same passed;
        member = subst (λ d. contains_entry (k ∷ ks) d.0 d.1 ≡ true) same (lists-own k ks);
        least = λ b q on.
            subst (λ d. ((d.0 ≡ b) × (d.1 ≡ q)) ⊎ (entry_cmp d (b, q) ≡ Less)) same
            (elim (lists-head k (filter test ks) b q (ap (λ v. contains_entry (cond v (k ∷ filter test ks) (filter test ks)) b q) (sym passed) ∙ on)) [
              | inl at ↦ inl at
              | inr more ↦ inr (below_listed k test ks (sorted_head entry_cmp k ks sorted) b q more)
            ]);
      })
  | inr failed ↦
      (let h = head_of test ks (sorted_tail entry_cmp k ks sorted) e rest (is ∙ ap (λ v. cond v (k ∷ filter test ks) (filter test ks)) failed) in
      record {
        passes = h.passes;
        member = lists-more k ks e.0 e.1 h.member;
        least = λ b q on. h.least b q (ap (λ v. contains_entry (cond v (k ∷ filter test ks) (filter test ks)) b q) (sym failed) ∙ on);
      })
]

not_below : (b : ℕ) (e : ℕ × ℕ) → range_contains entry_cmp (Included (b, 0)) Unbounded e ≡ true → b ≤ e.0
not_below b e h = grind (arith, nat_tests)

-- if the first entry is of the number, its node index is this one, and no two have the same number
pub other_first : (s : BTreeSet (ℕ × ℕ)) (b p : ℕ) (e : ℕ × ℕ) (rest : List (ℕ × ℕ)) → IsStrictlySortedBy entry_cmp s.keys
    → e ∷ rest ≡ keys_between entry_cmp (Included (b, 0)) Unbounded s → (e.0 ≡ b → e.1 ≡ p) → HaveDistinctNumbers s → (q : ℕ) → has_entry s b q ≡ true → q ≡ p
other_first s b p e rest sorted is own distinct q has =
    let h = head_of (range_contains entry_cmp (Included (b, 0)) Unbounded) s.keys sorted e rest is in
    elim (h.least b q (in_from s b q has)) [
      | inl at ↦ sym at.1 ∙ own at.0
      | inr less ↦
          (let low : b ≤ e.0 = not_below b e h.passes in
          let high : e.0 ≤ b = not_above e (b, q) less in
          let same : e.0 ≡ b = omega (arith, low, high) in
          distinct b q e.1 has (of_keys s b e.1 ∙ subst (λ c. contains_entry s.keys c e.1 ≡ true) same h.member) ∙ own same)
    ]
