-- The steps by which the credentials of a tree's leaves are counted.
use Rattle.std.proofs.Common.{◌≡◌, ◌≢◌, ◌∙◌, ℕ, ◌+◌, ◌*◌, ◌<◌, ◌≤◌, List, [], ◌∷◌, ◌++◌, length, Bool, false, ◌||◌, eqb, inl, inr, refl, sym, ap, subst, arith}
use Rattle.std.specs.Prelude.{slice_set}
use Rattle.std.specs.List.{list_any}
use Rattle.std.proofs.lemmas.Bool.{cases_eq, cases_lt}
use Rattle.std.proofs.lemmas.Bool.Decides.{nat_tests}
use Rattle.std.proofs.lemmas.List.{get_or-set_same, get_or-set_other, get_or_append_left, get_or_push, length_push, nil_from_length}
use Rattle.mls_tree.specs.Tree.{Tree, leaf_count, leaf_at}
use Rattle.mls_tree.specs.ChangedNodes.{AgreeExceptAt}
use Rattle.mls_index.specs.LeafCredentials.{LeafClass, blank_class, class_of, class_at, classes_before}
use Rattle.mls_index.specs.CredentialCounts.{Count, HaveBase, AreCountsOf}
use Rattle.mls_index.specs.CredentialCountsInternal.{CountBut, CountsFirst}
use Rattle.mls_index.specs.declared.credential_counts.CredentialCounts.{CredentialCounts}
use Rattle.mls_index.proofs.Classes.{same_classes, class-beyond}
use Rattle.mls_index.proofs.Standing.{same_leaf}

-- ---- counts are made

pub filled-more : (t : Tree) (n : ℕ) (c d : CredentialCounts) (class : LeafClass) → class ≡ class_of (leaf_at 0 t n) → d.classes.list.items ≡ c.classes.list.items ++ class ∷ []
    → d.replaced.items ≡ c.replaced.items → CountsFirst t n c → CountsFirst t (n + 1) d
filled-more t n c d class is e same h = record {
  count = ap length e ∙ length_push c.classes.list.items class ∙ ap (λ m. m + 1) h.count;
  at = λ i low. elim (cases_eq i n) [
    | inl last ↦
        ap (λ ys. class_at ys i) e ∙ get_or_push c.classes.list.items class blank_class i (h.count ∙ sym last) ∙ is
        ∙ ap (λ j. class_of (leaf_at 0 t j)) (sym last)
    | inr other ↦
        (let less : i < n = omega (arith, low, other) in
        ap (λ ys. class_at ys i) e
        ∙ get_or_append_left c.classes.list.items (class ∷ []) blank_class i (subst (λ m. i < m) (sym h.count) less) ∙ h.at i less)
  ];
  none_replaced = ap length same ∙ h.none_replaced;
}

pub filled-all : (t : Tree) (n : ℕ) (c : CredentialCounts) → n ≡ leaf_count t → CountsFirst t n c → AreCountsOf t c
filled-all t n c e h = record {
  counted = record {
    at = λ i. elim (cases_lt i n) [
      | inl low ↦ h.at i low
      | inr high ↦
          (let capacity : leaf_count t ≤ length c.classes.list.items = omega (arith, e, h.count) in
          let far : length c.classes.list.items ≤ i = omega (arith, h.count, high) in class-beyond c.classes.list.items t i capacity far)
    ];
  };
  none_replaced = h.none_replaced;
}

-- ---- settled counts

pub base-counts : (t : Tree) (c : CredentialCounts) → HaveBase t c → length c.replaced.items ≡ 0 → AreCountsOf t c
base-counts t c h none = record {
  counted = same_classes t (classes_before c.replaced.items c.classes.list.items) c.classes.list.items (ap (λ es. classes_before es c.classes.list.items) (sym (nil_from_length c.replaced.items none))) h;
  none_replaced = none;
}

-- counts of a tree have it as their base
pub counts-base : (t : Tree) (c : CredentialCounts) → AreCountsOf t c → HaveBase t c
counts-base t c h =
    same_classes t c.classes.list.items (classes_before c.replaced.items c.classes.list.items) (ap (λ es. classes_before es c.classes.list.items) (nil_from_length c.replaced.items h.none_replaced)) h.counted

-- ---- places are entered

unlisted-tail : (p q : ℕ) (rest : List ℕ) → q ≢ p → list_any (λ r. eqb r q) (p ∷ rest) ≡ list_any (λ r. eqb r q) rest
unlisted-tail p q rest other = let e : eqb p q ≡ false = grind (arith, nat_tests) in ap (λ (b : Bool). b || list_any (λ r. eqb r q) rest) e

-- a place at which no leaf is counted
pub but-same : (t : Tree) (c : CredentialCounts) (p : ℕ) (rest : List ℕ) → ((i : ℕ) → p ≡ 2 * i → class_at c.classes.list.items i ≡ class_of (leaf_at 0 t i))
    → CountBut (p ∷ rest) t c → CountBut rest t c
but-same t c p rest here h = record {
  at = λ i off. elim (cases_eq p (2 * i)) [
    | inl same ↦ here i same
    | inr other ↦ h.at i (unlisted-tail p (2 * i) rest (λ e. other (sym e)) ∙ off)
  ];
}

-- the leaf at a place is counted
pub but-replaced : (t : Tree) (c d : CredentialCounts) (p i : ℕ) (class : LeafClass) (rest : List ℕ) → p ≡ 2 * i → i < length c.classes.list.items → class ≡ class_of (leaf_at 0 t i)
    → d.classes.list.items ≡ slice_set c.classes.list.items i class → CountBut (p ∷ rest) t c → CountBut rest t d
but-replaced t c d p i class rest at low is set h = record {
  at = λ j off. elim (cases_eq j i) [
    | inl same ↦
        ap (λ ys. class_at ys j) set ∙ ap (class_at (slice_set c.classes.list.items i class)) same ∙ get_or-set_same c.classes.list.items i class blank_class low ∙ is
        ∙ ap (λ k. class_of (leaf_at 0 t k)) (sym same)
    | inr other ↦
        (let away : 2 * j ≢ p = λ e. other (omega (arith, e, at)) in
        ap (λ ys. class_at ys j) set ∙ get_or-set_other c.classes.list.items i j class blank_class other ∙ h.at j (unlisted-tail p (2 * j) rest away ∙ off))
  ];
}

pub but-none : (t : Tree) (c : CredentialCounts) → CountBut [] t c → Count t c
but-none t c h = record { at = λ i. h.at i refl }

-- a tree that differs at some places
pub but-changed : (node_indices : List ℕ) (old new : Tree) (c : CredentialCounts) → AgreeExceptAt node_indices old new → Count old c → CountBut node_indices new c
but-changed node_indices old new c same h = record { at = λ i off. h.at i ∙ ap class_of (sym (same_leaf old new i (same (2 * i) off))) }
