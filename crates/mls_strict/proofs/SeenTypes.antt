-- Lists of extensions of which some types were seen before.
use Rattle.std.proofs.Common.{◌≡◌, ℕ, zero, suc, ◌+◌, ◌<◌, ◌==◌, Bool, true, false, List, [], ◌∷◌, length, get_or, set, take, replicate, refl, sym, inl, inr, add-one}
use Rattle.std.specs.Prelude.{◌&&◌, ◌||◌, not}
use Rattle.std.specs.List.{list_all, list_any}
use Rattle.std.proofs.Math.Seq.{take-suc-set}
use Rattle.std.proofs.lemmas.Bool.{cases_eq, eq-eqb, ne_eqb}
use Rattle.std.proofs.lemmas.List.{get_or-set_same, get_or-set_other}
use Rattle.std.proofs.lemmas.List.Folds.{list_any-append}
use Rattle.mls_nodes.specs.declared.extension.Extension.{Extension}
use Rattle.mls_strict.specs.ExtensionLists.{has_each_once}
use Rattle.mls_strict.proofs.Booleans.{and_false, and_true, or_false, or_true, same_either_way}

-- no two extensions are of one type, and none is of a type that was seen
unfoldable pub has_new_types_once : (ℕ → Bool) → List Extension → Bool
has_new_types_once seen es = has_each_once es && list_all (λ e. not (seen e.kind)) es

regrouped : (p q a l : Bool) → (not (p || q) && (not a && l)) ≡ (not (q || a) && (not p && l))
regrouped true true a l = refl
regrouped true false a l = sym (and_false (not a))
regrouped false true a l = refl
regrouped false false a l = refl

moved : (a e l : Bool) → ((not a && e) && l) ≡ (e && (not a && l))
moved true e l = sym (and_false e)
moved false e l = refl

-- ---- one type more

module _ (seen : ℕ → Bool) where
  all_new : ((k : ℕ) → seen k ≡ false) → (es : List Extension) → list_all (λ e. not (seen e.kind)) es ≡ true
  all_new none [] = refl
  all_new none (e ∷ es) = rw (none e.kind) (all_new none es)

  -- none was seen at first
  pub new_types-first : ((k : ℕ) → seen k ≡ false) → (es : List Extension) → has_new_types_once seen es ≡ has_each_once es
  unfolding has_new_types_once
  new_types-first none es = rw (all_new none es) (and_true (has_each_once es))

  -- none is left
  pub new_types-last : has_new_types_once seen [] ≡ true
  unfolding has_new_types_once has_each_once
  new_types-last = refl

  pub new_types-seen : (e : Extension) (es : List Extension) → seen e.kind ≡ true → has_new_types_once seen (e ∷ es) ≡ false
  unfolding has_new_types_once
  new_types-seen e es again = rw again (and_false (has_each_once (e ∷ es)))

  split : (more : ℕ → Bool) (kind : ℕ) → ((k : ℕ) → more k ≡ (seen k || (kind == k))) → (es : List Extension)
      → list_all (λ e. not (more e.kind)) es ≡ (not (list_any (λ f. f.kind == kind) es) && list_all (λ e. not (seen e.kind)) es)
  split more kind is [] = refl
  split more kind is (e ∷ es) =
      rw (is e.kind, split more kind is es, same_either_way kind e.kind)
      (regrouped (seen e.kind) (e.kind == kind) (list_any (λ (f : Extension). f.kind == kind) es) (list_all (λ (f : Extension). not (seen f.kind)) es))

  pub new_types-next : (more : ℕ → Bool) (e : Extension) (es : List Extension) → seen e.kind ≡ false
      → ((k : ℕ) → more k ≡ (seen k || (e.kind == k))) → has_new_types_once seen (e ∷ es) ≡ has_new_types_once more es
  unfolding has_new_types_once has_each_once
  new_types-next more e es new is =
      rw (split more e.kind is es, new)
      (moved (list_any (λ (f : Extension). f.kind == e.kind) es) (has_each_once es) (list_all (λ (f : Extension). not (seen f.kind)) es))

-- ---- lists and tables of the types that were seen

abbrev pub is_listed : List ℕ → ℕ → Bool
is_listed kinds k = list_any (λ y. y == k) kinds

pub listed_more : (kinds : List ℕ) (count kind : ℕ) → count < length kinds
    → (k : ℕ) → is_listed (take (count + 1) (set kinds count kind)) k ≡ (is_listed (take count kinds) k || (kind == k))
listed_more kinds count kind within k =
    rw (add-one, take-suc-set kinds count kind within, list_any-append (λ y. y == k) (take count kinds) (kind ∷ []), or_false (kind == k)) refl

abbrev pub is_noted : List Bool → ℕ → Bool
is_noted table k = get_or table k false

pub none_noted : (n k : ℕ) → is_noted (replicate n false) k ≡ false
none_noted zero k = refl
none_noted (suc n) zero = refl
none_noted (suc n) (suc k) = none_noted n k

pub noted_more : (table : List Bool) (kind : ℕ) → kind < length table → (k : ℕ) → is_noted (set table kind true) k ≡ (is_noted table k || (kind == k))
noted_more table kind within k =
    elim (cases_eq k kind) [
      | inl same ↦
          let there : is_noted (set table kind true) kind ≡ true = get_or-set_same table kind true false within in
          rw (same, there, eq-eqb kind kind refl) (sym (or_true (get_or table kind false)))
      | inr other ↦
          rw (get_or-set_other table kind k true false other, ne_eqb kind k (λ e. other (sym e))) (sym (or_false (get_or table k false)))
    ]
