-- Leaves that are told of items, as those that Updates and Removes concern, for a walk along a list of them.
use Rattle.std.proofs.Common.{◌≡◌, ◌≤◌, drop, ◌∙◌, ℕ, Bool, true, false, List, [], ◌∷◌, Option, Some, None, length, refl, sym, ap, arith, cond, BTreeSet}
use Rattle.std.specs.Prelude.{◌==◌, ◌&&◌, ◌||◌, not}
use Rattle.std.specs.List.{list_any}
use Rattle.std.specs.Ordering.{nat_cmp, is_eq}
use Rattle.std.specs.BTreeSet.{contains, IsEmpty}
use Rattle.std.proofs.lemmas.Bool.{false≢true}
use Rattle.std.proofs.lemmas.List.{drop_all}
use Rattle.std.proofs.lemmas.Bool.Decides.{nat_tests}
use Rattle.mls_apply.specs.declared.list_item.ListItem.{ListItem}
use Rattle.mls_apply.specs.ListRules.{is_leaf_number, maps_to, maps_once}

-- whether a leaf is one of those of g
abbrev pub is_mapped : (ℕ → Bool) → Option ℕ → Bool
is_mapped g None = false
is_mapped g (Some i) = g i

-- f tells none of these leaves
abbrev pub are_apart : (ListItem → Option ℕ) → (ℕ → Bool) → List ListItem → Bool
are_apart f g [] = true
are_apart f g (x ∷ xs) = not (is_mapped g (f x)) && are_apart f g xs

-- a leaf is told besides
regrouped : (p q a c : Bool) → (not (p || q) && (a && not c)) ≡ ((not q && a) && not (p || c))
regrouped true true a c = refl
regrouped true false true c = refl
regrouped true false false c = refl
regrouped false true a c = refl
regrouped false false a c = refl

-- one test is made before another
joined : (a b c : Bool) → (a && (b && c)) ≡ ((a && b) && c)
joined true b c = refl
joined false b c = refl

module _ (f : ListItem → Option ℕ) where
  -- a list is apart from no leaves
  are_apart-none : (g : ℕ → Bool) → ((i : ℕ) → g i ≡ false) → (xs : List ListItem) → are_apart f g xs ≡ true
  are_apart-none g h [] = refl
  are_apart-none g h (x ∷ xs) = go (f x) (are_apart-none g h xs)
    where
      go : (c : Option ℕ) → are_apart f g xs ≡ true → (not (is_mapped g c) && are_apart f g xs) ≡ true
      go None e = e
      go (Some i) e = ap (λ b. not b && are_apart f g xs) (h i) ∙ e

  are_apart-more : (g k : ℕ → Bool) (i : ℕ) → ((j : ℕ) → k j ≡ ((j == i) || g j)) → (xs : List ListItem)
      → are_apart f k xs ≡ (are_apart f g xs && not (maps_to f xs (Some i)))
  are_apart-more g k i h [] = refl
  are_apart-more g k i h (x ∷ xs) = go (f x) (are_apart-more g k i h xs)
    where
      go : (c : Option ℕ) → are_apart f k xs ≡ (are_apart f g xs && not (maps_to f xs (Some i)))
          → (not (is_mapped k c) && are_apart f k xs) ≡ ((not (is_mapped g c) && are_apart f g xs) && not (is_leaf_number c i || maps_to f xs (Some i)))
      go None e = e
      go (Some j) e =
          ap (λ b. not b && are_apart f k xs) (h j) ∙ ap (λ b. not ((j == i) || g j) && b) e
          ∙ regrouped (j == i) (g j) (are_apart f g xs) (maps_to f xs (Some i))

  -- ---- a walk along the list, with the leaves that were told before

  pub once-start : (g : ℕ → Bool) → ((i : ℕ) → g i ≡ false) → (xs : List ListItem) → maps_once f xs ≡ (are_apart f g xs && maps_once f xs)
  once-start g none xs = sym (ap (λ b. b && maps_once f xs) (are_apart-none g none xs))

  module _ (whole : Bool) (g : ℕ → Bool) (x : ListItem) (xs : List ListItem)
      (known : whole ≡ (are_apart f g (x ∷ xs) && maps_once f (x ∷ xs))) where
    -- no leaf is told
    pub once-none : f x ≡ None → whole ≡ (are_apart f g xs && maps_once f xs)
    once-none e = known ∙ ap (λ c. (not (is_mapped g c) && are_apart f g xs) && (not (maps_to f xs c) && maps_once f xs)) e

    -- a leaf that was told before
    pub once-met : (i : ℕ) → f x ≡ Some i → g i ≡ true → whole ≡ false
    once-met i e m =
        known
        ∙ ap (λ c. (not (is_mapped g c) && are_apart f g xs) && (not (maps_to f xs c) && maps_once f xs)) e
        ∙ ap (λ b. (not b && are_apart f g xs) && (not (maps_to f xs (Some i)) && maps_once f xs)) m

    -- another leaf
    pub once-new : (k : ℕ → Bool) (i : ℕ) → f x ≡ Some i → g i ≡ false → ((j : ℕ) → k j ≡ ((j == i) || g j)) → whole ≡ (are_apart f k xs && maps_once f xs)
    once-new k i e m h =
        known
        ∙ ap (λ c. (not (is_mapped g c) && are_apart f g xs) && (not (maps_to f xs c) && maps_once f xs)) e
        ∙ ap (λ b. (not b && are_apart f g xs) && (not (maps_to f xs (Some i)) && maps_once f xs)) m
        ∙ joined (are_apart f g xs) (not (maps_to f xs (Some i))) (maps_once f xs)
        ∙ ap (λ b. b && maps_once f xs) (sym (are_apart-more g k i h xs))

  -- at the end of the list
  pub once-all : (xs : List ListItem) (i : ℕ) (g : ℕ → Bool) → maps_once f xs ≡ (are_apart f g (drop i xs) && maps_once f (drop i xs))
      → length xs ≤ i → true ≡ maps_once f xs
  once-all xs i g known past = sym (known ∙ ap (λ ys. are_apart f g ys && maps_once f ys) (drop_all i xs past))

-- ---- the leaves of a set

equal_numbers : (i j : ℕ) → is_eq (nat_cmp i j) ≡ (j == i)
equal_numbers i j = grind (arith, nat_tests)

either : (b c : Bool) → cond b true c ≡ (b || c)
either true c = refl
either false c = refl

-- an empty set has none
pub set-none : (set : BTreeSet ℕ) → IsEmpty set → (i : ℕ) → contains nat_cmp set i ≡ false
set-none set e i = ap (λ ks. list_any (λ x. is_eq (nat_cmp i x)) ks) e

-- a leaf enters a set
pub set-more : (g k : ℕ → Bool) (i : ℕ) → ((j : ℕ) → k j ≡ cond (is_eq (nat_cmp i j)) true (g j)) → (j : ℕ) → k j ≡ ((j == i) || g j)
set-more g k i h j = h j ∙ either (is_eq (nat_cmp i j)) (g j) ∙ ap (λ b. b || g j) (equal_numbers i j)

-- what an insertion into a set answers of a new number
pub unmet : (a b : Bool) → a ≡ not b → a ≡ true → b ≡ false
unmet a true e f = absurd (false≢true (sym e ∙ f))
unmet a false e f = refl

-- and of one that is there
pub met : (a b : Bool) → a ≡ not b → a ≡ false → b ≡ true
met a true e f = refl
met a false e f = absurd (false≢true (sym f ∙ e))
