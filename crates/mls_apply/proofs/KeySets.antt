-- Encryption keys in a set, each after its fingerprint, for a walk along the list of the Adds that have them.
use Rattle.std.proofs.Common.{◌≡◌, ◌∙◌, ℕ, List, [], ◌∷◌, ◌++◌, Bool, true, false, cond, not, Bor, Ordering, BTreeSet, refl, sym, ap}
use Rattle.std.specs.Prelude.{◌==◌, ◌&&◌, ◌||◌}
use Rattle.std.specs.List.{list_any}
use Rattle.std.specs.Str.{bytes_eq}
use Rattle.std.specs.Ordering.{nat_cmp, is_eq, ordering_then}
use Rattle.std.specs.Cmp.{unsigned_ties}
use Rattle.std.specs.Cmp.Lexicographic.{slice_cmp}
use Rattle.std.specs.BTreeMap.{is_at}
use Rattle.std.specs.BTreeSet.{contains, IsEmpty}
use Rattle.std.proofs.lemmas.Bool.{false≢true}
use Rattle.std.proofs.lemmas.Bool.Decides.{Decides-eqb}
use Rattle.std.proofs.lemmas.Map.Text.{is_eq-slice_cmp}
use Rattle.std.proofs.lemmas.Slice.Eq.{bytes_eq-Decides}
use Rattle.mls_nodes.specs.Fingerprints.{fingerprint}
use Rattle.mls_check.specs.DistinctKeys.{has_key, are_distinct}
use Rattle.mls_apply.proofs.PskSets.{and_false, is_eq-then}

-- a number and a key, as a set holds them
abbrev pub Entry : Type 0
Entry = ℕ × Bor (List ℕ)

-- their order
abbrev pub by_number : Entry → Entry → Ordering
by_number a b = ordering_then (nat_cmp a.0 b.0) (slice_cmp nat_cmp a.1.now b.1.now)

-- the number is the fingerprint of the key
abbrev pub HasFingerprint : Entry → Type 0
HasFingerprint e = e.0 ≡ fingerprint e.1.now

-- equal keys have equal fingerprints
number_alike : (x y : List ℕ) → ((fingerprint x == fingerprint y) && bytes_eq x y) ≡ bytes_eq x y
number_alike x y = go (bytes_eq x y) refl
  where
    go : (b : Bool) → bytes_eq x y ≡ b → ((fingerprint x == fingerprint y) && b) ≡ b
    go true e = ap (λ c. c && true) ((Decides-eqb (fingerprint x) (fingerprint y)).1 (ap fingerprint ((bytes_eq-Decides x y).0 e)))
    go false e = and_false (fingerprint x == fingerprint y)

by_number-same : (a b : Entry) → HasFingerprint a → HasFingerprint b → is_eq (by_number a b) ≡ bytes_eq a.1.now b.1.now
by_number-same a b p q =
    is_eq-then (nat_cmp a.0 b.0) (slice_cmp nat_cmp a.1.now b.1.now)
    ∙ (λ i. sym (unsigned_ties a.0 b.0) i && is_eq-slice_cmp a.1.now b.1.now i)
    ∙ (λ i. (p i == q i) && bytes_eq a.1.now b.1.now)
    ∙ number_alike a.1.now b.1.now

either : (b c : Bool) → (b || c) ≡ cond b true c
either true c = refl
either false c = refl

-- ---- lists with one more

any_more : (f : List ℕ → Bool) (xs : List (List ℕ)) (y : List ℕ) → list_any f (xs ++ y ∷ []) ≡ (f y || list_any f xs)
any_more f [] y = refl
any_more f (x ∷ xs) y = ap (λ b. f x || b) (any_more f xs y) ∙ swapped (f x) (f y) (list_any f xs)
  where
    swapped : (a b c : Bool) → (a || (b || c)) ≡ (b || (a || c))
    swapped true true c = refl
    swapped true false c = refl
    swapped false b c = refl

any_there : (f : List ℕ → Bool) (xs : List (List ℕ)) (y : List ℕ) (rest : List (List ℕ)) → f y ≡ true → list_any f (xs ++ y ∷ rest) ≡ true
any_there f [] y rest e = ap (λ b. b || list_any f rest) e
any_there f (x ∷ xs) y rest e = ap (λ b. f x || b) (any_there f xs y rest e) ∙ or_true (f x)
  where
    or_true : (b : Bool) → (b || true) ≡ true
    or_true true = refl
    or_true false = refl

has_more : (xs : List (List ℕ)) (y k : List ℕ) → has_key (xs ++ y ∷ []) k ≡ cond (bytes_eq y k) true (has_key xs k)
has_more xs y k = any_more (λ x. bytes_eq x k) xs y ∙ either (bytes_eq y k) (has_key xs k)

-- keys that differ do so in either order
other_way : (a b : List ℕ) → bytes_eq a b ≡ false → bytes_eq b a ≡ false
other_way a b e = go (bytes_eq b a) refl
  where
    go : (c : Bool) → bytes_eq b a ≡ c → c ≡ false
    go true f = absurd (false≢true (sym e ∙ (bytes_eq-Decides a b).1 (sym ((bytes_eq-Decides b a).0 f))))
    go false f = refl

same_way : (a b : List ℕ) → bytes_eq a b ≡ true → bytes_eq b a ≡ true
same_way a b e = (bytes_eq-Decides b a).1 (sym ((bytes_eq-Decides a b).0 e))

-- none is there twice where the last one isn't there before
distinct_more : (xs : List (List ℕ)) (y : List ℕ) → are_distinct xs ≡ true → has_key xs y ≡ false → are_distinct (xs ++ y ∷ []) ≡ true
unfolding are_distinct
distinct_more [] y d m = refl
distinct_more (x ∷ xs) y d m =
    let first = none_of (bytes_eq x y) (has_key xs y) m in
    let parts = both (not (has_key xs x)) (are_distinct xs) d in
    ap (λ b. not b && are_distinct (xs ++ y ∷ [])) (any_more (λ z. bytes_eq z x) xs y)
    ∙ ap (λ b. not (b || has_key xs x) && are_distinct (xs ++ y ∷ [])) (other_way x y first.0)
    ∙ ap (λ b. b && are_distinct (xs ++ y ∷ [])) parts.0
    ∙ distinct_more xs y parts.1 first.1
  where
    none_of : (a b : Bool) → (a || b) ≡ false → (a ≡ false) × (b ≡ false)
    none_of true b e = absurd (false≢true (sym e))
    none_of false b e = (refl, e)

    both : (a b : Bool) → (a && b) ≡ true → (a ≡ true) × (b ≡ true)
    both true b e = (refl, e)
    both false b e = absurd (false≢true e)

-- one is there twice where it is there before
not_distinct : (xs : List (List ℕ)) (y : List ℕ) (rest : List (List ℕ)) → has_key xs y ≡ true → are_distinct (xs ++ y ∷ rest) ≡ false
unfolding are_distinct
not_distinct [] y rest m = absurd (false≢true m)
not_distinct (x ∷ xs) y rest m = go (bytes_eq x y) refl (not_distinct xs y rest)
  where
    go : (b : Bool) → bytes_eq x y ≡ b → (has_key xs y ≡ true → are_distinct (xs ++ y ∷ rest) ≡ false)
        → (not (has_key (xs ++ y ∷ rest) x) && are_distinct (xs ++ y ∷ rest)) ≡ false
    go true e below = ap (λ b. not b && are_distinct (xs ++ y ∷ rest)) (any_there (λ z. bytes_eq z x) xs y rest (same_way x y e))
    go false e below =
        ap (λ b. not (has_key (xs ++ y ∷ rest) x) && b) (below (sym (ap (λ b. b || has_key xs y) e) ∙ m))
        ∙ and_false (not (has_key (xs ++ y ∷ rest) x))

-- ---- a walk along the list

-- those of the list before are distinct, and the set has them
pub record IsWalked (before : List (List ℕ)) (set : BTreeSet Entry) : Type 0 where
  pub distinct : are_distinct before ≡ true
  pub all : (e : Entry) → HasFingerprint e → contains by_number set e ≡ has_key before e.1.now

pub walk-start : (set : BTreeSet Entry) → IsEmpty set → IsWalked [] set
unfolding are_distinct
walk-start set empty = record {
  distinct = refl;
  all = λ e h. ap (λ (es : List Entry). list_any (is_at (by_number e)) es) empty;
}

opposite : (a b : Bool) → a ≡ not b → a ≡ true → b ≡ false
opposite a true e f = absurd (false≢true (sym e ∙ f))
opposite a false e f = refl

met_before : (a b : Bool) → a ≡ not b → a ≡ false → b ≡ true
met_before a true e f = refl
met_before a false e f = absurd (false≢true (sym f ∙ e))

module _ (before : List (List ℕ)) (set : BTreeSet Entry) (known : IsWalked before set) (e : Entry) (number : HasFingerprint e) where
  -- one more, which the set has not
  pub walk-next : (new : BTreeSet Entry) (b : Bool) → b ≡ not (contains by_number set e) → b ≡ true
      → ((q : Entry) → contains by_number new q ≡ cond (is_at (by_number e) q) true (contains by_number set q)) → IsWalked (before ++ e.1.now ∷ []) new
  walk-next new b was f added = record {
    distinct = distinct_more before e.1.now known.distinct (sym (known.all e number) ∙ opposite b (contains by_number set e) was f);
    all = λ q h.
        added q
        ∙ (λ i. cond (by_number-same e q number h i) true (known.all q h i))
        ∙ sym (has_more before e.1.now q.1.now);
  }

  -- one that the set has
  pub walk-met : (b : Bool) → b ≡ not (contains by_number set e) → b ≡ false → (rest : List (List ℕ)) → are_distinct (before ++ e.1.now ∷ rest) ≡ false
  walk-met b was f rest = not_distinct before e.1.now rest (sym (known.all e number) ∙ met_before b (contains by_number set e) was f)
