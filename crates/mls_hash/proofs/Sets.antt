-- Membership in a sorted list, by binary search, and in its parts.
use Rattle.std.proofs.Common.{◌≡◌, ℕ, suc, ◌+◌, ◌<◌, ◌≤◌, ◌||◌, false, List, [], ◌∷◌, ◌++◌, length, get_or, eqb, Result, Ok, Err, refl, sym, ap, subst, ◌∙◌, inl, inr, length-append, arith}
use Rattle.std.specs.Prelude.{All, IfSome, MatchResult, is_ok, slice_get}
use Rattle.std.specs.List.Sorted.{IsNonDecreasing}
use Rattle.std.proofs.lemmas.Bool.{cases_lt, ne_eqb, eq-eqb}
use Rattle.std.proofs.Math.Bool.{or-false}
use Rattle.std.proofs.Math.ListN.{get_or-append}
use Rattle.std.proofs.lemmas.List.{get_or-append-add}
use Rattle.std.proofs.lemmas.List.Folds.{list_any_at, list_any-append}
use Rattle.mls_hash.specs.WithoutLeaves.{is_among}

none_equal : (xs : List ℕ) (x : ℕ) → ((k : ℕ) → k < length xs → get_or xs k 0 ≡ x → ⊥) → is_among xs x ≡ false
none_equal [] x h = refl
none_equal (y ∷ ys) x h =
    let here : eqb y x ≡ false = ne_eqb y x (h 0 (omega arith)) in
    rw here (none_equal ys x (λ k lt. h (suc k) (omega arith)))

-- what a search returns
pub found : (xs : List ℕ) (x : ℕ) (r : Result ℕ ℕ)
    → MatchResult r (λ i. (i < length xs) × (get_or xs i 0 ≡ x)) (λ i. (i ≤ length xs) × ((k : ℕ) → k < i → get_or xs k 0 < x) × ((k : ℕ) → i ≤ k → k < length xs → x < get_or xs k 0))
    → is_ok r ≡ is_among xs x
found xs x (Ok i) s = sym (list_any_at (λ y. eqb y x) xs i 0 s.0 (eq-eqb (get_or xs i 0) x s.1))
found xs x (Err i) s =
    sym (none_equal xs x (λ k lt e. elim (cases_lt k i) [ inl before ↦ (let a = s.1 k before in omega arith) | inr after ↦ (let a = s.2 k after lt in omega arith) ]))

-- the rest of a list that doesn't fall
pub rest_rises : (front rest xs : List ℕ) → xs ≡ front ++ rest → IsNonDecreasing xs → IsNonDecreasing rest
rest_rises front rest xs e up i j d le lt =
    let at : (k : ℕ) → get_or xs (length front + k) d ≡ get_or rest k d = λ k. ap (λ (ys : List ℕ). get_or ys (length front + k) d) e ∙ get_or-append-add front rest k d in
    let long : length xs ≡ length front + length rest = ap length e ∙ length-append front rest in
    omega (arith, up (length front + i) (length front + j) d (omega arith) (omega (arith, long)), at i, at j)

-- it has no number under its first
pub rest_from : (xs : List ℕ) (m : ℕ) → IsNonDecreasing xs → IfSome (slice_get xs 0) (λ i. m ≤ i) → All (λ i. m ≤ i) xs
rest_from [] m up first k d lt = absurd (omega arith)
rest_from (x ∷ xs) m up first k d lt = omega (arith, first, up 0 k d (omega arith) lt)

-- ---- parts of a list

pub front_has : (P : ℕ → Type 0) (xs front rest : List ℕ) → xs ≡ front ++ rest → All P xs → All P front
front_has P xs front rest e all k d lt =
    let here = all k d (omega (arith, ap length e, length-append front rest)) in
    subst P (ap (λ (ys : List ℕ). get_or ys k d) e ∙ get_or-append front rest d k lt) here

pub rest_has : (P : ℕ → Type 0) (xs front rest : List ℕ) → xs ≡ front ++ rest → All P xs → All P rest
rest_has P xs front rest e all k d lt =
    let here = all (length front + k) d (omega (arith, ap length e, length-append front rest)) in
    subst P (ap (λ (ys : List ℕ). get_or ys (length front + k) d) e ∙ get_or-append-add front rest k d) here

-- a number that no entry of a part equals is in the list if and only if it is in the other part
module _ (xs front rest : List ℕ) (e : xs ≡ front ++ rest) (i : ℕ) where
  parts : is_among xs i ≡ (is_among front i || is_among rest i)
  parts = ap (λ (ys : List ℕ). is_among ys i) e ∙ list_any-append (λ x. eqb x i) front rest

  pub among_front : All (λ x. i < x) rest → is_among xs i ≡ is_among front i
  among_front above =
      let none : is_among rest i ≡ false = none_equal rest i (λ k lt same. let a = above k 0 lt in omega arith) in
      parts ∙ ap (λ b. is_among front i || b) none ∙ or-false (is_among front i)

  pub among_rest : All (λ x. x < i) front → is_among xs i ≡ is_among rest i
  among_rest below =
      let none : is_among front i ≡ false = none_equal front i (λ k lt same. let a = below k 0 lt in omega arith) in
      parts ∙ ap (λ b. b || is_among rest i) none
