-- The marked elements of a list, moved to its front one after the other.
use Rattle.std.proofs.Common.{◌≡◌, ◌∙◌, ℕ, ◌+◌, ◌<◌, ◌≤◌, List, [], ◌∷◌, ◌++◌, take, drop, length, get_or, set, Bool, true, false, cond, refl, sym, ap, subst, arith, append-nil, inl, inr}
use Rattle.std.specs.Prelude.{swap}
use Rattle.std.proofs.lemmas.Bool.{cases_lt}
use Rattle.std.proofs.lemmas.List.{drop-drop, drop-set-lt, get_or-drop, length-set, length-take-le, take_all, take_more, take_more_set, take-set, take-set-le}
use Rattle.std.proofs.lemmas.List.Edits.{swap_is, length-swap}
use Rattle.mls_signatures.specs.Marks.{marked}
use Rattle.mls_signatures.proofs.DuplicateMarks.{marked_more}

-- ---- an element that is moved to the front

front-itself : {X : Type 0} (ys : List X) (i : ℕ) (d : X) → i < length ys
    → take (i + 1) (set (set ys i (get_or ys i d)) i (get_or ys i d)) ≡ take i ys ++ get_or ys i d ∷ []
front-itself ys i d high =
    take_more_set (set ys i (get_or ys i d)) i (get_or ys i d) (omega (arith, high, length-set ys i (get_or ys i d)))
    ∙ ap (λ zs. zs ++ get_or ys i d ∷ []) (take-set ys i (get_or ys i d))

front-sets : {X : Type 0} (ys : List X) (k i : ℕ) (d : X) → k ≤ i → i < length ys
    → take (k + 1) (set (set ys k (get_or ys i d)) i (get_or ys k d)) ≡ take k ys ++ get_or ys i d ∷ []
front-sets ys k i d low high = elim (cases_lt k i) [
  | inl before ↦
      take-set-le (k + 1) (set ys k (get_or ys i d)) i (get_or ys k d) (omega (arith, before)) ∙ take_more_set ys k (get_or ys i d) (omega (arith, before, high))
  | inr after ↦
      let same : i ≡ k = omega (arith, low, after) in
      subst (λ n. take (n + 1) (set (set ys n (get_or ys i d)) i (get_or ys n d)) ≡ take n ys ++ get_or ys i d ∷ []) same (front-itself ys i d high)
]

module _ {X : Type 0} (ys : List X) (k i : ℕ) (d : X) (low : k ≤ i) (high : i < length ys) where
  sets-is : set (set ys k (get_or ys i d)) i (get_or ys k d) ≡ swap ys k i
  sets-is = swap_is ys k i d (omega (arith, low, high)) high

  front-swap : take (k + 1) (swap ys k i) ≡ take k ys ++ get_or ys i d ∷ []
  front-swap = ap (take (k + 1)) (sym sets-is) ∙ front-sets ys k i d low high

  rest-swap : drop (i + 1) (swap ys k i) ≡ drop (i + 1) ys
  rest-swap =
      ap (drop (i + 1)) (sym sets-is)
      ∙ drop-set-lt (i + 1) (set ys k (get_or ys i d)) i (get_or ys k d) (omega arith)
      ∙ drop-set-lt (i + 1) ys k (get_or ys i d) (omega (arith, low))

-- ---- the elements so far

-- of the first i of `xs`, those that are marked are the first k of `ys`
pub record Keeps {X : Type 0} (xs : List X) (marks : List Bool) (i k : ℕ) (ys : List X) : Type 0 where
  pub front : take k ys ≡ marked (take i marks) (take i xs)
  pub rest : drop i ys ≡ drop i xs
  pub behind : k ≤ i
  pub long : length ys ≡ length xs

pub keeps-start : {X : Type 0} (xs : List X) (marks : List Bool) → Keeps xs marks 0 0 xs
keeps-start xs marks = record { front = refl; rest = refl; behind = omega arith; long = refl }

module _ {X : Type 0} (xs : List X) (marks : List Bool) (i k : ℕ) (ys : List X) (known : Keeps xs marks i k ys) (count : length marks ≡ length xs) (within : i < length marks)
    (b : Bool) (is : get_or marks i false ≡ b) where
  more-marked : (d : X) → marked (take (i + 1) marks) (take (i + 1) xs) ≡ marked (take i marks) (take i xs) ++ cond b (get_or xs i d ∷ []) []
  more-marked d =
      (λ j. marked (take_more marks i false within j) (take_more xs i d (omega (arith, count, within)) j))
      ∙ ap (λ c. marked (take i marks ++ c ∷ []) (take i xs ++ get_or xs i d ∷ [])) is
      ∙ marked_more (take i marks) (take i xs) b (get_or xs i d)
      (length-take-le i marks (omega (arith, within)) ∙ sym (length-take-le i xs (omega (arith, count, within))))

  here : (d : X) → get_or ys i d ≡ get_or xs i d
  here d =
      let at : i ≡ i + 0 = omega arith in
      ap (λ n. get_or ys n d) at
      ∙ sym (get_or-drop i ys 0 d)
      ∙ ap (λ zs. get_or zs 0 d) known.rest
      ∙ get_or-drop i xs 0 d
      ∙ ap (λ n. get_or xs n d) (sym at)

  rest-more : drop (i + 1) ys ≡ drop (i + 1) xs
  rest-more = sym (drop-drop 1 i ys) ∙ ap (drop 1) known.rest ∙ drop-drop 1 i xs

  yes-at : (d : X) → b ≡ true → Keeps xs marks (i + 1) (k + 1) (swap ys k i)
  yes-at d e =
      let behind = known.behind in
      let long = known.long in
      let high : i < length ys = omega (arith, within, count, long) in
      record {
        front =
            front-swap ys k i d behind high
            ∙ (λ j. known.front j ++ here d j ∷ [])
            ∙ ap (λ c. marked (take i marks) (take i xs) ++ cond c (get_or xs i d ∷ []) []) (sym e)
            ∙ sym (more-marked d);
        rest = rest-swap ys k i d behind high ∙ rest-more;
        behind = omega (arith, behind);
        long = length-swap ys k i ∙ long;
      }

  no-at : (d : X) → b ≡ false → Keeps xs marks (i + 1) k ys
  no-at d e =
      let behind = known.behind in
      record {
        front =
            known.front
            ∙ sym (append-nil (marked (take i marks) (take i xs)))
            ∙ ap (λ c. marked (take i marks) (take i xs) ++ cond c (get_or xs i d ∷ []) []) (sym e)
            ∙ sym (more-marked d);
        rest = rest-more;
        behind = omega (arith, behind);
        long = known.long;
      }

-- a list that is not empty has an element
some-element : {X : Type 0} {P : Type 0} (xs : List X) → 0 < length xs → (X → P) → P
some-element [] low f = absurd (omega (arith, low))
some-element (x ∷ xs) low f = f x

module _ {X : Type 0} (xs : List X) (marks : List Bool) (i k : ℕ) (ys : List X) (known : Keeps xs marks i k ys) (count : length marks ≡ length xs) (within : i < length marks)
    (b : Bool) (is : get_or marks i false ≡ b) where
  pub keeps-yes : b ≡ true → Keeps xs marks (i + 1) (k + 1) (swap ys k i)
  keeps-yes e = some-element xs (omega (arith, count, within)) (λ d. yes-at xs marks i k ys known count within b is d e)

  pub keeps-no : b ≡ false → Keeps xs marks (i + 1) k ys
  keeps-no e = some-element xs (omega (arith, count, within)) (λ d. no-at xs marks i k ys known count within b is d e)

pub keeps-all : {X : Type 0} (xs : List X) (marks : List Bool) (i k : ℕ) (ys : List X) → Keeps xs marks i k ys → length marks ≡ length xs → length marks ≤ i → take k ys ≡ marked marks xs
keeps-all xs marks i k ys known count end =
    known.front ∙ (λ j. marked (take_all i marks end j) (take_all i xs (omega (arith, count, end)) j))
