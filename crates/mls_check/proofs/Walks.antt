-- Rising lists walked together with other numbers: what is left of a list after its front, in which each number is below all that are to come.
use Rattle.std.proofs.Common.{◌≡◌, ◌≢◌, ◌∙◌, ℕ, zero, suc, ◌+◌, ◌*◌, ◌/◌, ◌%◌, ◌<◌, ◌≤◌, List, [], ◌∷◌, ◌++◌, Some, Bool, true, false, refl, sym, ap, subst, arith, inl, inr, length, get_or, take, append_assoc}
use Rattle.std.specs.Prelude.{All, IfSome, slice_get, ◌==◌, ◌&&◌}
use Rattle.std.specs.List.{Contains, list_all, list_any}
use Rattle.std.specs.List.Sorted.{IsStrictlyIncreasing}
use Rattle.std.proofs.lemmas.List.Elements.{All-nil, All-cons, All-head, All-tail, All-from_get_or, All-contains, Contains-append_cases, Contains-append_right, Contains-get_or}
use Rattle.std.proofs.lemmas.Bool.{cases_Bool, false≢true}
use Rattle.std.proofs.lemmas.List.Folds.{list_all_more}
use Rattle.std.proofs.lemmas.List.Kept.{AllPairs-from_increasing}
use Rattle.std.proofs.lemmas.List.{length-append, get_or_append_left}
use Rattle.std.proofs.lemmas.Option.{none-some, same_Some}
use Rattle.mls_check.specs.ParentHashMarks.{RisesInLeaves, IsLeafInList}
use Rattle.mls_check.proofs.Elements.{contains-nil, contains-cons, contains-head, all-each, found-at}

pub increasing-tail : (x : ℕ) (xs : List ℕ) → IsStrictlyIncreasing (x ∷ xs) → IsStrictlyIncreasing xs
increasing-tail x xs h k lt =
    let a = h (suc k) (omega (arith, lt)) in
    let n : suc k + 1 ≡ suc (k + 1) = omega arith in
    let e : get_or (x ∷ xs) (suc k + 1) 0 ≡ get_or xs (k + 1) 0 = ap (λ i. get_or (x ∷ xs) i 0) n in
    omega (arith, a, e)

increasing-right : (xs ys : List ℕ) → IsStrictlyIncreasing (xs ++ ys) → IsStrictlyIncreasing ys
increasing-right [] ys h = h
increasing-right (x ∷ xs) ys h = increasing-right xs ys (increasing-tail x (xs ++ ys) h)

increasing-left : (xs ys : List ℕ) → IsStrictlyIncreasing (xs ++ ys) → IsStrictlyIncreasing xs
increasing-left xs ys h k lt =
    let a = h k (omega (arith, lt, length-append xs ys)) in
    let b = get_or_append_left xs ys 0 k (omega (arith, lt)) in
    let c = get_or_append_left xs ys 0 (k + 1) lt in
    omega (arith, a, b, c)

pub increasing-above : (x : ℕ) (xs : List ℕ) (y : ℕ) → IsStrictlyIncreasing (x ∷ xs) → Contains xs y → x < y
increasing-above x xs y h c =
    let k = AllPairs-from_increasing (x ∷ xs) h 0 (suc c.0) y (omega arith) (omega (arith, c.1)) in
    let e = c.2 in
    omega (arith, k, e)

-- the rest of a list; the numbers before it are below all that are to come
pub record IsLeft (Coming : ℕ → Type 0) (list rest : List ℕ) : Type 0 where
  pub front : List ℕ
  pub whole : list ≡ front ++ rest
  pub below : (x n : ℕ) → Contains front x → Coming n → x < n

pub fewer-coming : (Coming Later : ℕ → Type 0) (list rest : List ℕ) → ((n : ℕ) → Later n → Coming n) → IsLeft Coming list rest → IsLeft Later list rest
fewer-coming Coming Later list rest f h = record { front = h.front; whole = h.whole; below = λ x n c l. h.below x n c (f n l) }

-- the rest is split at a number that is to come
module _ (Coming : ℕ → Type 0) (list rest before after : List ℕ) (n : ℕ) (left : IsLeft Coming list rest)
    (split : rest ≡ before ++ after) (low : All (λ x. x < n) before) (high : IfSome (slice_get after 0) (λ x. n ≤ x)) (coming : Coming n) where
  whole : list ≡ (left.front ++ before) ++ after
  whole = left.whole ∙ ap (λ ys. left.front ++ ys) split ∙ sym (append_assoc left.front before after)

  front-low : (x : ℕ) → Contains (left.front ++ before) x → x < n
  front-low x c = elim (Contains-append_cases left.front before x c) [ inl a ↦ left.below x n a coming | inr b ↦ All-contains (λ x. x < n) before x low b ]

  -- what is after the split is left for what is to come from there
  pub left-after : (Later : ℕ → Type 0) → ((m : ℕ) → Later m → n ≤ m) → IsLeft Later list after
  left-after Later f = record { front = left.front ++ before; whole = whole; below = λ x m c l. (let k = front-low x c in let j = f m l in omega (arith, k, j)) }

  -- the number is in the list where it is the first after the split
  pub met : slice_get after 0 ≡ Some n → Contains list n
  met e = subst (λ xs. Contains xs n) (sym whole) (Contains-append_right (left.front ++ before) after n (first after e))
    where
      first : (after : List ℕ) → slice_get after 0 ≡ Some n → Contains after n
      first [] e = absurd (none-some n e)
      first (x ∷ xs) e = subst (λ k. Contains (x ∷ xs) k) (same_Some x n e) (contains-head x xs)

  pub unmet : IsStrictlyIncreasing list → slice_get after 0 ≢ Some n → ¬ Contains list n
  unmet increasing e c =
      elim (Contains-append_cases (left.front ++ before) after n (subst (λ xs. Contains xs n) whole c)) [
        | inl a ↦ (let k = front-low n a in omega (arith, k))
        | inr b ↦ past after high e (increasing-right (left.front ++ before) after (subst (λ xs. IsStrictlyIncreasing xs) whole increasing)) b
      ]
    where
      past : (after : List ℕ) → IfSome (slice_get after 0) (λ x. n ≤ x) → slice_get after 0 ≢ Some n → IsStrictlyIncreasing after → ¬ Contains after n
      past [] h e r b = contains-nil n b
      past (x ∷ xs) h e r b =
          elim (contains-cons x xs n b) [ inl a ↦ e (ap Some a) | inr c ↦ (let k = increasing-above x xs n r c in omega (arith, k, h)) ]

-- ---- two rising lists, walked together

-- the numbers of a list from position i on
abbrev pub Among : List ℕ → ℕ → ℕ → Type 0
Among xs i n = (j : ℕ) × (i ≤ j) × (j < length xs) × (get_or xs j 0 ≡ n)

pub here-among : (xs : List ℕ) (i : ℕ) → i < length xs → Among xs i (get_or xs i 0)
here-among xs i l = (i, omega arith, l, refl)

pub increasing-among : (xs : List ℕ) (i : ℕ) → IsStrictlyIncreasing xs → (n : ℕ) → Among xs (i + 1) n → get_or xs i 0 ≤ n
increasing-among xs i h n w = let k = AllPairs-from_increasing xs h i w.0 0 (omega (arith, w.1)) w.2 in let e = w.3 in omega (arith, k, e)

pub all-so-far : (f : ℕ → Bool) (xs : List ℕ) (i : ℕ) → i < length xs → list_all f (take i xs) ≡ true → f (get_or xs i 0) ≡ true → list_all f (take (i + 1) xs) ≡ true
all-so-far f xs i l a b = list_all_more f xs i 0 l ∙ ap (λ r. r && f (get_or xs i 0)) a ∙ b

pub one-fails : (f : ℕ → Bool) (xs : List ℕ) (i : ℕ) → i < length xs → (f (get_or xs i 0) ≡ true → ⊥) → false ≡ list_all f xs
one-fails f xs i l n =
    elim (cases_Bool (list_all f xs)) [ inl t ↦ absurd (n (all-each f xs (get_or xs i 0) t (Contains-get_or xs i 0 l))) | inr e ↦ sym e ]

pub contained : (list : List ℕ) (n : ℕ) → Contains list n → list_any (λ x. x == n) list ≡ true
contained list n c = found-at list n c.0 c.1 c.2

-- ---- a list split at a number

-- a rising list whose first number is not below n has none below n
pub all-from : (n : ℕ) (xs : List ℕ) → IsStrictlyIncreasing xs → IfSome (slice_get xs 0) (λ x. n ≤ x) → All (λ x. n ≤ x) xs
all-from n [] h e = All-nil (λ x. n ≤ x)
all-from n (x ∷ xs) h e =
    All-cons (λ x. n ≤ x) x xs e (All-from_get_or (λ x. n ≤ x) xs 0 (λ i l. (let k = increasing-above x xs (get_or xs i 0) h (Contains-get_or xs i 0 l) in omega (arith, k, e))))

-- both parts rise
pub left-rises : (xs before after : List ℕ) → xs ≡ before ++ after → IsStrictlyIncreasing xs → IsStrictlyIncreasing before
left-rises xs before after e h = increasing-left before after (subst (λ ys. IsStrictlyIncreasing ys) e h)

pub right-rises : (xs before after : List ℕ) → xs ≡ before ++ after → IsStrictlyIncreasing xs → IsStrictlyIncreasing after
right-rises xs before after e h = increasing-right before after (subst (λ ys. IsStrictlyIncreasing ys) e h)

and-swap : (a b c d : Bool) → ((a && b) && (c && d)) ≡ ((a && c) && (b && d))
and-swap true true c d = refl
and-swap true false true d = refl
and-swap true false false d = refl
and-swap false b c d = refl

-- a test of two parts
pub list_all-and : (f g : ℕ → Bool) (xs : List ℕ) → list_all (λ i. f i && g i) xs ≡ (list_all f xs && list_all g xs)
list_all-and f g [] = refl
list_all-and f g (x ∷ xs) = ap (λ r. (f x && g x) && r) (list_all-and f g xs) ∙ and-swap (f x) (g x) (list_all f xs) (list_all g xs)

-- tests that agree on the numbers of a list
pub list_all-same : (f g : ℕ → Bool) (xs : List ℕ) → All (λ i. f i ≡ g i) xs → list_all f xs ≡ list_all g xs
list_all-same f g [] h = refl
list_all-same f g (x ∷ xs) h =
    ap (λ a. a && list_all f xs) (All-head (λ i. f i ≡ g i) x xs h) ∙ ap (λ r. g x && r) (list_all-same f g xs (All-tail (λ i. f i ≡ g i) x xs h))

-- a test that every number passes
pub all-true : (xs : List ℕ) → list_all (λ i. true) xs ≡ true
all-true [] = refl
all-true (x ∷ xs) = all-true xs

pub not-empty : (xs : List ℕ) → (length xs == 0) ≡ false → 0 < length xs
not-empty [] e = absurd (false≢true (sym e))
not-empty (x ∷ xs) e = omega arith

-- ---- places, walked together with a rising list of leaves

-- the leaves of a list of places from position i on
abbrev pub LeavesOf : List ℕ → ℕ → ℕ → Type 0
LeavesOf ps i n = (j : ℕ) × (i ≤ j) × (j < length ps) × (get_or ps j 0 ≡ 2 * n)

pub rises-at : (ps : List ℕ) → RisesInLeaves ps → (i j : ℕ) → i < j → j < length ps → get_or ps i 0 % 2 ≡ 0 → get_or ps j 0 % 2 ≡ 0 → get_or ps i 0 < get_or ps j 0
rises-at [] h i j a b e f = absurd (omega (arith, b))
rises-at (p ∷ ps) h i zero a b e f = absurd (omega (arith, a))
rises-at (p ∷ ps) h zero (suc j) a b e f = h.0 e (get_or ps j 0) (Contains-get_or ps j 0 (omega (arith, b))) f
rises-at (p ∷ ps) h (suc i) (suc j) a b e f = rises-at ps h.1 i j (omega (arith, a)) (omega (arith, b)) e f

pub leaf-here : (ps : List ℕ) (i : ℕ) → i < length ps → get_or ps i 0 % 2 ≡ 0 → LeavesOf ps i (get_or ps i 0 / 2)
leaf-here ps i l e = (i, omega arith, l, omega (arith, e))

pub later-leaves : (ps : List ℕ) (i n : ℕ) → LeavesOf ps (i + 1) n → LeavesOf ps i n
later-leaves ps i n w = (w.0, omega (arith, w.1), w.2, w.3)

pub increasing-leaves : (ps : List ℕ) (i : ℕ) → RisesInLeaves ps → get_or ps i 0 % 2 ≡ 0 → (n : ℕ) → LeavesOf ps (i + 1) n → get_or ps i 0 / 2 ≤ n
increasing-leaves ps i h e n w =
    let f = w.3 in
    let k = rises-at ps h i w.0 (omega (arith, w.1)) w.2 e (omega (arith, f)) in
    omega (arith, k, f, e)

-- the walk comes to the place of a leaf
module _ (ps list rest before after : List ℕ) (i : ℕ) (inside : i < length ps) (even : get_or ps i 0 % 2 ≡ 0) (left : IsLeft (LeavesOf ps i) list rest)
    (split : rest ≡ before ++ after) (low : All (λ x. x < get_or ps i 0 / 2) before) (high : IfSome (slice_get after 0) (λ x. get_or ps i 0 / 2 ≤ x)) where
  pub leaf-left : RisesInLeaves ps → IsLeft (LeavesOf ps (i + 1)) list after
  leaf-left h =
      left-after (LeavesOf ps i) list rest before after (get_or ps i 0 / 2) left split low high (leaf-here ps i inside even) (LeavesOf ps (i + 1)) (increasing-leaves ps i h even)

  pub leaf-listed : slice_get after 0 ≡ Some (get_or ps i 0 / 2) → IsLeafInList list (get_or ps i 0)
  leaf-listed e = (get_or ps i 0 / 2, met (LeavesOf ps i) list rest before after (get_or ps i 0 / 2) left split low high (leaf-here ps i inside even) e, omega (arith, even))

  pub leaf-unlisted : IsStrictlyIncreasing list → slice_get after 0 ≢ Some (get_or ps i 0 / 2) → ¬ IsLeafInList list (get_or ps i 0)
  leaf-unlisted h n w =
      let e = w.2 in
      let child : w.0 ≡ get_or ps i 0 / 2 = omega (arith, e) in
      unmet (LeavesOf ps i) list rest before after (get_or ps i 0 / 2) left split low high (leaf-here ps i inside even) h n (subst (λ k. Contains list k) child w.1)

-- the walk comes to the place of a parent
pub parent-unlisted : (list : List ℕ) (p : ℕ) → p % 2 ≢ 0 → ¬ IsLeafInList list p
parent-unlisted list p odd w = let e = w.2 in odd (omega (arith, e))

pub parent-left : (ps list rest : List ℕ) (i : ℕ) → IsLeft (LeavesOf ps i) list rest → IsLeft (LeavesOf ps (i + 1)) list rest
parent-left ps list rest i h = fewer-coming (LeavesOf ps i) (LeavesOf ps (i + 1)) list rest (later-leaves ps i) h
