-- Numbers that bytes encode, the least byte first.
use Rattle.std.proofs.Common.{◌≡◌, ◌∙◌, ℕ, zero, suc, ◌+◌, ◌*◌, ◌/◌, ◌%◌, ◌^◌, ◌<◌, ◌≤◌, Bool, true, List, [], ◌∷◌, length, get_or, set, take, refl, sym, ap, inl, inr, arith}
use Rattle.std.specs.Prelude.{◌==◌, ◌&&◌, nat_le, nat_lt, map}
use Rattle.std.specs.List.{list_any}
use Rattle.std.specs.Str.{bytes_eq}
use Rattle.std.proofs.Math.Nat.{add-zero, div-add-mod', mod-lt, mul_assoc, mul_left_comm, mul-le-mul_left, mul-suc, one-le-pow, pow-succ'}
use Rattle.std.proofs.lemmas.Bool.{and_parts, eqb-true, le-leb, lt-leb, lt-ltb, le-ltb, cases_lt}
use Rattle.std.proofs.lemmas.Bool.Decides.{Decides-eqb, Decides-like, same_from_decides}
use Rattle.std.proofs.lemmas.Nat.{mod-mul-add}
use Rattle.std.proofs.lemmas.Slice.Eq.{bytes_eq-Decides}
use Rattle.mls_wire.specs.Parsing.{all_bytes}
use Rattle.mls_wire.specs.IntegersExact.{IsBytes, all_bytes_are}
use Rattle.mls_strict.specs.KeyForms.{le_number}

tail_bytes : (x : ℕ) (xs : List ℕ) → IsBytes (x ∷ xs) → IsBytes xs
tail_bytes x xs h i = h (suc i)

-- ---- one number, one list

first_digit : (x X y Y : ℕ) → x < 256 → y < 256 → x + 256 * X ≡ y + 256 * Y → (x ≡ y) × (X ≡ Y)
first_digit x X y Y p q e = (omega arith, omega arith)

pub le_number-injective : (xs ys : List ℕ) → length xs ≡ length ys → IsBytes xs → IsBytes ys → le_number xs ≡ le_number ys → xs ≡ ys
unfolding le_number
le_number-injective [] [] l p q e = refl
le_number-injective [] (y ∷ ys) l p q e = absurd (omega arith)
le_number-injective (x ∷ xs) [] l p q e = absurd (omega arith)
le_number-injective (x ∷ xs) (y ∷ ys) l p q e =
    let d = first_digit x (le_number xs) y (le_number ys) (p 0) (q 0) e in
    let same : x ≡ y = d.0 in
    let others : xs ≡ ys = le_number-injective xs ys (omega arith) (tail_bytes x xs p) (tail_bytes y ys q) d.1 in
    cc

same_number : (xs ys : List ℕ) → length xs ≡ length ys → IsBytes xs → IsBytes ys → bytes_eq xs ys ≡ (le_number xs == le_number ys)
same_number xs ys l p q =
    same_from_decides {P = xs ≡ ys} (bytes_eq xs ys) (le_number xs == le_number ys) (bytes_eq-Decides xs ys)
    (Decides-like (le_number xs == le_number ys) (λ e. le_number-injective xs ys l p q e) (λ e. ap le_number e) (Decides-eqb (le_number xs) (le_number ys)))

-- `are_bytes n cs`: each list has n bytes.
abbrev pub are_bytes : ℕ → List (List ℕ) → Bool
are_bytes n [] = true
are_bytes n (c ∷ cs) = (length c == n) && (all_bytes c && are_bytes n cs)

pub any_number : (key : List ℕ) → IsBytes key → (cs : List (List ℕ)) → are_bytes (length key) cs ≡ true
    → list_any (λ c. bytes_eq c key) cs ≡ list_any (λ u. u == le_number key) (map le_number cs)
any_number key p [] h = refl
any_number key p (c ∷ cs) h =
    let a = and_parts (length c == length key) (all_bytes c && are_bytes (length key) cs) h in
    let b = and_parts (all_bytes c) (are_bytes (length key) cs) a.1 in
    rw (same_number c key (eqb-true (length c) (length key) a.0) (all_bytes_are c b.0) p, any_number key p cs b.1) refl

-- ---- the top bit

times_digit : (q M r : ℕ) → 256 * (q * M + r) ≡ q * (256 * M) + 256 * r
times_digit q M r = grind (arith, mul_left_comm q 256 M)

split_off : (x Y M : ℕ) → x < 256 → 0 < M → (x + 256 * Y) % (256 * M) ≡ x + 256 * (Y % M)
split_off x Y M p pos =
    let r : Y % M < M = mod-lt Y pos in
    let low : x + 256 * (Y % M) < 256 * M = omega arith in
    let parts : 256 * Y ≡ Y / M * (256 * M) + 256 * (Y % M) = ap (λ n. 256 * n) (sym (div-add-mod' Y M)) ∙ times_digit (Y / M) M (Y % M) in
    let whole : x + 256 * Y ≡ Y / M * (256 * M) + (x + 256 * (Y % M)) = omega arith in
    rw whole (mod-mul-add (Y / M) (256 * M) (x + 256 * (Y % M)) low)

-- the weight of the top bit of byte n
abbrev pub top_bit : ℕ → ℕ
top_bit n = 128 * 256 ^ n

power-pos : (n : ℕ) → 0 < 256 ^ n
power-pos n = one-le-pow n 256 (omega arith)

top_bit-pos : (n : ℕ) → 0 < top_bit n
top_bit-pos n = let p : 0 < 256 ^ n = power-pos n in omega arith

top_bit-suc : (n : ℕ) → top_bit (suc n) ≡ 256 * top_bit n
top_bit-suc n = let e : 256 ^ suc n ≡ 256 * 256 ^ n = pow-succ' 256 n in omega arith

-- one byte more in front
same_order : (x Y M : ℕ) → x < 256 → nat_le (256 * M) (x + 256 * Y) ≡ nat_le M Y
same_order x Y M p =
    elim (cases_lt Y M) [
      | inl less ↦ lt-leb (256 * M) (x + 256 * Y) (omega arith) ∙ sym (lt-leb M Y less)
      | inr more ↦ le-leb (256 * M) (x + 256 * Y) (omega arith) ∙ sym (le-leb M Y more)
    ]

pub le_number-cleared : (n : ℕ) (xs : List ℕ) → length xs ≡ suc n → IsBytes xs
    → le_number (set xs n (get_or xs n 0 % 128)) ≡ le_number xs % top_bit n
unfolding le_number
le_number-cleared n [] l h = absurd (omega arith)
le_number-cleared zero (x ∷ []) l h = add-zero (x % 128) ∙ ap (λ n. n % 128) (sym (add-zero x))
le_number-cleared zero (x ∷ y ∷ ys) l h = absurd (omega arith)
le_number-cleared (suc n) (x ∷ xs) l h =
    rw (le_number-cleared n xs (omega arith) (tail_bytes x xs h), top_bit-suc n, split_off x (le_number xs) (top_bit n) (h 0) (top_bit-pos n)) refl

pub has_top_bit : (n : ℕ) (xs : List ℕ) → length xs ≡ suc n → IsBytes xs → nat_le (top_bit n) (le_number xs) ≡ nat_le 128 (get_or xs n 0)
unfolding le_number
has_top_bit n [] l h = absurd (omega arith)
has_top_bit zero (x ∷ []) l h = rw add-zero refl
has_top_bit zero (x ∷ y ∷ ys) l h = absurd (omega arith)
has_top_bit (suc n) (x ∷ xs) l h =
    rw (top_bit-suc n, same_order x (le_number xs) (top_bit n) (h 0)) (has_top_bit n xs (omega arith) (tail_bytes x xs h))

-- ---- one byte more at the end

le_number-below : (i : ℕ) (xs : List ℕ) → IsBytes xs → le_number (take i xs) < 256 ^ i
unfolding le_number
le_number-below zero xs h = omega arith
le_number-below (suc i) [] h = power-pos (suc i)
le_number-below (suc i) (x ∷ xs) h =
    let less : le_number (take i xs) < 256 ^ i = le_number-below i xs (tail_bytes x xs h) in
    let byte : x < 256 = h 0 in
    let e : 256 ^ suc i ≡ 256 * 256 ^ i = pow-succ' 256 i in
    omega arith

le_number-more : (i : ℕ) (xs : List ℕ) → i < length xs → le_number (take (suc i) xs) ≡ le_number (take i xs) + 256 ^ i * get_or xs i 0
unfolding le_number
le_number-more i [] l = absurd (omega arith)
le_number-more zero (x ∷ xs) l = omega arith
le_number-more (suc i) (x ∷ xs) l =
    let others = le_number-more i xs (omega arith) in
    let e : 256 ^ suc i * get_or xs i 0 ≡ 256 * (256 ^ i * get_or xs i 0) = rw (pow-succ' 256 i) (mul_assoc 256 (256 ^ i) (get_or xs i 0)) in
    rw others (omega arith)

top_less : (A B P x y : ℕ) → A < P → x < y → A + P * x < B + P * y
top_less A B P x y a less =
    let more : P * suc x ≤ P * y = mul-le-mul_left P less in
    omega (arith, mul-suc P x)

-- the order of two numbers, by the last bytes where these differ
pub top_differs : (i : ℕ) (xs ys : List ℕ) → i < length xs → i < length ys → IsBytes xs → IsBytes ys → (get_or xs i 0 ≡ get_or ys i 0 → ⊥)
    → nat_lt (le_number (take (suc i) xs)) (le_number (take (suc i) ys)) ≡ nat_lt (get_or xs i 0) (get_or ys i 0)
top_differs i xs ys l m p q differ =
    let X : ℕ = le_number (take i xs) in
    let Y : ℕ = le_number (take i ys) in
    let a : X < 256 ^ i = le_number-below i xs p in
    let b : Y < 256 ^ i = le_number-below i ys q in
    let x : ℕ = get_or xs i 0 in
    let y : ℕ = get_or ys i 0 in
    rw (le_number-more i xs l, le_number-more i ys m) (elim (cases_lt x y) [
      | inl less ↦ lt-ltb (X + 256 ^ i * x) (Y + 256 ^ i * y) (top_less X Y (256 ^ i) x y a less) ∙ sym (lt-ltb x y less)
      | inr more ↦
          let less : y < x = omega (arith, differ) in
          let above : Y + 256 ^ i * y < X + 256 ^ i * x = top_less Y X (256 ^ i) y x b less in
          le-ltb (X + 256 ^ i * x) (Y + 256 ^ i * y) (omega arith) ∙ sym (le-ltb x y more)
    ])

same_added : (X Y n : ℕ) → nat_lt (X + n) (Y + n) ≡ nat_lt X Y
same_added X Y n =
    elim (cases_lt X Y) [
      | inl less ↦ lt-ltb (X + n) (Y + n) (omega arith) ∙ sym (lt-ltb X Y less)
      | inr more ↦ le-ltb (X + n) (Y + n) (omega arith) ∙ sym (le-ltb X Y more)
    ]

-- the order of two numbers, by the others where the last bytes are equal
pub top_equal : (i : ℕ) (xs ys : List ℕ) → i < length xs → i < length ys → get_or xs i 0 ≡ get_or ys i 0
    → nat_lt (le_number (take (suc i) xs)) (le_number (take (suc i) ys)) ≡ nat_lt (le_number (take i xs)) (le_number (take i ys))
top_equal i xs ys l m same =
    rw (le_number-more i xs l, le_number-more i ys m, same) (same_added (le_number (take i xs)) (le_number (take i ys)) (256 ^ i * get_or ys i 0))
