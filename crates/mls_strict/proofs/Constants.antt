-- The bytes of the coordinates encode the numbers that the definitions have.
use Rattle.std.proofs.Common.{◌≡◌, ◌∙◌, ℕ, zero, suc, ◌%◌, ◌^◌, Bool, true, List, [], ◌∷◌, length, get_or, set, refl, sym, ap, arith}
use Rattle.std.specs.Prelude.{◌==◌, ◌-◌, ◌||◌, false, map, nat_le, nat_lt, not}
use Rattle.std.specs.List.{list_any}
use Rattle.std.specs.Str.{bytes_eq}
use Rattle.std.proofs.lemmas.Bool.{false≢true}
use Rattle.std.proofs.lemmas.List.{length-set}
use Rattle.std.proofs.lemmas.Nat.{mod_below}
use Rattle.mls_wire.specs.IntegersExact.{IsBytes}
use Rattle.mls_strict.specs.KeyForms.{is_canonical, le_number, low_order_25519, low_order_448, prime_25519, prime_448}
use Rattle.mls_strict.specs.declared.coordinates.TheConstants.{LOW_ORDER_25519, LOW_ORDER_448, LOW_ORDER_FIRST_25519, LOW_ORDER_FIRST_448, PRIME_25519, PRIME_448, UNSIGNED_25519, UNSIGNED_448}
use Rattle.mls_strict.proofs.Booleans.{and_false, and_true, or_false, same_either_way}
use Rattle.mls_strict.proofs.LittleEndian.{any_number, are_bytes, has_top_bit, le_number-cleared, top_bit}

-- ---- the numbers

numbers_25519 : map le_number LOW_ORDER_25519 ≡ low_order_25519
unfolding le_number
numbers_25519 = refl

numbers_448 : map le_number LOW_ORDER_448 ≡ low_order_448
unfolding le_number
numbers_448 = refl

unsigned_numbers_25519 : map le_number UNSIGNED_25519 ≡ 1 ∷ (prime_25519 - 1) ∷ []
unfolding le_number
unsigned_numbers_25519 = refl

prime_number_25519 : le_number PRIME_25519 ≡ prime_25519
unfolding le_number
prime_number_25519 = refl

unsigned_numbers_448 : map le_number UNSIGNED_448 ≡ 1 ∷ (prime_448 - 1) ∷ []
unfolding le_number
unsigned_numbers_448 = refl

prime_number_448 : le_number PRIME_448 ≡ prime_448
unfolding le_number
prime_number_448 = refl

-- ---- the top bit is cleared

cleared-bytes : (n : ℕ) (xs : List ℕ) → IsBytes xs → IsBytes (set xs n (get_or xs n 0 % 128))
cleared-bytes n [] h i = h i
cleared-bytes zero (x ∷ xs) h zero = omega (arith, mod_below x 128 (omega arith))
cleared-bytes zero (x ∷ xs) h (suc i) = h (suc i)
cleared-bytes (suc n) (x ∷ xs) h zero = h zero
cleared-bytes (suc n) (x ∷ xs) h (suc i) = cleared-bytes n xs (λ k. h (suc k)) i

-- ---- found among them

-- a list with its top bit cleared is among others if its number is among theirs
cleared-found : (n : ℕ) (key : List ℕ) → length key ≡ suc n → IsBytes key → (cs : List (List ℕ)) → are_bytes (suc n) cs ≡ true
    → (numbers : List ℕ) → map le_number cs ≡ numbers
    → list_any (λ c. bytes_eq c (set key n (get_or key n 0 % 128))) cs ≡ list_any (λ u. u == le_number key % top_bit n) numbers
cleared-found n key l h cs all numbers same =
    let u : List ℕ = set key n (get_or key n 0 % 128) in
    let sized : length u ≡ suc n = length-set key n (get_or key n 0 % 128) ∙ l in
    any_number u (cleared-bytes n key h) cs (ap (λ k. are_bytes k cs) sized ∙ all)
    ∙ ap (list_any (λ v. v == le_number u)) same
    ∙ ap (λ k. list_any (λ v. v == k) numbers) (le_number-cleared n key l h)

pub low_order_25519-found : (key : List ℕ) → length key ≡ 32 → IsBytes key
    → list_any (λ c. bytes_eq c (set key 31 (get_or key 31 0 % 128))) LOW_ORDER_25519 ≡ list_any (λ u. u == le_number key % 2 ^ 255) low_order_25519
low_order_25519-found key l h = cleared-found 31 key l h LOW_ORDER_25519 refl low_order_25519 numbers_25519

pub low_order_448-found : (key : List ℕ) → length key ≡ 56 → IsBytes key
    → list_any (λ c. bytes_eq c key) LOW_ORDER_448 ≡ list_any (λ u. u == le_number key) low_order_448
low_order_448-found key l h = any_number key h LOW_ORDER_448 (ap (λ k. are_bytes k LOW_ORDER_448) l) ∙ ap (list_any (λ u. u == le_number key)) numbers_448

pub unsigned_25519-found : (key : List ℕ) → length key ≡ 32 → IsBytes key
    → list_any (λ c. bytes_eq c (set key 31 (get_or key 31 0 % 128))) UNSIGNED_25519 ≡ list_any (λ u. u == le_number key % 2 ^ 255) (1 ∷ (prime_25519 - 1) ∷ [])
unsigned_25519-found key l h = cleared-found 31 key l h UNSIGNED_25519 refl (1 ∷ (prime_25519 - 1) ∷ []) unsigned_numbers_25519

pub unsigned_448-found : (key : List ℕ) → length key ≡ 57 → IsBytes key
    → list_any (λ c. bytes_eq c (set key 56 (get_or key 56 0 % 128))) UNSIGNED_448 ≡ list_any (λ u. u == le_number key % 2 ^ 455) (1 ∷ (prime_448 - 1) ∷ [])
unsigned_448-found key l h = cleared-found 56 key l h UNSIGNED_448 refl (1 ∷ (prime_448 - 1) ∷ []) unsigned_numbers_448

-- ---- told apart by the first byte

neither : (a b : Bool) → (a || b) ≡ false → (a ≡ false) × (b ≡ false)
neither false b h = (refl, h)
neither true b h = absurd (false≢true (sym h))

-- a list that begins otherwise than each of them is none of them
begins_otherwise : (x : ℕ) (xs : List ℕ) (cs : List (List ℕ)) → list_any (λ n. n == x) (map (λ c. get_or c 0 0) cs) ≡ false
    → list_any (λ c. bytes_eq c (x ∷ xs)) cs ≡ false
begins_otherwise x xs [] h = refl
begins_otherwise x xs ([] ∷ cs) h = begins_otherwise x xs cs (neither (0 == x) (list_any (λ n. n == x) (map (λ c. get_or c 0 0) cs)) h).1
begins_otherwise x xs ((y ∷ ys) ∷ cs) h =
    let parts = neither (y == x) (list_any (λ n. n == x) (map (λ c. get_or c 0 0) cs)) h in
    rw parts.0 (begins_otherwise x xs cs parts.1)

pub low_order_25519-otherwise : (key : List ℕ) → length key ≡ 32 → IsBytes key
    → list_any (λ n. n == get_or key 0 0) LOW_ORDER_FIRST_25519 ≡ false
    → list_any (λ u. u == le_number key % 2 ^ 255) low_order_25519 ≡ false
low_order_25519-otherwise [] l h e = absurd (omega arith)
low_order_25519-otherwise (x ∷ xs) l h e =
    sym (low_order_25519-found (x ∷ xs) l h) ∙ begins_otherwise x (set xs 30 (get_or xs 30 0 % 128)) LOW_ORDER_25519 e

pub low_order_448-otherwise : (key : List ℕ) → length key ≡ 56 → IsBytes key
    → list_any (λ n. n == get_or key 0 0) LOW_ORDER_FIRST_448 ≡ false
    → list_any (λ u. u == le_number key) low_order_448 ≡ false
low_order_448-otherwise [] l h e = absurd (omega arith)
low_order_448-otherwise (x ∷ xs) l h e = sym (low_order_448-found (x ∷ xs) l h) ∙ begins_otherwise x xs LOW_ORDER_448 e

-- ---- canonical encodings

last : (a b : Bool) → (a || (b || false)) ≡ (a || b)
last a b = ap (λ c. a || c) (or_false b)

unsigned-again : (y a b : ℕ) → list_any (λ u. u == y) (a ∷ b ∷ []) ≡ ((y == a) || (y == b))
unsigned-again y a b = rw (same_either_way a y, same_either_way b y) (last (y == a) (y == b))

module _ (sign p n : ℕ) where
  pub canonical-above : (b : Bool) → b ≡ nat_lt (n % 2 ^ sign) p → b ≡ false → b ≡ is_canonical sign p n
  unfolding is_canonical
  canonical-above b e above = rw (← e, above) refl

  pub canonical-unsigned : nat_lt (n % 2 ^ sign) p ≡ true → nat_le (2 ^ sign) n ≡ false → is_canonical sign p n ≡ true
  unfolding is_canonical
  canonical-unsigned below zero_bit = rw (below, zero_bit, and_false ((n % 2 ^ sign == 1) || (n % 2 ^ sign == p - 1))) refl

  pub canonical-signed : nat_lt (n % 2 ^ sign) p ≡ true → nat_le (2 ^ sign) n ≡ true → is_canonical sign p n ≡ not (list_any (λ u. u == n % 2 ^ sign) (1 ∷ (p - 1) ∷ []))
  unfolding is_canonical
  canonical-signed below one_bit = rw (below, one_bit, unsigned-again (n % 2 ^ sign) 1 (p - 1), and_true ((n % 2 ^ sign == 1) || (n % 2 ^ sign == p - 1))) refl

pub below-25519 : (key : List ℕ) → length key ≡ 32 → IsBytes key
    → nat_lt (le_number (set key 31 (get_or key 31 0 % 128))) (le_number PRIME_25519) ≡ nat_lt (le_number key % 2 ^ 255) prime_25519
below-25519 key l h =
    ap (λ n. nat_lt n (le_number PRIME_25519)) (le_number-cleared 31 key l h)
    ∙ ap (λ p. nat_lt (le_number key % 2 ^ 255) p) prime_number_25519

pub below-448 : (key : List ℕ) → length key ≡ 57 → IsBytes key
    → nat_lt (le_number (set key 56 (get_or key 56 0 % 128))) (le_number PRIME_448) ≡ nat_lt (le_number key % 2 ^ 455) prime_448
below-448 key l h =
    ap (λ n. nat_lt n (le_number PRIME_448)) (le_number-cleared 56 key l h)
    ∙ ap (λ p. nat_lt (le_number key % 2 ^ 455) p) prime_number_448

pub top_bit-25519 : (key : List ℕ) → length key ≡ 32 → IsBytes key → nat_le (2 ^ 255) (le_number key) ≡ nat_le 128 (get_or key 31 0)
top_bit-25519 key l h = has_top_bit 31 key l h

pub top_bit-448 : (key : List ℕ) → length key ≡ 57 → IsBytes key → nat_le (2 ^ 455) (le_number key) ≡ nat_le 128 (get_or key 56 0)
top_bit-448 key l h = has_top_bit 56 key l h
