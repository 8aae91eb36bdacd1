-- How many codes are encoded in so many bytes.
use Rattle.std.proofs.Common.{◌≡◌, ℕ, zero, suc, false, eqb, ◌*◌, ◌≤◌, List, [], ◌∷◌, length, take, drop, Option, Some, None, refl, ap, arith}
use Rattle.std.specs.Prelude.{IfSome, option_map}
use Rattle.std.proofs.lemmas.Bool.{ne_eqb}
use Rattle.std.specs.Int.{w16, from_be_bytes}
use Rattle.std.proofs.lemmas.List.{length-drop}
use Rattle.mls_wire.specs.Input.{Input, skip}
use Rattle.mls_wire.specs.IntegersExact.{IsBytes, number_read}
use Rattle.mls_wire.specs.OptionBind.{some_is}
use Rattle.mls_wire.specs.Parsing.{◌>>=◌, number_at, items_at}

bytes_front : (n : ℕ) (bs : List ℕ) → IsBytes bs → IsBytes (take n bs)
bytes_front zero bs h i = omega arith
bytes_front (suc n) [] h i = omega arith
bytes_front (suc n) (b ∷ bs) h zero = h 0
bytes_front (suc n) (b ∷ bs) h (suc i) = bytes_front n bs (λ j. h (suc j)) i

bytes_behind : (n : ℕ) (bs : List ℕ) → IsBytes bs → IsBytes (drop n bs)
bytes_behind zero bs h = h
bytes_behind (suc n) [] h = h
bytes_behind (suc n) (b ∷ bs) h = bytes_behind n bs (λ j. h (suc j))

one_more : (x k : ℕ) (o : Option (List ℕ)) → option_map length o ≡ Some k → option_map length (o >>= (λ xs. Some (x ∷ xs))) ≡ Some (suc k)
one_more x k None e = absurd cc
one_more x k (Some xs) e = ap (λ (n : ℕ). Some (suc n)) (some_is (length xs) k e)

some_left : (n k : ℕ) → n ≡ 2 * suc k → eqb n 0 ≡ false
some_left n k e = ne_eqb n 0 (λ none. omega (arith, e, none))

-- Each two bytes are a code.
pub codes_counted : (k n : ℕ) (i : Input) → IsBytes i.left → length i.left ≡ 2 * k → 2 * k ≤ n → option_map length (items_at (number_at w16) n i) ≡ Some k
unfolding items_at
codes_counted zero zero i fits len room = rw len refl
codes_counted zero (suc n) i fits len room = rw len refl
codes_counted (suc k) zero i fits len room = absurd (omega (arith, room))
codes_counted (suc k) (suc n) i fits len room =
    rw (some_left (length i.left) k len, number_read w16 i (bytes_front 2 i.left fits) (omega (arith, len)))
    (one_more (from_be_bytes w16 (take 2 i.left)) k (items_at (number_at w16) n (skip 2 i))
    (codes_counted k n (skip 2 i) (bytes_behind 2 i.left fits) (omega (arith, len, length-drop 2 i.left)) (omega (arith, room))))

pub pairs_counted : (o : Option ℕ) (i : Input) → IfSome o (λ count. (length i.left ≡ 2 * count) × IsBytes i.left)
    → IfSome o (λ count. option_map length (items_at (number_at w16) (length i.left) i) ≡ Some count)
pairs_counted None i h = tt
pairs_counted (Some k) i h = codes_counted k (length i.left) i h.1 h.0 (omega (arith, h.0))
