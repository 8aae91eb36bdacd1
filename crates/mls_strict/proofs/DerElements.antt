-- Elements of DER, one after the other, and the numbers that bytes encode, the highest byte first.
use Rattle.std.proofs.Common.{◌≡◌, ℕ, ◌+◌, ◌*◌, ◌^◌, ◌<◌, ◌≤◌, List, [], ◌∷◌, length, get_or, drop, Option, Some, None, refl, sym, add-one, arith}
use Rattle.std.proofs.Math.Nat.{pow-le-pow_right, pow-suc}
use Rattle.std.proofs.Math.Seq.{drop-cons}
use Rattle.std.proofs.lemmas.List.{drop_all}
use Rattle.mls_wire.specs.Parsing.{◌>>=◌}
use Rattle.mls_strict.specs.Certificates.{be_number, behind, element}

-- ---- numbers

-- at most three bytes encode a number below 2 ^ 24
pub three_bytes : (n i : ℕ) → n < 256 ^ i → i < 4 → n < 16777216
three_bytes n i below few =
    let exponent : i ≤ 3 = omega arith in
    let most : 256 ^ i ≤ 256 ^ 3 = pow-le-pow_right (omega arith) exponent in omega arith

pub number-more : (b : List ℕ) (i n : ℕ) → i < length b → n < 256 ^ i → get_or b i 0 < 256
    → (n * 256 + get_or b i 0 < 256 ^ (i + 1)) × (be_number (n * 256 + get_or b i 0) (drop (i + 1) b) ≡ be_number n (drop i b))
unfolding be_number
number-more b i n within below byte =
    let more : 256 ^ (i + 1) ≡ 256 ^ i * 256 = rw add-one (pow-suc 256 i) in
    (omega arith, sym (rw (add-one, drop-cons b i 0 within) refl))

pub number-end : (b : List ℕ) (i n : ℕ) → length b ≤ i → be_number n (drop i b) ≡ n
unfolding be_number
number-end b i n none = rw (drop_all i b none) refl

-- ---- elements

then_behind : (tags : List ℕ) (o : Option (List ℕ × List ℕ)) → (o >>= λ e. behind tags e.1) ≡ ((o >>= λ e. Some e.1) >>= behind tags)
then_behind tags None = refl
then_behind tags (Some e) = refl

-- behind one element, and behind those that follow it
pub behind_split : (tag : ℕ) (tags b : List ℕ) → behind (tag ∷ tags) b ≡ (behind (tag ∷ []) b >>= behind tags)
unfolding behind
behind_split tag tags b = then_behind tags (element tag b)
