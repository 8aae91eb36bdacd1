-- The first hashes of a row, read again, and put over those of another row.
use Rattle.std.proofs.Common.{◌≡◌, ℕ, zero, suc, ◌+◌, ◌*◌, ◌-◌, ◌≤◌, Bool, List, [], ◌∷◌, ◌++◌, length, take, drop, Some, None, cond, refl, sym, ap, ◌∙◌, arith}
use Rattle.std.specs.Prelude.{slice_range}
use Rattle.std.proofs.Math.Nat.{mul-le-mul_left}
use Rattle.std.proofs.lemmas.List.{take-append-drop, drop-drop, drop-take, drop-append-le, take-append-le, take-take, length-take-le, length-drop}
use Rattle.mls_tree.specs.HashListsInternal.{hashes_in, known_hashes}
use Rattle.mls_tree.proofs.HashRows.{take-lengthened}

-- ---- the first of a row

-- a part from the start on
pub slice_range-start : (bytes : List ℕ) (n : ℕ) → slice_range bytes 0 n ≡ take n bytes
slice_range-start bytes n = let all : n - 0 ≡ n = omega arith in ap (λ k. take k bytes) all

-- they are read again
pub front-hashes : (width n count : ℕ) (bytes : List ℕ) → n ≤ count → length bytes ≡ count * width → hashes_in width n (take (n * width) bytes) ≡ take n (hashes_in width count bytes)
front-hashes width n count bytes low long =
    let enough : n * width ≤ length bytes = omega (arith, mul-le-mul_left {m = n} {n = count} width low) in
    sym (ap (λ bs. take n (hashes_in width count bs)) (sym (take-append-drop (n * width) bytes))
    ∙ take-lengthened width n count (take (n * width) bytes) (drop (n * width) bytes) low (length-take-le (n * width) bytes enough))

-- those of another row are put over them
pub hashes_in-front : (width n few count : ℕ) (front bytes : List ℕ) → n ≤ few → n ≤ count → length front ≡ few * width → length bytes ≡ count * width
    → hashes_in width count (take (n * width) front ++ drop (n * width) bytes) ≡ take n (hashes_in width few front) ++ drop n (hashes_in width count bytes)
hashes_in-front width zero few count front bytes low high short long =
    let none : 0 * width ≡ 0 = omega arith in
    ap (λ k. hashes_in width count (take k front ++ drop k bytes)) none
hashes_in-front width (suc n) zero count front bytes low high short long = absurd (omega arith)
hashes_in-front width (suc n) (suc few) zero front bytes low high short long = absurd (omega arith)
hashes_in-front width (suc n) (suc few) (suc count) front bytes low high short long =
    let start : suc n * width ≡ width + n * width = omega arith in
    let enough : suc n * width ≤ length front = omega (arith, mul-le-mul_left {m = suc n} {n = suc few} width low) in
    let taken : length (take (suc n * width) front) ≡ suc n * width = length-take-le (suc n * width) front enough in
    let rest = drop (suc n * width) bytes in
    let first : take width (take (suc n * width) front ++ rest) ≡ take width front =
    take-append-le width (take (suc n * width) front) rest (omega arith) ∙ take-take width (suc n * width) front (omega arith) in
    let behind : rest ≡ drop (n * width) (drop width bytes) = ap (λ k. drop k bytes) start ∙ sym (drop-drop (n * width) width bytes) in
    let others : drop width (take (suc n * width) front ++ rest) ≡ take (n * width) (drop width front) ++ drop (n * width) (drop width bytes) =
    drop-append-le width (take (suc n * width) front) rest (omega arith)
    ∙ ap (λ k. drop width (take k front) ++ rest) start
    ∙ (λ i. drop-take width (n * width) front i ++ behind i) in
    let left : length (drop width front) ≡ few * width = omega (arith, length-drop width front) in
    let right : length (drop width bytes) ≡ count * width = omega (arith, length-drop width bytes) in
    λ i. first i ∷ (ap (hashes_in width count) others ∙ hashes_in-front width n few count (drop width front) (drop width bytes) (omega arith) (omega arith) left right) i

-- and their marks
pub known_hashes-front : (front : List Bool) (others : List (List ℕ)) (known : List Bool) (hashes : List (List ℕ)) → length front ≤ length others → length front ≤ length known → length front ≤ length hashes
    → known_hashes (front ++ drop (length front) known) (take (length front) others ++ drop (length front) hashes) ≡ known_hashes front others ++ drop (length front) (known_hashes known hashes)
known_hashes-front [] others known hashes a b c = refl
known_hashes-front (m ∷ front) [] known hashes a b c = absurd (omega arith)
known_hashes-front (m ∷ front) (o ∷ others) [] hashes a b c = absurd (omega arith)
known_hashes-front (m ∷ front) (o ∷ others) (k ∷ known) [] a b c = absurd (omega arith)
known_hashes-front (m ∷ front) (o ∷ others) (k ∷ known) (h ∷ hashes) a b c =
    ap (λ rest. (cond m (Some o) None) ∷ rest) (known_hashes-front front others known hashes (omega arith) (omega arith) (omega arith))
