-- Hashes of one length, in a row of bytes.
use Rattle.std.proofs.Common.{◌≡◌, ℕ, zero, suc, ◌+◌, ◌*◌, ◌<◌, ◌≤◌, Bool, true, false, List, [], ◌∷◌, ◌++◌, length, take, drop, replicate, Option, Some, None, cond, refl, sym, ap, ◌∙◌, arith}
use Rattle.std.specs.Prelude.{IfSome, is_some, option_map, slice_get, slice_set}
use Rattle.std.proofs.Math.Nat.{mul-le-mul_left}
use Rattle.std.proofs.lemmas.List.{drop-drop, drop-take, drop-append-le, take-append-le, take-take, take_at, drop_at, length-take-le, length-drop, nil_from_length}
use Rattle.std.proofs.Math.Seq.{take-length}
use Rattle.std.proofs.lemmas.Option.{none-some, same_Some}
use Rattle.mls_tree.specs.HashCache.{empty_count, hash_in}
use Rattle.mls_tree.specs.HashListsInternal.{hashes_in, known_hashes, false_count}

-- there are as many as are counted
pub length-hashes_in : (width count : ℕ) (bytes : List ℕ) → length (hashes_in width count bytes) ≡ count
length-hashes_in width zero bytes = refl
length-hashes_in width (suc count) bytes = ap suc (length-hashes_in width count (drop width bytes))

-- a position before the last hash's end
pub within : (width count k : ℕ) → k < count → k * width + width ≤ count * width
within width count k lt = omega (arith, mul-le-mul_left {m = suc k} {n = count} width (omega arith))

-- the hash at a position
pub slice_get-hashes_in : (width count : ℕ) (bytes : List ℕ) (k : ℕ) → k < count → slice_get (hashes_in width count bytes) k ≡ Some (take width (drop (k * width) bytes))
slice_get-hashes_in width zero bytes k lt = absurd (omega arith)
slice_get-hashes_in width (suc count) bytes zero lt =
    let none : 0 ≡ 0 * width = omega arith in
    ap (λ n. Some (take width (drop n bytes))) none
slice_get-hashes_in width (suc count) bytes (suc k) lt =
    let here : width + k * width ≡ suc k * width = omega arith in
    slice_get-hashes_in width count (drop width bytes) k (omega arith)
    ∙ ap (λ xs. Some (take width xs)) (drop-drop (k * width) width bytes ∙ ap (λ n. drop n bytes) here)

-- a hash is put at a position
pub hashes_in-put : (width count : ℕ) (bytes : List ℕ) (k : ℕ) (hash : List ℕ) → k < count → length hash ≡ width → length bytes ≡ count * width
    → hashes_in width count (take (k * width) bytes ++ (hash ++ drop width (drop (k * width) bytes))) ≡ slice_set (hashes_in width count bytes) k hash
hashes_in-put width zero bytes k hash lt fits long = absurd (omega arith)
hashes_in-put width (suc count) bytes zero hash lt fits long =
    let none : 0 * width ≡ 0 = omega arith in
    let row : take (0 * width) bytes ++ (hash ++ drop width (drop (0 * width) bytes)) ≡ hash ++ drop width bytes = ap (λ n. take n bytes ++ (hash ++ drop width (drop n bytes))) none in
    ap (hashes_in width (suc count)) row
    ∙ (λ i. take_at hash (drop width bytes) width fits i ∷ hashes_in width count (drop_at hash (drop width bytes) width fits i))
hashes_in-put width (suc count) bytes (suc k) hash lt fits long =
    let rest = hash ++ drop width (drop (suc k * width) bytes) in
    let start : suc k * width ≡ width + k * width = omega arith in
    let enough : suc k * width ≤ length bytes = omega (arith, within width (suc count) (suc k) lt) in
    let front : length (take (suc k * width) bytes) ≡ suc k * width = length-take-le (suc k * width) bytes enough in
    let first : take width (take (suc k * width) bytes ++ rest) ≡ take width bytes =
    take-append-le width (take (suc k * width) bytes) rest (omega arith) ∙ take-take width (suc k * width) bytes (omega arith) in
    let behind : drop width (drop (suc k * width) bytes) ≡ drop width (drop (k * width) (drop width bytes)) =
    ap (λ n. drop width (drop n bytes)) start ∙ ap (drop width) (sym (drop-drop (k * width) width bytes)) in
    let others : drop width (take (suc k * width) bytes ++ rest) ≡ take (k * width) (drop width bytes) ++ (hash ++ drop width (drop (k * width) (drop width bytes))) =
    drop-append-le width (take (suc k * width) bytes) rest (omega arith)
    ∙ ap (λ n. drop width (take n bytes) ++ rest) start
    ∙ (λ i. drop-take width (k * width) bytes i ++ (hash ++ behind i)) in
    let left : length (drop width bytes) ≡ count * width = omega (arith, length-drop width bytes) in
    λ i. first i ∷ (ap (hashes_in width count) others ∙ hashes_in-put width count (drop width bytes) k hash (omega arith) fits left) i

-- ---- hashes that are known

pub none_known : (n : ℕ) (hashes : List (List ℕ)) (k : ℕ) (hash : List ℕ) → slice_get (known_hashes (replicate n false) hashes) k ≡ Some (Some hash) → ⊥
none_known zero hashes k hash e = none-some (Some hash) e
none_known (suc n) [] k hash e = none-some (Some hash) e
none_known (suc n) (h ∷ hashes) zero hash e = none-some hash (same_Some _ _ e)
none_known (suc n) (h ∷ hashes) (suc k) hash e = none_known n hashes k hash e

-- one is read
pub read_known : (known : List Bool) (hashes : List (List ℕ)) (k : ℕ) (hash : List ℕ) → slice_get known k ≡ Some true → slice_get hashes k ≡ Some hash
    → slice_get (known_hashes known hashes) k ≡ Some (Some hash)
read_known [] hashes k hash is at = absurd (none-some true is)
read_known (b ∷ known) [] k hash is at = absurd (none-some hash at)
read_known (true ∷ known) (h ∷ hashes) zero hash is at = ap (λ x. Some x) at
read_known (false ∷ known) (h ∷ hashes) zero hash is at = absurd (cc)
read_known (b ∷ known) (h ∷ hashes) (suc k) hash is at = read_known known hashes k hash is at

-- what is read, if it is one
pub read_option : (known : List Bool) (hashes : List (List ℕ)) (k : ℕ) (read : Option (List ℕ)) → slice_get known k ≡ Some true → read ≡ slice_get hashes k
    → IfSome read (λ hash. slice_get (known_hashes known hashes) k ≡ Some (Some hash))
read_option known hashes k None is at = tt
read_option known hashes k (Some hash) is at = read_known known hashes k hash is (sym at)

-- one becomes known
pub known_hashes-put : (known : List Bool) (hashes : List (List ℕ)) (k : ℕ) (hash : List ℕ) → length known ≤ length hashes
    → known_hashes (slice_set known k true) (slice_set hashes k hash) ≡ slice_set (known_hashes known hashes) k (Some hash)
known_hashes-put [] hashes k hash low = refl
known_hashes-put (b ∷ known) [] k hash low = absurd (omega arith)
known_hashes-put (b ∷ known) (h ∷ hashes) zero hash low = refl
known_hashes-put (b ∷ known) (h ∷ hashes) (suc k) hash low = ap (λ rest. (cond b (Some h) None) ∷ rest) (known_hashes-put known hashes k hash (omega arith))

-- ---- hashes that are added

-- the hashes of longer bytes
hashes_in-append : (width count : ℕ) (bytes more : List ℕ) → count * width ≤ length bytes → hashes_in width count (bytes ++ more) ≡ hashes_in width count bytes
hashes_in-append width zero bytes more long = refl
hashes_in-append width (suc count) bytes more long =
    let enough : width ≤ length bytes = omega (arith, within width (suc count) 0 (omega arith)) in
    let step : suc count * width ≡ width + count * width = omega arith in
    let left : count * width ≤ length (drop width bytes) = omega (arith, length-drop width bytes) in
    λ i. take-append-le width bytes more enough i
    ∷ (ap (hashes_in width count) (drop-append-le width bytes more enough) ∙ hashes_in-append width count (drop width bytes) more left) i

-- one more hash
pub hashes_in-push : (width count : ℕ) (bytes hash : List ℕ) → length hash ≡ width → length bytes ≡ count * width → hashes_in width (suc count) (bytes ++ hash) ≡ hashes_in width count bytes ++ hash ∷ []
hashes_in-push width zero bytes hash fits long =
    let none : bytes ≡ [] = nil_from_length bytes (omega (arith, long)) in
    ap (λ (bs : List ℕ). take width (bs ++ hash) ∷ []) none ∙ ap (λ (n : ℕ). take n hash ∷ []) (sym fits) ∙ ap (λ (h : List ℕ). h ∷ []) (take-length hash)
hashes_in-push width (suc count) bytes hash fits long =
    let enough : width ≤ length bytes = omega (arith, within width (suc count) 0 (omega arith), long) in
    let step : suc count * width ≡ width + count * width = omega arith in
    let left : length (drop width bytes) ≡ count * width = omega (arith, length-drop width bytes, long) in
    λ i. take-append-le width bytes hash enough i
    ∷ (ap (hashes_in width (suc count)) (drop-append-le width bytes hash enough) ∙ hashes_in-push width count (drop width bytes) hash fits left) i

-- the first of more hashes
take-hashes_in : (width count all : ℕ) (bytes : List ℕ) → count ≤ all → take count (hashes_in width all bytes) ≡ hashes_in width count bytes
take-hashes_in width zero all bytes low = refl
take-hashes_in width (suc count) zero bytes low = absurd (omega arith)
take-hashes_in width (suc count) (suc all) bytes low = ap (λ hashes. take width bytes ∷ hashes) (take-hashes_in width count all (drop width bytes) (omega arith))

-- the former hashes, where some were added
pub take-lengthened : (width count all : ℕ) (bytes zeros : List ℕ) → count ≤ all → length bytes ≡ count * width → take count (hashes_in width all (bytes ++ zeros)) ≡ hashes_in width count bytes
take-lengthened width count all bytes zeros low long = take-hashes_in width count all (bytes ++ zeros) low ∙ hashes_in-append width count bytes zeros (omega (arith, long))

-- ---- slots

-- there are as many as marks
pub length-known_hashes : (known : List Bool) (hashes : List (List ℕ)) → length known ≤ length hashes → length (known_hashes known hashes) ≡ length known
length-known_hashes [] hashes low = refl
length-known_hashes (b ∷ known) [] low = absurd (omega arith)
length-known_hashes (b ∷ known) (h ∷ hashes) low = ap suc (length-known_hashes known hashes (omega arith))

-- there are no hashes after the last mark
pub known_hashes-take : (known : List Bool) (n : ℕ) (hashes : List (List ℕ)) → length known ≤ n → known_hashes known (take n hashes) ≡ known_hashes known hashes
known_hashes-take [] n hashes low = refl
known_hashes-take (b ∷ known) zero hashes low = absurd (omega arith)
known_hashes-take (b ∷ known) (suc n) [] low = refl
known_hashes-take (b ∷ known) (suc n) (h ∷ hashes) low = ap (λ rest. (cond b (Some h) None) ∷ rest) (known_hashes-take known n hashes (omega arith))

-- none is filled
pub known_hashes-blank : (n : ℕ) (hashes : List (List ℕ)) → n ≤ length hashes → known_hashes (replicate n false) hashes ≡ replicate n None
known_hashes-blank zero hashes low = refl
known_hashes-blank (suc n) [] low = absurd (omega arith)
known_hashes-blank (suc n) (h ∷ hashes) low = ap (λ rest. None ∷ rest) (known_hashes-blank n hashes (omega arith))

-- empty ones are added
pub known_hashes-append : (known : List Bool) (n : ℕ) (hashes : List (List ℕ)) → length known + n ≤ length hashes
    → known_hashes (known ++ replicate n false) hashes ≡ known_hashes known hashes ++ replicate n None
known_hashes-append [] n hashes low = known_hashes-blank n hashes (omega arith)
known_hashes-append (b ∷ known) n [] low = absurd (omega arith)
known_hashes-append (b ∷ known) n (h ∷ hashes) low = ap (λ rest. (cond b (Some h) None) ∷ rest) (known_hashes-append known n hashes (omega arith))

-- the first ones are left
pub take-known_hashes : (n : ℕ) (known : List Bool) (hashes : List (List ℕ)) → known_hashes (take n known) hashes ≡ take n (known_hashes known hashes)
take-known_hashes zero known hashes = refl
take-known_hashes (suc n) [] hashes = refl
take-known_hashes (suc n) (b ∷ known) [] = refl
take-known_hashes (suc n) (b ∷ known) (h ∷ hashes) = ap (λ rest. (cond b (Some h) None) ∷ rest) (take-known_hashes n known hashes)

-- one is emptied
pub known_hashes-clear : (known : List Bool) (hashes : List (List ℕ)) (k : ℕ) → length known ≤ length hashes
    → known_hashes (slice_set known k false) hashes ≡ slice_set (known_hashes known hashes) k None
known_hashes-clear [] hashes k low = refl
known_hashes-clear (b ∷ known) [] k low = absurd (omega arith)
known_hashes-clear (b ∷ known) (h ∷ hashes) zero low = refl
known_hashes-clear (b ∷ known) (h ∷ hashes) (suc k) low = ap (λ rest. (cond b (Some h) None) ∷ rest) (known_hashes-clear known hashes k (omega arith))

-- whether one is filled
pub filled-known_hashes : (known : List Bool) (hashes : List (List ℕ)) (k : ℕ) → length known ≤ length hashes
    → option_map is_some (slice_get (known_hashes known hashes) k) ≡ slice_get known k
filled-known_hashes [] hashes k low = refl
filled-known_hashes (b ∷ known) [] k low = absurd (omega arith)
filled-known_hashes (true ∷ known) (h ∷ hashes) zero low = refl
filled-known_hashes (false ∷ known) (h ∷ hashes) zero low = refl
filled-known_hashes (b ∷ known) (h ∷ hashes) (suc k) low = filled-known_hashes known hashes k (omega arith)

-- what a filled one has
pub hash_in-filled : (known : List Bool) (hashes : List (List ℕ)) (k : ℕ) → slice_get known k ≡ Some true → hash_in (slice_get (known_hashes known hashes) k) ≡ slice_get hashes k
hash_in-filled [] hashes k is = absurd (none-some true is)
hash_in-filled (b ∷ known) [] k is = refl
hash_in-filled (true ∷ known) (h ∷ hashes) zero is = refl
hash_in-filled (false ∷ known) (h ∷ hashes) zero is = absurd (cc)
hash_in-filled (b ∷ known) (h ∷ hashes) (suc k) is = hash_in-filled known hashes k is

-- and one that isn't
pub hash_in-empty : (known : List Bool) (hashes : List (List ℕ)) (k : ℕ) → slice_get known k ≡ Some false → hash_in (slice_get (known_hashes known hashes) k) ≡ None
hash_in-empty [] hashes k is = refl
hash_in-empty (b ∷ known) [] k is = refl
hash_in-empty (true ∷ known) (h ∷ hashes) zero is = absurd (cc)
hash_in-empty (false ∷ known) (h ∷ hashes) zero is = refl
hash_in-empty (b ∷ known) (h ∷ hashes) (suc k) is = hash_in-empty known hashes k is

-- and where there is none
pub hash_in-past : (known : List Bool) (hashes : List (List ℕ)) (k : ℕ) → slice_get known k ≡ None → hash_in (slice_get (known_hashes known hashes) k) ≡ None
hash_in-past [] hashes k is = refl
hash_in-past (b ∷ known) [] k is = refl
hash_in-past (b ∷ known) (h ∷ hashes) zero is = absurd (none-some b (sym is))
hash_in-past (b ∷ known) (h ∷ hashes) (suc k) is = hash_in-past known hashes k is

-- how many are empty
pub empty_count-known : (known : List Bool) (hashes : List (List ℕ)) → length known ≤ length hashes → empty_count (known_hashes known hashes) ≡ false_count known
empty_count-known [] hashes low = refl
empty_count-known (b ∷ known) [] low = absurd (omega arith)
empty_count-known (true ∷ known) (h ∷ hashes) low = empty_count-known known hashes (omega arith)
empty_count-known (false ∷ known) (h ∷ hashes) low = ap suc (empty_count-known known hashes (omega arith))
