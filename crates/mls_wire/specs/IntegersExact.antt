-- Reading an unsigned integer is exact. Internal: no public contract uses this.
use Rattle.std.proofs.Common.{◌≡◌, ◌≢◌, ℕ, zero, suc, ◌+◌, ◌*◌, ◌%◌, ◌^◌, ◌<◌, ◌≤◌, Bool, true, false, ltb, eqb, List, [], ◌∷◌, ◌++◌, length, get_or, take, Some, None, refl, sym, ap, subst, ◌∙◌, arith}
use Rattle.std.specs.Prelude.{IsTrue, not}
use Rattle.std.specs.Int.{Width, w8, w16, w32, w64, byte_len, from_be_bytes, to_be_bytes, byte_at, bytes_high_first}
use mir.Val.{bits}
use Rattle.std.proofs.lemmas.Bool.{ltb-false, ltb-true, le-ltb, lt-ltb, and_parts, and_from, eq-eqb}
use Rattle.std.proofs.lemmas.List.{take_at, drop_at, take-append-drop, length-append, length-take}
use Rattle.std.proofs.lemmas.Nat.{be_bytes_2, be_bytes_4, be_bytes_8, from_be_bytes-to_be_bytes_2, from_be_bytes-to_be_bytes_4, from_be_bytes-to_be_bytes_8}
use Rattle.mls_wire.specs.Input.{Input, at, skip}
use Rattle.mls_wire.specs.Encoding.{number, items}
use Rattle.mls_wire.specs.ReadContracts.{IsEncodedAt}
use Rattle.mls_wire.specs.Parsing.{all_bytes, number_at}
use Rattle.mls_wire.specs.OptionBind.{some_is, guarded, allowed}
use Rattle.mls_wire.specs.EncodingConcat.{joined}
use Rattle.mls_wire.specs.ExactParsers.{Any, IsExact}

-- Each number is a byte.
abbrev pub IsBytes : List ℕ → Type 0
IsBytes bytes = (i : ℕ) → get_or bytes i 0 < 256

-- `all_bytes` says so.
pub all_bytes_are : (bs : List ℕ) → all_bytes bs ≡ true → IsBytes bs
all_bytes_are [] e i = omega arith
all_bytes_are (b ∷ bs) e zero = ltb-true b 256 (and_parts _ _ e).0
all_bytes_are (b ∷ bs) e (suc i) = all_bytes_are bs (and_parts _ _ e).1 i

-- `all_bytes` is true if it is so.
pub are_all_bytes : (bs : List ℕ) → IsBytes bs → all_bytes bs ≡ true
are_all_bytes [] h = refl
are_all_bytes (b ∷ bs) h = and_from _ _ (lt-ltb b 256 (h 0)) (are_all_bytes bs (λ i. h (suc i)))

-- The facts used about the bytes of a number of this width.
pub record IsWide (w : Width) : Type 0 where
  pub some : 0 < byte_len w
  pub len : (n : ℕ) → length (to_be_bytes w n) ≡ byte_len w
  pub bytes : (n : ℕ) → IsBytes (to_be_bytes w n)
  pub back : (bytes : List ℕ) → length bytes ≡ byte_len w → IsBytes bytes → to_be_bytes w (from_be_bytes w bytes) ≡ bytes
  pub again : (n : ℕ) → n < 2 ^ bits w → from_be_bytes w (to_be_bytes w n) ≡ n
  pub below : (bytes : List ℕ) → IsBytes bytes → from_be_bytes w bytes < 2 ^ bits w

byte_below : (k n : ℕ) → byte_at k n < 256
byte_below zero n = omega arith
byte_below (suc k) n = omega arith

high_bytes : (k n : ℕ) → all_bytes (bytes_high_first k n) ≡ true
high_bytes zero n = refl
high_bytes (suc k) n = and_from _ _ (lt-ltb (byte_at k n) 256 (byte_below k n)) (high_bytes k n)

one_byte : (bytes : List ℕ) → length bytes ≡ 1 → bytes ≡ get_or bytes 0 0 ∷ []
one_byte [] e = absurd (omega arith)
one_byte (b ∷ []) e = refl
one_byte (b ∷ c ∷ bs) e = absurd (omega arith)

-- One byte.
pub wide8 : IsWide w8
wide8 = record {
  some = omega arith;
  len = λ n. refl;
  bytes = λ n. all_bytes_are (to_be_bytes w8 n) (high_bytes 1 n);
  back = λ bytes len fits. let e : get_or bytes 0 0 % 256 ≡ get_or bytes 0 0 = omega (arith, fits 0) in ap (λ (b : ℕ). b ∷ []) e ∙ sym (one_byte bytes len);
  again = λ n lt. omega arith;
  below = λ bytes fits. fits 0;
}

-- Two bytes.
pub wide16 : IsWide w16
wide16 = record {
  some = omega arith;
  len = λ n. refl;
  bytes = λ n. all_bytes_are (to_be_bytes w16 n) (high_bytes 2 n);
  back = λ bytes len fits. be_bytes_2 bytes _ len fits refl;
  again = λ n lt. from_be_bytes-to_be_bytes_2 n lt;
  below = λ bytes fits. omega (arith, fits 0, fits 1);
}

-- Four bytes.
pub wide32 : IsWide w32
wide32 = record {
  some = omega arith;
  len = λ n. refl;
  bytes = λ n. all_bytes_are (to_be_bytes w32 n) (high_bytes 4 n);
  back = λ bytes len fits. be_bytes_4 bytes _ len fits refl;
  again = λ n lt. from_be_bytes-to_be_bytes_4 n lt;
  below = λ bytes fits. omega (arith, fits 0, fits 1, fits 2, fits 3);
}

-- Eight bytes.
pub wide64 : IsWide w64
wide64 = record {
  some = omega arith;
  len = λ n. refl;
  bytes = λ n. all_bytes_are (to_be_bytes w64 n) (high_bytes 8 n);
  back = λ bytes len fits. be_bytes_8 bytes _ len fits refl;
  again = λ n lt. from_be_bytes-to_be_bytes_8 n lt;
  below = λ bytes fits. omega (arith, fits 0, fits 1, fits 2, fits 3, fits 4, fits 5, fits 6, fits 7);
}

-- The number that is read from bytes.
pub number_read : (w : Width) (i : Input) → IsBytes (take (byte_len w) i.left) → byte_len w ≤ length i.left → number_at w i ≡ Some (from_be_bytes w (take (byte_len w) i.left), skip (byte_len w) i)
unfolding number_at
number_read w i fits le =
    rw (le-ltb (length i.left) (byte_len w) le, are_all_bytes (take (byte_len w) i.left) fits) refl

-- Too few bytes.
pub number_short : (w : Width) (i : Input) → length i.left < byte_len w → number_at w i ≡ None
unfolding number_at
number_short w i lt = rw (lt-ltb (length i.left) (byte_len w) lt) refl

-- A number that has an encoding is within its width.
pub number_below : (w : Width) (n : ℕ) (front : List ℕ) → number w n ≡ Some front → (n < 2 ^ bits w) × (to_be_bytes w n ≡ front)
unfolding number
number_below w n front e =
    let a = allowed (ltb n (2 ^ bits w)) (Some (to_be_bytes w n)) front e in
    (ltb-true _ _ a.0, some_is _ _ a.1)

-- A number within its width has an encoding.
pub number_made : (w : Width) (n : ℕ) → n < 2 ^ bits w → number w n ≡ Some (to_be_bytes w n)
unfolding number
number_made w n lt = rw (lt-ltb n (2 ^ bits w) lt) refl

-- A byte is encoded as itself.
pub byte_made : (n : ℕ) → n < 256 → number w8 n ≡ Some (n ∷ [])
byte_made n lt = number_made w8 n (omega arith) ∙ ap (λ (x : ℕ). Some (x ∷ [])) (omega arith)

byte_read : (w : Width) → byte_len w ≡ 1 → (b : ℕ) (rest : List ℕ) (offset : ℕ) → ltb (length (b ∷ rest)) 1 ≡ false → all_bytes (b ∷ []) ≡ true → number_at w8 (at offset (b ∷ rest)) ≡ Some (b, at (offset + 1) rest)
unfolding number_at
byte_read w one b rest offset long good = rw (long, good) refl

-- A number has at least one byte.
pub number_long : (w : Width) → IsWide w → (n : ℕ) (front : List ℕ) → number w n ≡ Some front → 0 < length front
number_long w wide n front e =
    let a = number_below w n front e in
    omega (arith, ap length a.1, wide.len n, wide.some)

-- Reading a number is exact.
pub number_exact : (w : Width) → IsWide w → IsExact (number w) (number_at w)
unfolding number number_at
number_exact w wide = record {
  takes = λ i n j e.
      let a = guarded (ltb (length i.left) (byte_len w)) _ (n, j) e in
      let b = allowed (all_bytes (take (byte_len w) i.left)) _ (n, j) a.1 in
      let long : byte_len w ≤ length i.left = ltb-false _ _ a.0 in
      let front = take (byte_len w) i.left in
      let fits = all_bytes_are front b.0 in
      let len : length front ≡ byte_len w = omega (arith, length-take (byte_len w) i.left) in
      let same = wide.back front len fits in
      let lt : ltb (from_be_bytes w front) (2 ^ bits w) ≡ true = lt-ltb _ _ (wide.below front fits) in
      subst (λ (x : ℕ × Input). Any x.0 × IsEncodedAt (number w) x.0 i x.1) (some_is (from_be_bytes w front, skip (byte_len w) i) (n, j) b.1)
      (tt, (front, rw (lt, same) refl, sym (take-append-drop (byte_len w) i.left), omega arith));
  again = λ n front rest offset p e.
      let a = allowed (ltb n (2 ^ bits w)) _ front e in
      let made : to_be_bytes w n ≡ front = some_is _ _ a.1 in
      let len = wide.len n in
      let long : ltb (length (to_be_bytes w n ++ rest)) (byte_len w) ≡ false = le-ltb _ _ (omega (arith, length-append (to_be_bytes w n) rest)) in
      let good = are_all_bytes (to_be_bytes w n) (wide.bytes n) in
      let back = wide.again n (ltb-true _ _ a.0) in
      let one : number_at w (at offset (to_be_bytes w n ++ rest)) ≡ Some (n, at (offset + byte_len w) rest) =
      rw (long, take_at (to_be_bytes w n) rest (byte_len w) len, good, drop_at (to_be_bytes w n) rest (byte_len w) len, back) refl in
      let end : offset + byte_len w ≡ offset + length front = omega (arith, len, ap length made) in
      ap (λ (x : List ℕ). number_at w (at offset (x ++ rest))) (sym made) ∙ one ∙ ap (λ (x : ℕ). Some (n, at x rest)) end;
}

-- A byte is read back.
pub byte_again : (b : ℕ) (rest : List ℕ) (offset : ℕ) → b < 256 → number_at w8 (at offset (b ∷ rest)) ≡ Some (b, at (offset + 1) rest)
byte_again b rest offset lt =
    let long : 1 ≤ length (b ∷ rest) = omega arith in
    let good : all_bytes (b ∷ []) ≡ true = and_from _ _ (lt-ltb b 256 lt) refl in
    byte_read w8 refl b rest offset (le-ltb _ _ long) good

-- What is read as a byte is one.
pub byte_takes : (i : Input) (b : ℕ) (j : Input) → number_at w8 i ≡ Some (b, j) → (i.left ≡ b ∷ j.left) × (b < 256) × (j.offset ≡ i.offset + 1)
byte_takes i b j e =
    let t = ((number_exact w8 wide8).takes i b j e).1 in
    let lt = number_below w8 b t.0 t.1 in
    let one : t.0 ≡ b ∷ [] = sym lt.1 ∙ ap (λ (x : ℕ). x ∷ []) (omega (arith, lt.0)) in
    (t.2 ∙ ap (λ (x : List ℕ). x ++ j.left) one, lt.0, t.3 ∙ ap (λ (x : List ℕ). i.offset + length x) one)

-- The number of bytes of a list of numbers.
pub items_width : (w : Width) (wide : IsWide w) (k : ℕ) → byte_len w ≡ k → (xs : List ℕ) (t : List ℕ) → items (number w) xs ≡ Some t → length t ≡ length xs * k
unfolding items
items_width w wide k e [] t h = let none = some_is _ _ h in ap length (sym none) ∙ omega arith
items_width w wide k e (x ∷ xs) t h =
    let a = joined (number w x) (items (number w) xs) t h in
    let b = number_below w x a.0 a.2 in
    let c = items_width w wide k e xs a.1 a.3 in
    let d : (length xs + 1) * k ≡ length xs * k + k = grind arith in
    omega (arith, ap length a.4, length-append a.0 a.1, ap length b.1, wide.len x, c, d, e)

-- A remainder that is not 0.
pub is_odd : (n : ℕ) → IsTrue (not (eqb n 0)) → n ≢ 0
is_odd n t e = let bad : not true ≡ true = ap (λ (b : Bool). not b) (sym (eq-eqb n 0 e)) ∙ t in absurd cc
