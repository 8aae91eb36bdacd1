-- Reading a length in one of its three forms is exact. Internal: no public contract uses this.
use Rattle.std.proofs.Common.{◌≡◌, ℕ, ◌+◌, ◌-◌, ◌/◌, ◌%◌, ◌^◌, ◌<◌, ◌≤◌, Bool, true, false, cond, ltb, List, [], ◌∷◌, ◌++◌, length, Some, None, refl, sym, ap, subst, ◌∙◌, arith, ◌⊎◌, inl, inr}
use Rattle.std.specs.Int.{Width, w8, w16, w32, byte_len, to_be_bytes}
use mir.Val.{bits}
use Rattle.std.proofs.lemmas.Bool.{cases_lt, ltb-false, ltb-true, le-ltb, lt-ltb}
use Rattle.mls_wire.specs.Input.{Input, at}
use Rattle.mls_wire.specs.Encoding.{number, length_form}
use Rattle.mls_wire.specs.ReadContracts.{IsEncodedAt}
use Rattle.mls_wire.specs.Parsing.{number_at, longer, length_at}
use Rattle.mls_wire.specs.OptionBind.{bind_some, some_is, guarded}
use Rattle.mls_wire.specs.ExactParsers.{IsExact}
use Rattle.mls_wire.specs.IntegersExact.{IsWide, wide16, wide32, number_below, number_made, number_exact, byte_again, byte_takes}

-- Equal lists have equal first bytes.
head_is : (a b : ℕ) (x y s : List ℕ) → s ≡ a ∷ x → s ≡ b ∷ y → a ≡ b
head_is a b x y s p q = let e : a ∷ x ≡ b ∷ y = sym p ∙ q in cc

longer_takes : (w : Width) (wide : IsWide w) (low by : ℕ) (i : Input) (n : ℕ) (j : Input) → longer w low by i ≡ Some (n, j) → (m : ℕ) × (low ≤ m) × (m - by ≡ n) × IsEncodedAt (number w) m i j
longer_takes w wide low by i n j e =
    let a = bind_some (number_at w i) (λ n. cond (ltb n.0 low) None (Some (n.0 - by, n.1))) (n, j) e in
    let b = guarded (ltb a.0.0 low) (Some (a.0.0 - by, a.0.1)) (n, j) a.2 in
    let c = some_is (a.0.0 - by, a.0.1) (n, j) b.1 in
    let t = ((number_exact w wide).takes i a.0.0 a.0.1 a.1).1 in
    (a.0.0, ltb-false _ _ b.0, ap (λ (x : ℕ × Input). x.0) c, subst (λ (x : Input). IsEncodedAt (number w) a.0.0 i x) (ap (λ (x : ℕ × Input). x.1) c) t)

-- A length in one byte.
pub form_1 : (n : ℕ) → n < 64 → length_form n ≡ Some (n ∷ [])
unfolding length_form
form_1 n lt = rw (lt-ltb n 64 lt) refl

-- A length in two bytes.
pub form_2 : (n m : ℕ) → 64 ≤ n → n < 16384 → m ≡ n + 16384 → length_form n ≡ Some (to_be_bytes w16 m)
unfolding length_form
form_2 n m le lt e = rw (e, le-ltb n 64 le, lt-ltb n 16384 lt) refl

-- A length in four bytes.
pub form_4 : (n m : ℕ) → 16384 ≤ n → n < 1073741824 → m ≡ n + 2147483648 → length_form n ≡ Some (to_be_bytes w32 m)
unfolding length_form
form_4 n m le lt e = let le2 : 64 ≤ n = omega arith in rw (e, le-ltb n 64 le2, le-ltb n 16384 le, lt-ltb n 1073741824 lt) refl

length_takes_1 : (i : Input) (b : ℕ) (k : Input) → number_at w8 i ≡ Some (b, k) → b < 64 → IsEncodedAt length_form b i k
length_takes_1 i b k a lt = let t = byte_takes i b k a in (b ∷ [], form_1 b lt, t.0, t.2)

length_takes_2 : (i : Input) (b : ℕ) (k : Input) (n : ℕ) (j : Input) → number_at w8 i ≡ Some (b, k) → b < 128 → longer w16 16448 16384 i ≡ Some (n, j) → IsEncodedAt length_form n i j
length_takes_2 i b k n j a lt e =
    let l = longer_takes w16 wide16 16448 16384 i n j e in
    let m = l.0 in
    let t = l.3 in
    let w = number_below w16 m t.0 t.1 in
    let first : b ≡ m / 256 % 256 = head_is b _ k.left _ i.left (byte_takes i b k a).0 (t.2 ∙ ap (λ (x : List ℕ). x ++ j.left) (sym w.1)) in
    (t.0, form_2 n m (omega (arith, l.1, l.2)) (omega (arith, l.1, l.2, w.0)) (omega (arith, l.1, l.2)) ∙ ap (λ (x : List ℕ). Some x) w.1, t.2, t.3)

length_takes_4 : (i : Input) (b : ℕ) (k : Input) (n : ℕ) (j : Input) → number_at w8 i ≡ Some (b, k) → b < 192 → longer w32 2147500032 2147483648 i ≡ Some (n, j) → IsEncodedAt length_form n i j
length_takes_4 i b k n j a lt e =
    let l = longer_takes w32 wide32 2147500032 2147483648 i n j e in
    let m = l.0 in
    let t = l.3 in
    let w = number_below w32 m t.0 t.1 in
    let first : b ≡ m / 16777216 % 256 = head_is b _ k.left _ i.left (byte_takes i b k a).0 (t.2 ∙ ap (λ (x : List ℕ). x ++ j.left) (sym w.1)) in
    (t.0, form_4 n m (omega (arith, l.1, l.2)) (omega (arith, l.1, l.2, w.0)) (omega (arith, l.1, l.2)) ∙ ap (λ (x : List ℕ). Some x) w.1, t.2, t.3)

length_forms : (i : Input) (b : ℕ) (k : Input) (n : ℕ) (j : Input) → number_at w8 i ≡ Some (b, k) → (x y z : Bool) → ltb b 64 ≡ x → ltb b 128 ≡ y → ltb b 192 ≡ z
    → cond x (Some (b, k)) (cond y (longer w16 16448 16384 i) (cond z (longer w32 2147500032 2147483648 i) None)) ≡ Some (n, j) → IsEncodedAt length_form n i j
length_forms i b k n j a true y z p q r e = subst (λ (x : ℕ × Input). IsEncodedAt length_form x.0 i x.1) (some_is (b, k) (n, j) e) (length_takes_1 i b k a (ltb-true _ _ p))
length_forms i b k n j a false true z p q r e = length_takes_2 i b k n j a (ltb-true _ _ q) e
length_forms i b k n j a false false true p q r e = length_takes_4 i b k n j a (ltb-true _ _ r) e
length_forms i b k n j a false false false p q r e = absurd cc

-- What is read as a length is encoded so.
pub length_takes : (i : Input) (n : ℕ) (j : Input) → length_at i ≡ Some (n, j) → IsEncodedAt length_form n i j
unfolding length_at
length_takes i n j e =
    let a = bind_some (number_at w8 i) (λ first. cond (ltb first.0 64) (Some first) (cond (ltb first.0 128) (longer w16 16448 16384 i) (cond (ltb first.0 192) (longer w32 2147500032 2147483648 i) None))) (n, j) e in
    length_forms i a.0.0 a.0.1 n j a.1 (ltb a.0.0 64) (ltb a.0.0 128) (ltb a.0.0 192) refl refl refl a.2

longer_again : (w : Width) (wide : IsWide w) (low by m : ℕ) (rest : List ℕ) (offset : ℕ) → m < 2 ^ bits w → low ≤ m → longer w low by (at offset (to_be_bytes w m ++ rest)) ≡ Some (m - by, at (offset + byte_len w) rest)
longer_again w wide low by m rest offset lt le =
    let one = (number_exact w wide).again m (to_be_bytes w m) rest offset tt (number_made w m lt) in
    rw (one, le-ltb m low le, wide.len m) refl

no_form : (n : ℕ) (front : List ℕ) → 1073741824 ≤ n → length_form n ≡ Some front → ⊥
unfolding length_form
no_form n front le e =
    let none : length_form n ≡ None = rw (le-ltb n 64 (omega arith), le-ltb n 16384 (omega arith), le-ltb n 1073741824 le) refl in
    let bad = sym none ∙ e in absurd cc

-- A length over the limit has no encoding.
pub no_length : (n : ℕ) → 1073741824 ≤ n → length_form n ≡ None
unfolding length_form
no_length n le = rw (le-ltb n 64 (omega arith), le-ltb n 16384 (omega arith), le-ltb n 1073741824 le) refl

again_1 : (n : ℕ) (rest : List ℕ) (offset : ℕ) → n < 64 → length_at (at offset (n ∷ rest)) ≡ Some (n, at (offset + 1) rest)
unfolding length_at
again_1 n rest offset lt = let read = byte_again n rest offset (omega arith) in rw (read, lt-ltb n 64 lt) refl

again_2 : (n : ℕ) (rest : List ℕ) (offset : ℕ) → 64 ≤ n → n < 16384 → length_at (at offset (to_be_bytes w16 (n + 16384) ++ rest)) ≡ Some (n, at (offset + 2) rest)
unfolding length_at
again_2 n rest offset le lt =
    let m = n + 16384 in
    let b = m / 256 % 256 in
    let read : number_at w8 (at offset (to_be_bytes w16 m ++ rest)) ≡ Some (b, at (offset + 1) (m % 256 ∷ rest)) = byte_again b (m % 256 ∷ rest) offset (omega arith) in
    let whole = longer_again w16 wide16 16448 16384 m rest offset (omega arith) (omega arith) in
    let back : m - 16384 ≡ n = omega arith in
    rw (read, le-ltb b 64 (omega arith), lt-ltb b 128 (omega arith), whole, back) refl

again_4 : (n : ℕ) (rest : List ℕ) (offset : ℕ) → 16384 ≤ n → n < 1073741824 → length_at (at offset (to_be_bytes w32 (n + 2147483648) ++ rest)) ≡ Some (n, at (offset + 4) rest)
unfolding length_at
again_4 n rest offset le lt =
    let m = n + 2147483648 in
    let b = m / 16777216 % 256 in
    let after = m / 65536 % 256 ∷ m / 256 % 256 ∷ m % 256 ∷ rest in
    let read : number_at w8 (at offset (to_be_bytes w32 m ++ rest)) ≡ Some (b, at (offset + 1) after) = byte_again b after offset (omega arith) in
    let whole = longer_again w32 wide32 2147500032 2147483648 m rest offset (omega arith) (omega arith) in
    let back : m - 2147483648 ≡ n = omega arith in
    rw (read, le-ltb b 64 (omega arith), le-ltb b 128 (omega arith), lt-ltb b 192 (omega arith), whole, back) refl

-- The encoding of a length, by its size.
pub length_cases : (n : ℕ) (front : List ℕ) → length_form n ≡ Some front
    → ((n < 64) × (n ∷ [] ≡ front)) ⊎ (((64 ≤ n) × (n < 16384) × (to_be_bytes w16 (n + 16384) ≡ front)) ⊎ ((16384 ≤ n) × (n < 1073741824) × (to_be_bytes w32 (n + 2147483648) ≡ front)))
length_cases n front e =
    elim (cases_lt n 64) [
      | inl lt ↦ inl (lt, some_is _ _ (sym (form_1 n lt) ∙ e))
      | inr le ↦ elim (cases_lt n 16384) [
        | inl lt ↦ inr (inl (le, lt, some_is _ _ (sym (form_2 n (n + 16384) le lt refl) ∙ e)))
        | inr le2 ↦ elim (cases_lt n 1073741824) [
          | inl lt ↦ inr (inr (le2, lt, some_is _ _ (sym (form_4 n (n + 2147483648) le2 lt refl) ∙ e)))
          | inr le3 ↦ absurd (no_form n front le3 e)
        ]
      ]
    ]

-- Reading a length is exact.
pub length_exact : IsExact length_form length_at
length_exact = record {
  takes = λ i n j e. (tt, length_takes i n j e);
  again = λ n front rest offset p e.
      elim (length_cases n front e) [
        | inl h ↦ subst (λ (f : List ℕ). length_at (at offset (f ++ rest)) ≡ Some (n, at (offset + length f) rest)) h.1 (again_1 n rest offset h.0)
        | inr (inl h) ↦ subst (λ (f : List ℕ). length_at (at offset (f ++ rest)) ≡ Some (n, at (offset + length f) rest)) h.2 (again_2 n rest offset h.0 h.1)
        | inr (inr h) ↦ subst (λ (f : List ℕ). length_at (at offset (f ++ rest)) ≡ Some (n, at (offset + length f) rest)) h.2 (again_4 n rest offset h.0 h.1)
      ];
}

-- A length that has an encoding is within the limit, and has at least one byte.
pub length_below : (n : ℕ) (front : List ℕ) → length_form n ≡ Some front → (n < 1073741824) × (0 < length front)
length_below n front e =
    elim (length_cases n front e) [
      | inl h ↦ (omega arith, omega (arith, ap length h.1))
      | inr (inl h) ↦ (omega arith, omega (arith, ap length h.2))
      | inr (inr h) ↦ (omega arith, omega (arith, ap length h.2))
    ]

-- A length has at most four bytes.
pub length_short : (n : ℕ) (front : List ℕ) → length_form n ≡ Some front → length front ≤ 4
length_short n front e =
    elim (length_cases n front e) [
      | inl h ↦ omega (arith, ap length h.1)
      | inr (inl h) ↦ omega (arith, ap length h.2)
      | inr (inr h) ↦ omega (arith, ap length h.2)
    ]
