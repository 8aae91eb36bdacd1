-- The lines of a file of receipts, one after the other.
use Rattle.std.proofs.Common.{◌≡◌, ◌≢◌, ℕ, suc, ◌+◌, ◌-◌, ◌/◌, ◌%◌, ◌<◌, ◌≤◌, Bool, true, false, cond, ltb, eqb, List, [], ◌∷◌, ◌++◌, length, take, drop, map, Option, Some, None, Result, Ok, Err, length-drop, refl, sym, ap, ◌∙◌, append_assoc, arith, inl, inr}
use Rattle.std.specs.List.{position_or_len}
use Rattle.std.proofs.lemmas.Bool.{cases_eq, cases_lt, eqb-true}
use Rattle.std.proofs.lemmas.Bool.Decides.{nat_tests}
use Rattle.std.proofs.lemmas.List.{take_all, map-append, append-nil}
use Rattle.hex.specs.Hex.{decode_sized}
use Rattle.hex.specs.declared.error.FromHexError.{FromHexError}
use Rattle.mls_check.specs.Receipts.{receipt_lines, before_lines, digest_of, decoded, bad_line_from}

-- the byte that ends a line
abbrev pub is_end : ℕ → Bool
is_end b = eqb b 10

-- the place of the first LF, or the length
abbrev pub end_of : List ℕ → ℕ
end_of bytes = position_or_len is_end bytes

receipt_lines-lf : (b : ℕ) (bytes : List ℕ) → b ≡ 10 → receipt_lines (b ∷ bytes) ≡ [] ∷ receipt_lines bytes
unfolding receipt_lines
receipt_lines-lf b bytes e = grind (arith, nat_tests)

receipt_lines-byte : (b : ℕ) (bytes : List ℕ) → b ≢ 10 → receipt_lines (b ∷ bytes) ≡ before_lines b (receipt_lines bytes)
unfolding receipt_lines
receipt_lines-byte b bytes e = grind (arith, nat_tests)

end_of-lf : (b : ℕ) (bytes : List ℕ) → b ≡ 10 → end_of (b ∷ bytes) ≡ 0
end_of-lf b bytes e = rw e refl

end_of-byte : (b : ℕ) (bytes : List ℕ) → b ≢ 10 → end_of (b ∷ bytes) ≡ suc (end_of bytes)
end_of-byte b bytes e =
    let other : is_end b ≡ false = grind (arith, nat_tests) in
    let more : 1 + end_of bytes ≡ suc (end_of bytes) = omega arith in
    rw other more

pub receipt_lines-nil : receipt_lines [] ≡ []
unfolding receipt_lines
receipt_lines-nil = refl

-- the first line ends at the first LF
pub receipt_lines-end : (bytes : List ℕ) → end_of bytes < length bytes → receipt_lines bytes ≡ take (end_of bytes) bytes ∷ receipt_lines (drop (end_of bytes + 1) bytes)
receipt_lines-end [] low = absurd (omega arith)
receipt_lines-end (b ∷ bytes) low =
    elim (cases_eq b 10) [
      | inl here ↦ rw (end_of-lf b bytes here) (receipt_lines-lf b bytes here)
      | inr other ↦
          let n = end_of-byte b bytes other in
          let more = receipt_lines-end bytes (omega (arith, n)) in
          let same : suc (end_of bytes) + 1 ≡ suc (end_of bytes + 1) = omega arith in
          rw (n, same) (receipt_lines-byte b bytes other ∙ ap (before_lines b) more)
    ]

-- the last line may have no LF
pub receipt_lines-last : (bytes : List ℕ) → 0 < length bytes → length bytes ≤ end_of bytes → receipt_lines bytes ≡ bytes ∷ []
receipt_lines-last [] some all = absurd (omega arith)
receipt_lines-last (b ∷ []) some all =
    elim (cases_eq b 10) [
      | inl here ↦ let e = end_of-lf b [] here in absurd (omega (arith, e))
      | inr other ↦ receipt_lines-byte b [] other ∙ ap (before_lines b) receipt_lines-nil
    ]
receipt_lines-last (b ∷ a ∷ bytes) some all =
    elim (cases_eq b 10) [
      | inl here ↦ let e = end_of-lf b (a ∷ bytes) here in absurd (omega (arith, e))
      | inr other ↦
          let e = end_of-byte b (a ∷ bytes) other in
          receipt_lines-byte b (a ∷ bytes) other ∙ ap (before_lines b) (receipt_lines-last (a ∷ bytes) (omega arith) (omega (arith, e)))
    ]

-- the place that a search for LF answers
abbrev pub found_end : List ℕ → Option ℕ
found_end bytes = cond (ltb (end_of bytes) (length bytes)) (Some (end_of bytes)) None

found_end-in : (bytes : List ℕ) → end_of bytes < length bytes → found_end bytes ≡ Some (end_of bytes)
found_end-in bytes low = let t : ltb (end_of bytes) (length bytes) ≡ true = grind (arith, nat_tests) in rw t refl

found_end-out : (bytes : List ℕ) → length bytes ≤ end_of bytes → found_end bytes ≡ None
found_end-out bytes all = let t : ltb (end_of bytes) (length bytes) ≡ false = grind (arith, nat_tests) in rw t refl

-- where LF was found, the first line stands before it, and the others after it
pub line_found : (bytes : List ℕ) (i : ℕ) → Some i ≡ found_end bytes → receipt_lines bytes ≡ take i bytes ∷ receipt_lines (take (length bytes - (i + 1)) (drop (i + 1) bytes))
line_found bytes i e =
    elim (cases_lt (end_of bytes) (length bytes)) [
      | inl low ↦
          let f : ◌≡◌ {A = Option ℕ} (Some i) (Some (end_of bytes)) = e ∙ found_end-in bytes low in
          let same : i ≡ end_of bytes = cc in
          let whole = take_all (length bytes - (end_of bytes + 1)) (drop (end_of bytes + 1) bytes) (omega (arith, length-drop (end_of bytes + 1) bytes)) in
          rw (same, whole) (receipt_lines-end bytes low)
      | inr all ↦ let f : ◌≡◌ {A = Option ℕ} (Some i) None = e ∙ found_end-out bytes all in absurd cc
    ]

-- where none was found, there is one line
pub line_missing : (bytes : List ℕ) → 0 < length bytes → None ≡ found_end bytes → receipt_lines bytes ≡ bytes ∷ receipt_lines []
line_missing bytes some e =
    elim (cases_lt (end_of bytes) (length bytes)) [
      | inl low ↦ let f : ◌≡◌ {A = Option ℕ} None (Some (end_of bytes)) = e ∙ found_end-in bytes low in absurd cc
      | inr all ↦ rw receipt_lines-nil (receipt_lines-last bytes some all)
    ]

-- ---- the digest on a line

digest_of-other : (line : List ℕ) → length line ≢ 64 → digest_of line ≡ None
unfolding digest_of
digest_of-other line other = let t : eqb (length line) 64 ≡ false = grind (arith, nat_tests) in rw t refl

decode_sized-other : (line : List ℕ) → length line ≢ 64 → decoded (decode_sized line 32) ≡ None
decode_sized-other line other =
    elim (cases_eq (length line % 2) 1) [
      | inl odd ↦ let t : eqb (length line % 2) 1 ≡ true = grind (arith, nat_tests) in rw t refl
      | inr even ↦
          let t : eqb (length line % 2) 1 ≡ false = grind (arith, nat_tests) in
          let n : length line / 2 ≢ 32 = λ child. other (omega arith) in
          let u : eqb (length line / 2) 32 ≡ false = grind (arith, nat_tests) in
          rw (t, u) refl
    ]

-- sixty-four digits are what fits into 32 bytes
digest_of-decoded : (line : List ℕ) → digest_of line ≡ decoded (decode_sized line 32)
unfolding digest_of
digest_of-decoded line =
    elim (cases_eq (length line) 64) [
      | inl same ↦ rw same refl
      | inr other ↦ digest_of-other line other ∙ sym (decode_sized-other line other)
    ]

pub digest_found : (line : List ℕ) (r : Result (List ℕ) FromHexError) (digest : List ℕ) → r ≡ decode_sized line 32 → r ≡ Ok digest → digest_of line ≡ Some digest
digest_found line r digest e f = digest_of-decoded line ∙ ap decoded (sym e ∙ f)

pub digest_missing : (line : List ℕ) (r : Result (List ℕ) FromHexError) (fault : FromHexError) → r ≡ decode_sized line 32 → r ≡ Err fault → digest_of line ≡ None
digest_missing line r fault e f = digest_of-decoded line ∙ ap decoded (sym e ∙ f)

-- ---- going on by one line

pub digests_more : (all : List (Option (List ℕ))) (done : List (List ℕ)) (line digest : List ℕ) (lines : List (List ℕ))
    → all ≡ map (λ d. Some d) done ++ map digest_of (line ∷ lines) → digest_of line ≡ Some digest
    → all ≡ map (λ d. Some d) (done ++ digest ∷ []) ++ map digest_of lines
digests_more all done line digest lines e f =
    let some = λ (d : List ℕ). Some d in
    let parts : map some (done ++ digest ∷ []) ≡ map some done ++ Some digest ∷ [] = map-append some done (digest ∷ []) in
    e ∙ (ap (λ (d : Option (List ℕ)). map some done ++ d ∷ map digest_of lines) f ∙ (sym (append_assoc (map some done) (Some digest ∷ []) (map digest_of lines)) ∙ ap (λ (xs : List (Option (List ℕ))). xs ++ map digest_of lines) (sym parts)))

pub bad_more : (bad : Option ℕ) (n : ℕ) (line digest : List ℕ) (lines : List (List ℕ)) → bad ≡ bad_line_from n (line ∷ lines) → digest_of line ≡ Some digest → bad ≡ bad_line_from (n + 1) lines
bad_more bad n line digest lines e f = rw f at e

pub bad_here : (bad : Option ℕ) (n : ℕ) (line : List ℕ) (lines : List (List ℕ)) → bad ≡ bad_line_from n (line ∷ lines) → digest_of line ≡ None → bad ≡ Some n
bad_here bad n line lines e f = rw f at e

pub digests_all : (all : List (Option (List ℕ))) (done : List (List ℕ)) (rest : List ℕ) → all ≡ map (λ d. Some d) done ++ map digest_of (receipt_lines rest) → eqb (length rest) 0 ≡ true
    → all ≡ map (λ d. Some d) done
digests_all all done [] e f = let h = rw receipt_lines-nil at e in h ∙ append-nil (map (λ d. Some d) done)
digests_all all done (b ∷ rest) e f = absurd (omega (arith, eqb-true (suc (length rest)) 0 f))
