-- What is read of the bytes of a source, however they are divided among reads.
use Rattle.std.proofs.Common.{◌≡◌, ◌∙◌, ℕ, ◌<◌, ◌≤◌, List, [], ◌++◌, length, take, drop, Bool, true, false, Option, Some, None, refl, sym, ap, arith, inl, inr, append-nil, length-append, length-take-le, take-append-drop, take_at}
use Rattle.std.specs.Prelude.{min, nat_le, ◌+◌}
use Rattle.std.proofs.lemmas.Bool.Decides.{nat_tests}
use Rattle.std.proofs.lemmas.List.{append_cancel_left}
use Rattle.std.specs.Io.KnownBytes.{Appends}
use Rattle.mls_wire.specs.Limits.{input_limit}
use Rattle.mls_follow.proofs.Readings.{fits_or_not}
use Rattle.mls_report.specs.ReportsExist.{InputExists}
use Rattle.mls_report.specs.UniqueReports.{InputIsUnique}
use Rattle.mls_show.specs.ReadAll.{ReadsAll}

-- what was written is what was appended
pub written_is : (before text line : List ℕ) → Appends (Some before) (Some (before ++ text)) line → text ≡ line
written_is before text line e = append_cancel_left before text line e

-- ---- what is read to its end

-- how long the bytes are that are taken
taken_length : (all bytes left : List ℕ) → all ≡ bytes ++ left → length bytes ≤ input_limit + 1 → (length bytes ≤ input_limit → left ≡ [])
    → (b : Bool) → nat_le (length bytes) input_limit ≡ b → length bytes ≡ min (length all) (input_limit + 1)
taken_length all bytes left e le whole true p =
    let none = whole (grind (arith, nat_tests)) in
    let len : length all ≡ length bytes = ap length (e ∙ ap (λ (x : List ℕ). bytes ++ x) none ∙ append-nil bytes) in
    omega (arith, len)
taken_length all bytes left e le whole false p =
    let len : length all ≡ length bytes + length left = ap length e ∙ length-append bytes left in
    let over : input_limit < length bytes = grind (arith, nat_tests) in
    omega (arith, len, over, le)

taken_front : (all bytes left : List ℕ) → all ≡ bytes ++ left → bytes ≡ take (length bytes) all
taken_front all bytes left e = sym (take_at bytes left (length bytes) refl) ∙ ap (take (length bytes)) (sym e)

taken_is : (all : List ℕ) (left : Option (List ℕ)) (bytes : List ℕ) → ReadsAll (Some all) left bytes → bytes ≡ take (min (length all) (input_limit + 1)) all
taken_is all None bytes h = absurd (h.taken)
taken_is all (Some left) bytes h =
    taken_front all bytes left h.taken
    ∙ ap (λ (n : ℕ). take n all) (taken_length all bytes left h.taken h.bounded h.whole (nat_le (length bytes) input_limit) refl)

pub one_input : InputIsUnique
one_input all left behind bytes more a b = taken_is all left bytes a ∙ sym (taken_is all behind more b)

-- the bytes are read, or so many of them
pub some_input : InputExists
some_input all =
    elim (fits_or_not all) [
      | inl le ↦ (all, Some [], record { taken = sym (append-nil all); bounded = omega (arith, le); whole = λ h. refl })
      | inr over ↦
          (let long : input_limit + 1 ≤ length all = above all over in
          let len = length-take-le (input_limit + 1) all long in (
            take (input_limit + 1) all,
            Some (drop (input_limit + 1) all),
            record { taken = sym (take-append-drop (input_limit + 1) all); bounded = omega (arith, len); whole = λ h. absurd (omega (arith, len, h)) },
          ))
    ]
  where
    above : (xs : List ℕ) → (length xs ≤ input_limit → ⊥) → input_limit + 1 ≤ length xs
    above xs over = omega (arith, over)
