-- What comes next in a log is determined by its bytes.
use Rattle.std.proofs.Common.{◌≡◌, ℕ, ◌+◌, ◌<◌, ◌≤◌, List, [], ◌∷◌, ◌++◌, length, take, drop, Option, Some, refl, sym, ap, subst, ◌∙◌, append_assoc, append-nil, arith, inl, inr, length-append, take-append-drop, take_at, drop_at}
use Rattle.std.proofs.lemmas.List.{take-append-le, nil_from_length}
use Rattle.mls_wire.specs.declared.log.LogStep.TheVariants as steps
use Rattle.mls_wire.specs.Input.{Input, at}
use Rattle.mls_wire.specs.Encoding.{length_form, vector}
use Rattle.mls_wire.specs.Parsing.{vector_at}
use Rattle.mls_wire.specs.EncodingConcat.{joined}
use Rattle.mls_wire.specs.LengthsExact.{length_below}
use Rattle.mls_wire.specs.OptionBind.{some_is}
use Rattle.mls_wire.specs.VectorsExact.{vector_exact}
use Rattle.mls_wire.specs.Logs.{length_size, IsRecord, IsBadLength, IsTruncatedRecord, IsBrokenAt, NextRecordIsDeterministic}
use Rattle.mls_wire.proofs.Logs.{form_size}

first_is : (a b : ℕ) (x y : List ℕ) → a ∷ x ≡ b ∷ y → a ≡ b
first_is a b x y e = cc

-- one list as two: where the parts in front are equally long they are equal, and so are the others
same_parts : (q r x y : List ℕ) → length q ≡ length r → q ++ x ≡ r ++ y → x ≡ y
same_parts q r x y len e = sym (drop_at q x (length q) refl) ∙ (ap (drop (length q)) e ∙ drop_at r y (length q) (sym len))

-- where the first part is not longer, the other begins with it
prefix : (q r x y : List ℕ) → length q ≤ length r → q ++ x ≡ r ++ y → q ++ drop (length q) r ≡ r
prefix q r x y le e =
    let front : q ≡ take (length q) r = sym (take_at q x (length q) refl) ∙ (ap (take (length q)) e ∙ take-append-le (length q) r y le) in
    ap (λ (z : List ℕ). z ++ drop (length q) r) front ∙ take-append-drop (length q) r

no_front : (x y : List ℕ) → [] ≡ x ++ y → 0 < length x → ⊥
no_front x y e lt = omega (arith, ap length e, length-append x y)

front_size : (front : List ℕ) (n : ℕ) → length_form n ≡ Some front → (first : ℕ) × (more : List ℕ) × (front ≡ first ∷ more) × (length front ≡ length_size first)
front_size [] n e = absurd (omega (arith, (length_below n [] e).1))
front_size (b ∷ bs) n e = (b, bs, refl, form_size n b bs e)

-- a record begins with a byte, and has all bytes of its length
record_head : (read body : List ℕ) → IsRecord read body → (first : ℕ) × (more : List ℕ) × (read ≡ first ∷ more) × (length_size first ≤ length read)
unfolding vector
record_head read body made =
    let a = joined (length_form (length body)) (Some body) read made.encoded in
    let f = front_size a.0 (length body) a.2 in
    (f.0, f.1 ++ a.1, a.4 ∙ ap (λ (x : List ℕ). x ++ a.1) f.2, omega (arith, f.3, ap length a.4, length-append a.0 a.1))

-- bytes begin with one record at most
one_record : (r q x y b c : List ℕ) → IsRecord r b → IsRecord q c → r ++ x ≡ q ++ y → (b ≡ c) × (x ≡ y)
one_record r q x y b c one two e =
    let left = vector_exact.again b r x 0 tt one.encoded in
    let right = vector_exact.again c q y 0 tt two.encoded in
    let same : (b, at (0 + length r) x) ≡ (c, at (0 + length q) y) = some_is _ _ (sym left ∙ (ap (λ (z : List ℕ). vector_at (at 0 z)) e ∙ right)) in
    (ap (λ (z : List ℕ × Input). z.0) same, ap (λ (z : List ℕ × Input). z.1.left) same)

same_first : (q r x y : List ℕ) (a b : ℕ) (m n : List ℕ) → q ≡ a ∷ m → r ≡ b ∷ n → q ++ x ≡ r ++ y → a ≡ b
same_first q r x y a b m n e f same = first_is a b (m ++ x) (n ++ y) (ap (λ (z : List ℕ). z ++ x) (sym e) ∙ (same ∙ ap (λ (z : List ℕ). z ++ y) f))

-- no record begins with a bad length
bad_no_record : (q r x y b : List ℕ) → IsBadLength q → IsRecord r b → q ++ x ≡ r ++ y → ⊥
bad_no_record q r x y b bad made e =
    let h = record_head r b made in
    let first : bad.first ≡ h.0 = same_first q r x y bad.first h.0 bad.more h.1 bad.begins h.2 e in
    let le : length q ≤ length r = omega (arith, bad.whole, ap length_size first, h.3) in
    bad.none b (drop (length q) r) (subst (λ (z : List ℕ). IsRecord z b) (sym (prefix q r x y le e)) made)

-- a log that ends inside a record does not begin with one
cut_no_record : (q r y b : List ℕ) → IsTruncatedRecord q → IsRecord r b → q ++ [] ≡ r ++ y → ⊥
cut_no_record q r y b cut made e =
    let whole : q ≡ r ++ y = sym (append-nil q) ∙ e in
    elim cut.stops [
      | inl lt ↦
          let h = record_head r b made in
          let first : cut.first ≡ h.0 = same_first q r [] y cut.first h.0 cut.more h.1 cut.begins h.2 e in
          omega (arith, lt, ap length_size first, h.3, ap length whole, length-append r y)
      | inr s ↦
          let text : (q ++ s.1) ++ [] ≡ r ++ (y ++ s.1) = append-nil (q ++ s.1) ∙ (ap (λ (z : List ℕ). z ++ s.1) whole ∙ append_assoc r y s.1) in
          let none : [] ≡ y ++ s.1 = (one_record (q ++ s.1) r [] (y ++ s.1) s.0 b s.3 made text).1 in
          s.2 (nil_from_length s.1 (omega (arith, ap length none, length-append y s.1)))
    ]

-- nor with a bad length
cut_not_bad : (q r x : List ℕ) → IsBadLength q → IsTruncatedRecord r → q ++ x ≡ r ++ [] → ⊥
cut_not_bad q r x bad cut e =
    let whole : q ++ x ≡ r = e ∙ append-nil r in
    elim cut.stops [
      | inl lt ↦
          let first : bad.first ≡ cut.first = same_first q r x [] bad.first cut.first bad.more cut.more bad.begins cut.begins e in
          omega (arith, lt, bad.whole, ap length_size first, ap length whole, length-append q x)
      | inr s ↦
          let text : r ++ s.1 ≡ q ++ (x ++ s.1) = ap (λ (z : List ℕ). z ++ s.1) (sym whole) ∙ append_assoc q x s.1 in
          bad.none s.0 (x ++ s.1) (subst (λ (z : List ℕ). IsRecord z s.0) text s.3)
    ]

one_bad : (q r x y : List ℕ) → IsBadLength q → IsBadLength r → q ++ x ≡ r ++ y → x ≡ y
one_bad q r x y one two e =
    let first : one.first ≡ two.first = same_first q r x y one.first two.first one.more two.more one.begins two.begins e in
    same_parts q r x y (one.whole ∙ (ap length_size first ∙ sym two.whole)) e

-- a break begins with a byte
break_some : (most : ℕ) (q : List ℕ) (left : Option (List ℕ)) → IsBrokenAt most q left → 0 < length q
break_some most q left (inl h) = omega arith
break_some most q left (inr (most_, inl bad)) = omega (arith, ap length bad.begins)
break_some most q left (inr (most_, inr cut)) = omega (arith, ap length cut.0.begins)

record_no_break : (most : ℕ) (r q x y b : List ℕ) → 0 < most → IsRecord r b → IsBrokenAt most q (Some y) → q ++ y ≡ r ++ x → ⊥
record_no_break most r q x y b some made (inl h) e = omega (arith, some, h.0)
record_no_break most r q x y b some made (inr (most_, inl bad)) e = bad_no_record q r y x b bad made e
record_no_break most r q x y b some made (inr (most_, inr cut)) e = cut_no_record q r x b cut.0 made (ap (λ (z : List ℕ). q ++ z) (sym cut.1) ∙ e)

one_break : (most : ℕ) (q r x y : List ℕ) → IsBrokenAt most q (Some x) → IsBrokenAt most r (Some y) → q ++ x ≡ r ++ y → x ≡ y
one_break most q r x y (inl h) (inl k) e = same_parts q r x y (h.1 ∙ sym k.1) e
one_break most q r x y (inl h) (inr k) e = absurd (omega (arith, h.0, k.0))
one_break most q r x y (inr h) (inl k) e = absurd (omega (arith, h.0, k.0))
one_break most q r x y (inr (m, inl bad)) (inr (n, inl other)) e = one_bad q r x y bad other e
one_break most q r x y (inr (m, inl bad)) (inr (n, inr cut)) e = absurd (cut_not_bad q r x bad cut.0 (e ∙ ap (λ (z : List ℕ). r ++ z) cut.1))
one_break most q r x y (inr (m, inr cut)) (inr (n, inl bad)) e = absurd (cut_not_bad r q y bad cut.0 (sym e ∙ ap (λ (z : List ℕ). q ++ z) cut.1))
one_break most q r x y (inr (m, inr cut)) (inr (n, inr other)) e = cut.1 ∙ sym other.1

record_some : (r b : List ℕ) → IsRecord r b → 0 < length r
record_some r b made = let h = record_head r b made in omega (arith, ap length h.2)

-- what comes next
pub meets_once : NextRecordIsDeterministic
meets_once before after other most body more steps.Record steps.Record h k =
    let one = one_record h.1 k.1 after other body more h.3 k.3 (sym h.2 ∙ k.2) in
    (refl, one.1, λ e. one.0)
meets_once before after other most body more steps.Record steps.End h k = absurd (no_front h.1 after (sym (k.0 ∙ k.1) ∙ h.2) (record_some h.1 body h.3))
meets_once before after other most body more steps.Record steps.Broken h k = absurd (record_no_break most h.1 k.0 after other body h.0 h.3 k.2 (sym k.1 ∙ h.2))
meets_once before after other most body more steps.Record steps.Over h k = absurd k
meets_once before after other most body more steps.End steps.Record h k = absurd (no_front k.1 other (sym (h.0 ∙ h.1) ∙ k.2) (record_some k.1 more k.3))
meets_once before after other most body more steps.End steps.End h k = (refl, h.1 ∙ sym k.1, λ e. absurd cc)
meets_once before after other most body more steps.End steps.Broken h k = absurd (no_front k.0 other (sym (h.0 ∙ h.1) ∙ k.1) (break_some most k.0 (Some other) k.2))
meets_once before after other most body more steps.End steps.Over h k = absurd k
meets_once before after other most body more steps.Broken steps.Record h k = absurd (record_no_break most k.1 h.0 other after more k.0 k.3 h.2 (sym h.1 ∙ k.2))
meets_once before after other most body more steps.Broken steps.End h k = absurd (no_front h.0 after (sym (k.0 ∙ k.1) ∙ h.1) (break_some most h.0 (Some after) h.2))
meets_once before after other most body more steps.Broken steps.Broken h k = (refl, one_break most h.0 k.0 after other h.2 k.2 (sym h.1 ∙ k.1), λ e. absurd cc)
meets_once before after other most body more steps.Broken steps.Over h k = absurd k
meets_once before after other most body more steps.Over t h k = absurd h
