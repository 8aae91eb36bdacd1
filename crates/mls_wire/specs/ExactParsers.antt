-- A reading function is exact for an encoding if it reads exactly the encoded values. Each way of combining formats
-- preserves this. Internal: no public contract uses this.
use Rattle.std.proofs.Common.{◌≡◌, ◌≢◌, ℕ, ◌+◌, ◌<◌, Bool, true, false, cond, eqb, List, [], ◌++◌, length, Option, Some, None, refl, sym, ap, subst, ◌∙◌, append_assoc, arith}
use Rattle.std.proofs.lemmas.Bool.{eqb-true, eqb-false}
use Rattle.std.proofs.lemmas.List.{length-append}
use Rattle.mls_wire.specs.Input.{Input, at}
use Rattle.mls_wire.specs.Encoding.{◌⊕◌}
use Rattle.mls_wire.specs.ReadContracts.{IsEncodedAt}
use Rattle.mls_wire.specs.Parsing.{◌>>=◌}
use Rattle.mls_wire.specs.OptionBind.{bind_some, some_is}
use Rattle.mls_wire.specs.EncodingConcat.{joined, join}

-- `Exact P encoding read`: each value that `read` returns satisfies P and was encoded at the front. Each encoded value
-- that satisfies P is read again, at any offset and before any bytes.
pub record Exact {A : Type 0} (P : A → Type 0) (encoding : A → Option (List ℕ)) (read : Input → Option (A × Input)) : Type 0 where
  pub takes : (i : Input) (x : A) (j : Input) → read i ≡ Some (x, j) → P x × IsEncodedAt encoding x i j
  pub again : (x : A) (front rest : List ℕ) (offset : ℕ) → P x → encoding x ≡ Some front → read (at offset (front ++ rest)) ≡ Some (x, at (offset + length front) rest)

-- `Any x` holds of every value.
abbrev pub Any : {A : Type 0} → A → Type 0
Any x = Unit {0}

-- `IsExact encoding read`: `read` is exact for all values.
abbrev pub IsExact : {A : Type 0} → (A → Option (List ℕ)) → (Input → Option (A × Input)) → Type 0
IsExact encoding read = Exact Any encoding read

-- `IsLong s`: each encoding has at least one byte.
abbrev pub IsLong : {A : Type 0} → (A → Option (List ℕ)) → Type 0
IsLong {A} s = (x : A) (front : List ℕ) → s x ≡ Some front → 0 < length front

module _ {A R : Type 0} (P : R → Type 0) (field : R → A) (s : A → Option (List ℕ)) (t : R → Option (List ℕ)) (f : Input → Option (A × Input)) (k : A × Input → Option (R × Input)) where
  -- A field, and then what is read depending on its value.
  pub field_then : IsExact s f → ((a : A) → Exact (λ r. P r × (field r ≡ a)) t (λ j. k (a, j))) → Exact P (λ r. s (field r) ⊕ t r) (λ i. f i >>= k)
  field_then first others = record {
    takes = λ i r j e.
        let b = bind_some (f i) k (r, j) e in
        let one = (first.takes i b.0.0 b.0.1 b.1).1 in
        let two = (others b.0.0).takes b.0.1 r j b.2 in
        let encoded : s (field r) ≡ Some one.0 = rw two.0.1 one.1 in
        (two.0.0, (one.0 ++ two.1.0, join _ _ _ _ encoded two.1.1, one.2 ∙ ap (λ (x : List ℕ). one.0 ++ x) two.1.2 ∙ sym (append_assoc one.0 two.1.0 j.left), omega (arith, one.3, two.1.3, length-append one.0 two.1.0)));
    again = λ r front rest offset p e.
        let b = joined (s (field r)) (t r) front e in
        let one = first.again (field r) b.0 (b.1 ++ rest) offset tt b.2 in
        let two = (others (field r)).again r b.1 rest (offset + length b.0) (p, refl) b.3 in
        let text : front ++ rest ≡ b.0 ++ (b.1 ++ rest) = ap (λ (x : List ℕ). x ++ rest) b.4 ∙ append_assoc b.0 b.1 rest in
        let end : (offset + length b.0) + length b.1 ≡ offset + length front = omega (arith, length-append b.0 b.1, ap length b.4) in
        ap (λ (x : List ℕ). f (at offset x) >>= k) text ∙ rw one two ∙ ap (λ (n : ℕ). Some (r, at n rest)) end;
  }

module _ {A R : Type 0} (P : R → Type 0) (make : A → R) (s : A → Option (List ℕ)) (t : R → Option (List ℕ)) (f : Input → Option (A × Input)) where
  -- Values made of one part.
  pub made_of : IsExact s f → ((a : A) → P (make a)) → ((a : A) → t (make a) ≡ s a) → ((r : R) → P r → (a : A) × (make a ≡ r)) → Exact P t (λ i. f i >>= λ a. Some (make a.0, a.1))
  made_of part holds encoded all = record {
    takes = λ i r j e.
        let b = bind_some (f i) (λ a. Some (make a.0, a.1)) (r, j) e in
        let one = (part.takes i b.0.0 b.0.1 b.1).1 in
        subst (λ (x : R × Input). P x.0 × IsEncodedAt t x.0 i x.1) (some_is (make b.0.0, b.0.1) (r, j) b.2) (holds b.0.0, (one.0, encoded b.0.0 ∙ one.1, one.2, one.3));
    again = λ r front rest offset p e.
        let a = all r p in
        let there : s a.0 ≡ Some front = sym (encoded a.0) ∙ (ap t a.1 ∙ e) in
        let one = part.again a.0 front rest offset tt there in
        rw one (ap (λ (x : R). Some (x, at (offset + length front) rest)) a.1);
  }

module _ {R : Type 0} (P : R → Type 0) (t : R → Option (List ℕ)) where
  pub chosen : (f g : Input → Option (R × Input)) (b : Bool) → (b ≡ true → Exact P t f) → (b ≡ false → Exact P t g) → Exact P t (λ i. cond b (f i) (g i))
  chosen f g true when_true when_false = when_true refl
  chosen f g false when_true when_false = when_false refl

  pub never : ((r : R) → P r → ⊥) → Exact P t (λ i. None)
  never none = record { takes = λ i r j e. absurd cc; again = λ r front rest offset p e. absurd (none r p) }

  -- Nothing is left to read.
  pub known : (x : R) → P x → t x ≡ Some [] → ((r : R) → P r → x ≡ r) → Exact P t (λ i. Some (x, i))
  known x holds encoded one = record {
    takes = λ i r j e.
        subst (λ (y : R × Input). P y.0 × IsEncodedAt t y.0 i y.1) (some_is (x, i) (r, j) e) (holds, ([], encoded, refl, omega arith));
    again = λ r front rest offset p e.
        let none : [] ≡ front = some_is _ _ (sym encoded ∙ (ap t (one r p) ∙ e)) in
        rw (← none, one r p) (ap (λ (n : ℕ). Some (r, at n rest)) (omega arith));
  }

  pub encoded_as : (s : R → Option (List ℕ)) (f : Input → Option (R × Input)) → ((r : R) → s r ≡ t r) → Exact P s f → Exact P t f
  encoded_as s f same h = record {
    takes = λ i r j e. let b = h.takes i r j e in (b.0, (b.1.0, sym (same r) ∙ b.1.1, b.1.2, b.1.3));
    again = λ r front rest offset p e. h.again r front rest offset p (same r ∙ e);
  }

module _ {R : Type 0} (tag : R → ℕ) (t : R → Option (List ℕ)) (f g : Input → Option (R × Input)) where
  -- The values with one tag, and those with others.
  pub tag_is : (n k : ℕ) → Exact (λ r. Unit {0} × (tag r ≡ k)) t f → ((n ≢ k) → Exact (λ r. Unit {0} × (tag r ≡ n)) t g) → Exact (λ r. Unit {0} × (tag r ≡ n)) t (λ i. cond (eqb n k) (f i) (g i))
  tag_is n k here others =
      chosen (λ r. Unit {0} × (tag r ≡ n)) t f g (eqb n k)
      (λ e. subst (λ (m : ℕ). Exact (λ r. Unit {0} × (tag r ≡ m)) t f) (sym (eqb-true n k e)) here)
      (λ e. others (λ d. eqb-false n k e d))
