-- How records and lengths begin.
use Rattle.std.proofs.Common.{◌≡◌, ◌≢◌, ℕ, ◌+◌, ◌-◌, ◌/◌, ◌%◌, ◌<◌, ◌≤◌, List, [], ◌∷◌, ◌++◌, length, take, drop, replicate, Option, Some, None, refl, sym, ap, subst, ◌∙◌, append_assoc, append-nil, arith, ◌⊎◌, inl, inr, length-append, length-take-le, take-append-drop, take_at}
use Rattle.std.specs.Prelude.{MatchOption, OnErr, IfErr, IsErr, Result, Ok, Err}
use Rattle.std.specs.Io.KnownBytes.{Consumes}
use Rattle.mls_wire.specs.declared.log.LogStep.{LogStep}
use Rattle.mls_wire.specs.declared.log.LogStep.TheVariants as steps
use Rattle.mls_wire.specs.declared.fault.RunFault.{RunFault}
use Rattle.mls_wire.specs.declared.fault.RunFault.TheVariants as faults
use Rattle.std.proofs.lemmas.Bool.{lt-ltb, le-ltb}
use Rattle.std.proofs.lemmas.List.{length-replicate, take_all, take-take, take-append-le}
use Rattle.mls_wire.specs.Limits.{input_limit}
use Rattle.mls_wire.specs.Input.{Input, at}
use Rattle.mls_wire.specs.Encoding.{length_form, vector}
use Rattle.mls_wire.specs.EncodingConcat.{joined, join}
use Rattle.mls_wire.specs.Parsing.{length_at}
use Rattle.mls_wire.specs.LengthsExact.{length_cases, length_below, length_takes, length_exact}
use Rattle.mls_wire.specs.OptionBind.{some_is}
use Rattle.mls_wire.specs.Logs.{length_size, IsRecord, IsBadLength, IsTruncatedRecord, IsIncomplete, ReadsRecord}

size_1 : (b : ℕ) → b < 64 → length_size b ≡ 1
unfolding length_size
size_1 b lt = rw (lt-ltb b 64 lt) refl

size_2 : (b : ℕ) → 64 ≤ b → b < 128 → length_size b ≡ 2
unfolding length_size
size_2 b le lt = rw (le-ltb b 64 le, lt-ltb b 128 lt) refl

size_4 : (b : ℕ) → 128 ≤ b → b < 192 → length_size b ≡ 4
unfolding length_size
size_4 b le lt = let le2 : 64 ≤ b = omega arith in rw (le-ltb b 64 le2, le-ltb b 128 le, lt-ltb b 192 lt) refl

head_of : (a b : ℕ) (x y : List ℕ) → a ∷ x ≡ b ∷ y → a ≡ b
head_of a b x y e = cc

-- the first byte of a length tells how many bytes it has
pub form_size : (n first : ℕ) (more : List ℕ) → length_form n ≡ Some (first ∷ more) → length (first ∷ more) ≡ length_size first
form_size n first more e =
    elim (length_cases n (first ∷ more) e) [
      | inl h ↦
          let b : n ≡ first = head_of n first _ _ h.1 in
          ap length (sym h.1) ∙ sym (size_1 first (omega arith))
      | inr (inl h) ↦
          let b : (n + 16384) / 256 % 256 ≡ first = head_of _ first _ _ h.2 in
          ap length (sym h.2) ∙ sym (size_2 first (omega (arith, b, h.0, h.1)) (omega (arith, b, h.0, h.1)))
      | inr (inr h) ↦
          let b : (n + 2147483648) / 16777216 % 256 ≡ first = head_of _ first _ _ h.2 in
          ap length (sym h.2) ∙ sym (size_4 first (omega (arith, b, h.0, h.1)) (omega (arith, b, h.0, h.1)))
    ]

-- the length of a body, and the body
pub record_made : (head body : List ℕ) → length_form (length body) ≡ Some head → length body ≤ input_limit → IsRecord (head ++ body) body
unfolding vector
record_made head body e le = record { encoded = join _ _ head body e refl; bounded = le }

nothing_short : (n : ℕ) (xs : List ℕ) → length xs ≡ n → 0 < n → xs ≢ []
nothing_short n xs e lt none = omega (arith, ap length none)

-- a length, and fewer bytes than it says
pub body_cut : (n first : ℕ) (more got : List ℕ) → length_form n ≡ Some (first ∷ more) → n ≤ input_limit → length got < n → IsTruncatedRecord (first ∷ (more ++ got))
body_cut n first more got e le lt =
    let head : List ℕ = first ∷ more in
    let rest : List ℕ = replicate (n - length got) 0 in
    let len : length rest ≡ n - length got = length-replicate (n - length got) 0 in
    let body : List ℕ = got ++ rest in
    let same : length body ≡ n = omega (arith, length-append got rest) in
    let made : IsRecord (head ++ body) body = record_made head body (ap length_form same ∙ e) (omega arith) in
    record {
      first = first;
      more = more ++ got;
      begins = refl;
      stops = inr (body, rest, nothing_short (n - length got) rest len (omega arith), subst (λ (x : List ℕ). IsRecord x body) (sym (append_assoc head got rest)) made);
    }

-- fewer bytes than the length has
pub length_cut : (first : ℕ) (more : List ℕ) → length (first ∷ more) < length_size first → IsTruncatedRecord (first ∷ more)
length_cut first more lt = record { first = first; more = more; begins = refl; stops = inl lt }

same_front : (a b x y : List ℕ) → length a ≡ length b → a ++ x ≡ b ++ y → a ≡ b
same_front a b x y len e = sym (take_at a x (length a) refl) ∙ (ap (take (length a)) e ∙ take_at b y (length a) (sym len))

front_form : (read rest front body : List ℕ) (n first : ℕ) (more : List ℕ) → length_form n ≡ Some front → read ≡ first ∷ more → length read ≡ length_size first → read ++ rest ≡ front ++ body → read ≡ front
front_form read rest [] body n first more e begins whole same = absurd (omega (arith, (length_below n [] e).1))
front_form read rest (b ∷ bs) body n first more e begins whole same =
    let b_is : b ≡ first = head_of b first _ _ (sym same ∙ ap (λ (x : List ℕ). x ++ rest) begins) in
    same_front read (b ∷ bs) rest body (whole ∙ (ap length_size (sym b_is) ∙ sym (form_size n b bs e))) same

-- a whole length that is none of a record's body
pub bad_length : (read : List ℕ) (first : ℕ) (more : List ℕ) → read ≡ first ∷ more → length read ≡ length_size first → ((n : ℕ) → n ≤ input_limit → length_form n ≡ Some read → ⊥) → IsBadLength read
unfolding vector
bad_length read first more begins whole refused = record {
  first = first;
  more = more;
  begins = begins;
  whole = whole;
  none = λ body rest made.
      let a = joined (length_form (length body)) (Some body) (read ++ rest) made.encoded in
      let front : read ≡ a.0 = front_form read rest a.0 a.1 (length body) first more a.2 begins whole a.4 in
      refused (length body) made.bounded (a.2 ∙ ap (λ (x : List ℕ). Some x) (sym front));
}

module _ (bytes : List ℕ) (first : ℕ) (more : List ℕ) (begins : bytes ≡ first ∷ more) (whole : length bytes ≡ length_size first) where
  -- what is read from a whole length is spelled by all of it
  pub size_found : (n : ℕ) (j : Input) → length_at (at 0 bytes) ≡ Some (n, j) → length_form n ≡ Some bytes
  size_found n j e =
      let t = length_takes (at 0 bytes) n j e in
      let front : bytes ≡ t.0 = front_form bytes [] t.0 j.left n first more t.1 begins whole (append-nil bytes ∙ t.2) in
      t.1 ∙ ap (λ (x : List ℕ). Some x) (sym front)

  again : (n : ℕ) → length_form n ≡ Some bytes → length_at (at 0 bytes) ≡ Some (n, at (0 + length bytes) [])
  again n form = ap (λ (x : List ℕ). length_at (at 0 x)) (sym (append-nil bytes)) ∙ length_exact.again n bytes [] 0 tt form

  -- no length is read
  pub size_refused : length_at (at 0 bytes) ≡ None → IsBadLength bytes
  size_refused e = bad_length bytes first more begins whole (λ n le form. let bad = sym e ∙ again n form in absurd cc)

  -- a length over the limit is read
  pub size_over : (m : ℕ) (j : Input) → length_at (at 0 bytes) ≡ Some (m, j) → input_limit < m → IsBadLength bytes
  size_over m j e lt = bad_length bytes first more begins whole (λ n le form.
      let same : (m, j) ≡ (n, at (0 + length bytes) []) = some_is _ _ (sym e ∙ again n form) in
      let n_is : m ≡ n = ap (λ (x : ℕ × Input). x.0) same in
      omega (arith, le, lt, n_is))

-- the front of two lists, where it reaches into the second
pub take_past : (p q : List ℕ) (n m : ℕ) → length p ≡ n → m ≤ length q → take (n + m) (p ++ q) ≡ p ++ take m q
take_past p q n m e le =
    let whole : p ++ q ≡ (p ++ take m q) ++ drop m q = ap (λ (x : List ℕ). p ++ x) (sym (take-append-drop m q)) ∙ sym (append_assoc p (take m q) (drop m q)) in
    ap (take (n + m)) whole ∙ take_at (p ++ take m q) (drop m q) (n + m) (omega (arith, length-append p (take m q), length-take-le m q le))

-- the bytes of a length, which stand at the front of its buffer
pub head_bytes : (first : ℕ) (xs ys : List ℕ) (size : ℕ) → 1 ≤ size → length xs ≡ size - 1 → take size (first ∷ (xs ++ ys)) ≡ first ∷ xs
head_bytes first xs ys size le e = take_at (first ∷ xs) ys size (omega (arith, e))

-- what a whole length was found to be
pub size_is : (o : Option ℕ) (bytes : List ℕ) (first : ℕ) (more : List ℕ) (other : Type 0) → bytes ≡ first ∷ more → MatchOption o (IsBadLength bytes) (λ n. (n ≤ input_limit) × (length_form n ≡ Some bytes))
    → MatchOption o (IsBadLength (first ∷ more) ⊎ other) (λ n. (n ≤ input_limit) × (length_form n ≡ Some (first ∷ more)))
size_is None bytes first more other e h = inl (subst IsBadLength e h)
size_is (Some n) bytes first more other e h = (h.0, h.1 ∙ ap (λ (x : List ℕ). Some x) e)

-- what stood in front of what was filled up
pub front_kept : (old mid buffer more : List ℕ) (front n : ℕ) → buffer ≡ mid → mid ≡ take n old ++ more → front ≡ length old → front ≤ n → take front buffer ≡ old
front_kept old mid buffer more front n same grown e le =
    ap (take front) (same ∙ grown) ∙ (ap (λ (x : List ℕ). take front (x ++ more)) (take_all n old (omega (arith, e))) ∙ take_at old more front (sym e))

-- what is kept of a buffer whose part behind what stood before was filled
pub piece_items : (old buffer filled post tail : List ℕ) (front got whole : ℕ) → take front buffer ≡ old → length old ≡ front → got ≤ length filled → front + got ≤ whole
    → take (front + got) (take whole ((take front buffer ++ (filled ++ post)) ++ tail)) ≡ old ++ take got filled
piece_items old buffer filled post tail front got whole kept len le fits =
    let text : (take front buffer ++ (filled ++ post)) ++ tail ≡ old ++ (filled ++ (post ++ tail)) =
    ap (λ (x : List ℕ). (x ++ (filled ++ post)) ++ tail) kept ∙ (append_assoc old (filled ++ post) tail ∙ ap (λ (x : List ℕ). old ++ x) (append_assoc filled post tail)) in
    take-take (front + got) whole ((take front buffer ++ (filled ++ post)) ++ tail) fits ∙ (ap (take (front + got)) text
    ∙ (take_past old (filled ++ (post ++ tail)) front got len (omega (arith, length-append filled (post ++ tail))) ∙ ap (λ (x : List ℕ). old ++ x) (take-append-le got filled (post ++ tail) le)))

-- what holds whatever the fault is
pub OnErr-any : {T E : Type 0} {P : Type 0} (r : Result T E) → P → OnErr r P
OnErr-any (Ok x) p = tt
OnErr-any (Err e) p = p

-- what a fault meets, whatever it is
pub meets_fault : (before after : Option (List ℕ)) (most : ℕ) (body read : List ℕ) (r : Result LogStep RunFault) → IsErr r → IfErr r (λ e. e ≢ faults.Write) → Consumes before after read → IsIncomplete most read → ReadsRecord before after most body r
meets_fault before after most body read (Ok x) err fault taken cut = absurd cc
meets_fault before after most body read (Err e) err fault taken cut = (fault, read, taken, cut)

-- the bytes of a length, and what is there of the body
pub body_bytes : (n first : ℕ) (more body : List ℕ) → length_form n ≡ Some (first ∷ more) → n ≤ input_limit → length body ≡ n → IsRecord (first ∷ (more ++ body)) body
body_bytes n first more body e le len = record_made (first ∷ more) body (ap length_form len ∙ e) (omega (arith, len))

-- an answer that is no record says nothing of a body
pub meets_kept : (before after : Option (List ℕ)) (most : ℕ) (old new : List ℕ) (r : Result LogStep RunFault) → (r ≡ Ok steps.Record → ⊥) → ReadsRecord before after most old r → ReadsRecord before after most new r
meets_kept before after most old new (Ok steps.Record) none h = absurd (none refl)
meets_kept before after most old new (Ok steps.End) none h = h
meets_kept before after most old new (Ok steps.Broken) none h = h
meets_kept before after most old new (Ok steps.Over) none h = h
meets_kept before after most old new (Err e) none h = h
