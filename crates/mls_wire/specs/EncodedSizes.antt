-- How many bytes encodings have, and which lists fit into a vector: lemmas. Internal: no public contract uses this.
use Rattle.std.proofs.Common.{◌≡◌, ℕ, ◌+◌, ◌<◌, ◌≤◌, List, [], ◌∷◌, ◌++◌, length, take, drop, get_or, Option, Some, None, refl, sym, ap, ◌∙◌, append_assoc, arith, length-append, inl, inr, ◌^◌}
use Rattle.std.specs.Prelude.{option_map, IsSome}
use Rattle.std.specs.Int.{Width, byte_len}
use mir.Val.{bits}
use Rattle.std.proofs.lemmas.Bool.{cases_lt}
use Rattle.std.proofs.lemmas.List.{append-nil, take_more, take-append-drop, take_all}
use Rattle.mls_wire.specs.Limits.{vector_limit}
use Rattle.mls_wire.specs.Encoding.{◌⊕◌, number, length_form, vector, sized, items, list}
use Rattle.mls_wire.specs.OptionBind.{some_is}
use Rattle.mls_wire.specs.EncodingConcat.{no_left, joined, join, regrouped}
use Rattle.mls_wire.specs.LengthsExact.{form_1, form_2, form_4, no_length}
use Rattle.mls_wire.specs.SaturatingSizes.{saturated, size, joint_size}
use Rattle.mls_wire.specs.IntegersExact.{IsWide, number_made}
use Rattle.mls_wire.specs.VectorsExact.{vector_within}
use Rattle.mls_wire.specs.ListsExact.{sized_parts, sized_of}
use Rattle.mls_wire.specs.WriteSequences.{items_snoc, items_refused}

-- A text of this length.
pub some_size : (o : Option (List ℕ)) (n : ℕ) → option_map length o ≡ Some n → (t : List ℕ) × (o ≡ Some t) × (length t ≡ n)
some_size None n e = absurd cc
some_size (Some t) n e = (t, refl, some_is _ _ e)

-- Without a text there is no size.
pub none_size : (o : Option (List ℕ)) → None ≡ option_map length o → o ≡ None
none_size None e = refl
none_size (Some t) e = absurd cc

-- The size of a text.
pub size_of : (o : Option (List ℕ)) (t : List ℕ) (n : ℕ) → o ≡ Some t → length t ≡ n → Some n ≡ option_map length o
size_of o t n e f = rw (e, f) refl

-- The size of a number.
pub number_size : (w : Width) → IsWide w → (n : ℕ) → n < 2 ^ bits w → Some (byte_len w) ≡ option_map length (number w n)
number_size w wide n lt = size_of (number w n) _ (byte_len w) (number_made w n lt) (wide.len n)

-- The size of a vector.
pub vector_size : (s front : List ℕ) (k : ℕ) → length_form (length s) ≡ Some front → length front ≡ k → Some (length s + k) ≡ option_map length (vector s)
unfolding vector
vector_size s front k e f = size_of _ (front ++ s) (length s + k) (join _ _ front s e refl) (omega (arith, length-append front s))

is_some_has : (o : Option (List ℕ)) → IsSome o → (t : List ℕ) × (o ≡ Some t)
is_some_has None h = absurd cc
is_some_has (Some t) h = (t, refl)

-- A body within the limit has an encoding as a vector.
pub vector_some : (s : List ℕ) → length s ≤ vector_limit → IsSome (vector s)
unfolding vector
vector_some s le =
    elim (cases_lt (length s) 64) [
      | inl lt ↦ rw (join _ _ _ s (form_1 (length s) lt) refl) refl
      | inr le1 ↦ elim (cases_lt (length s) 16384) [
        | inl lt ↦ rw (join _ _ _ s (form_2 (length s) _ le1 lt refl) refl) refl
        | inr le2 ↦ rw (join _ _ _ s (form_4 (length s) _ le2 (omega arith) refl) refl) refl
      ]
    ]

module _ {A : Type 0} (s : A → Option (List ℕ)) where
  pub no_size : option_map length (items s []) ≡ Some 0
  unfolding items
  no_size = refl

  pub size_push : (xs : List A) (i : ℕ) (x : A) (m n : ℕ) → i < length xs → x ≡ get_or xs i x → option_map length (items s (take i xs)) ≡ Some m → Some n ≡ option_map length (s x) → option_map length (items s (take (i + 1) xs)) ≡ Some (m + n)
  size_push xs i x m n lt is e f =
      let a = some_size (items s (take i xs)) m e in
      let b = some_size (s x) n (sym f) in
      let more : take (i + 1) xs ≡ take i xs ++ x ∷ [] = rw (take_more xs i x lt, ← is) refl in
      sym (size_of _ (a.0 ++ b.0) (m + n) (ap (items s) more ∙ items_snoc s (take i xs) x a.0 b.0 a.1 b.1) (omega (arith, length-append a.0 b.0, a.2, b.2)))

  items_split : (xs ys : List A) (t : List ℕ) → items s (xs ++ ys) ≡ Some t → (a b : List ℕ) × (items s xs ≡ Some a) × (t ≡ a ++ b)
  unfolding items
  items_split [] ys t e = ([], t, refl, refl)
  items_split (x ∷ xs) ys t e =
      let a = joined (s x) (items s (xs ++ ys)) t e in
      let b = items_split xs ys a.1 a.3 in
      (a.0 ++ b.0, b.1, join _ _ _ _ a.2 b.2, a.4 ∙ ap (λ (r : List ℕ). a.0 ++ r) b.3 ∙ sym (append_assoc a.0 b.0 b.1))

  pub list_some : (xs : List A) → IsSome (list s xs) → (t : List ℕ) × (items s xs ≡ Some t) × (length t ≤ vector_limit)
  unfolding list
  list_some xs h =
      let f = is_some_has (sized (items s xs)) h in
      let a = sized_parts (items s xs) f.0 f.1 in
      (a.0, a.1, vector_within a.0 f.0 a.2)

  pub fits_not : (xs : List A) (i n : ℕ) → option_map length (items s (take i xs)) ≡ Some n → vector_limit < n → IsSome (list s xs) → ⊥
  fits_not xs i n e lt h =
      let a = list_some xs h in
      let b = items_split (take i xs) (drop i xs) a.0 (ap (items s) (take-append-drop i xs) ∙ a.1) in
      let c = some_size (items s (take i xs)) n e in
      let same : c.0 ≡ b.0 = some_is _ _ (sym c.1 ∙ b.2) in
      absurd (omega (arith, a.2, ap length b.3, length-append b.0 b.1, c.2, ap length same))

  pub fits_none : (xs : List A) (i : ℕ) (x : A) → i < length xs → x ≡ get_or xs i x → None ≡ option_map length (s x) → IsSome (list s xs) → ⊥
  fits_none xs i x lt is e h =
      let a = list_some xs h in
      let b = items_refused s xs i x lt is (none_size (s x) e) in
      let bad = sym b ∙ a.1 in absurd cc

  pub fits_all : (xs : List A) (i n : ℕ) → length xs ≤ i → option_map length (items s (take i xs)) ≡ Some n → n ≤ vector_limit → IsSome (list s xs)
  unfolding list
  fits_all xs i n le e lt =
      let a = some_size (items s (take i xs)) n e in
      let b : items s xs ≡ Some a.0 = ap (items s) (sym (take_all i xs le)) ∙ a.1 in
      let c : sized (items s xs) ≡ vector a.0 = sized_of _ a.0 b in
      rw c (vector_some a.0 (omega (arith, a.2)))

-- ---- counted sizes

-- The size of a text of this length.
pub size_exact : (o : Option (List ℕ)) (n : ℕ) → Some n ≡ option_map length o → n < 2 ^ 64 → Some n ≡ size o
unfolding size
size_exact None n e lt = absurd cc
size_exact (Some t) n e lt =
    let same : n ≡ length t = some_is _ _ e in
    ap (λ (k : ℕ). Some k) (omega (arith, same))

-- Without a text there is no size.
pub no_size_of : (o : Option (List ℕ)) → o ≡ None → None ≡ size o
unfolding size
no_size_of o e = rw e refl

-- A size is that of a text.
pub sized_text : (o : Option (List ℕ)) (n : ℕ) → Some n ≡ size o → (t : List ℕ) × (o ≡ Some t) × (saturated (length t) ≡ n)
unfolding size
sized_text None n e = absurd cc
sized_text (Some t) n e = (t, refl, sym (some_is _ _ e))

-- Without a size there is no text.
pub sized_none_text : (o : Option (List ℕ)) → None ≡ size o → o ≡ None
unfolding size
sized_none_text None e = refl
sized_none_text (Some t) e = absurd cc

-- The size of two texts, one after the other.
pub size_joined : (a b : Option (List ℕ)) → size (a ⊕ b) ≡ joint_size (size a) (size b)
unfolding size ◌⊕◌ joint_size
size_joined None b = refl
size_joined (Some x) None = refl
size_joined (Some x) (Some y) = ap (λ (n : ℕ). Some n) (omega (arith, length-append x y))

-- The size of one byte.
pub size_byte : (n : ℕ) → size (Some (n ∷ [])) ≡ Some 1
unfolding size
size_byte n = refl

-- The size of a number.
pub size_number : (w : Width) → IsWide w → (n : ℕ) → n < 2 ^ bits w → byte_len w < 2 ^ 64 → Some (byte_len w) ≡ size (number w n)
size_number w wide n lt small = size_exact (number w n) (byte_len w) (number_size w wide n lt) small

-- The size of a vector, by that of its body.
pub size_short : (s : List ℕ) (n k : ℕ) (front : List ℕ) → saturated (length s) ≡ n → n ≤ vector_limit → length_form (length s) ≡ Some front → length front ≡ k → k ≤ 4 → Some (n + k) ≡ size (vector s)
size_short s n k front e le f g small =
    let same : length s ≡ n = omega (arith, e) in
    size_exact (vector s) (n + k) (ap (λ (m : ℕ). Some (m + k)) (sym same) ∙ vector_size s front k f g) (omega arith)

-- A body that is too long has no vector.
pub size_long : (s : List ℕ) (n : ℕ) → saturated (length s) ≡ n → vector_limit < n → None ≡ size (vector s)
unfolding vector
size_long s n e lt = no_size_of _ (no_left (length_form (length s)) (Some s) (no_length (length s) (omega (arith, e))))

-- The encoding of a length in saturating arithmetic.
pub counted_form : (n : ℕ) → length_form (saturated n) ≡ length_form n
counted_form n =
    elim (cases_lt n (2 ^ 64)) [
      | inl lt ↦ ap length_form (omega arith)
      | inr le ↦ no_length (saturated n) (omega arith) ∙ sym (no_length n (omega arith))
    ]

-- A text and nothing more.
alone : (o : Option (List ℕ)) → o ⊕ Some [] ≡ Some [] ⊕ o
unfolding ◌⊕◌
alone None = refl
alone (Some u) = ap (λ (t : List ℕ). Some t) (append-nil u)

module _ {A : Type 0} (s : A → Option (List ℕ)) where
  items_added : (xs : List A) (x : A) → items s (xs ++ x ∷ []) ≡ items s xs ⊕ s x
  unfolding items
  items_added [] x = alone (s x)
  items_added (y ∷ xs) x = ap (λ (o : Option (List ℕ)). s y ⊕ o) (items_added xs x) ∙ sym (regrouped (s y) (items s xs) (s x))

  pub size_nothing : Some 0 ≡ size (items s [])
  unfolding items size
  size_nothing = refl

  pub size_added : (xs : List A) (i : ℕ) (x : A) (m n : ℕ) → i < length xs → x ≡ get_or xs i x → Some m ≡ size (items s (take i xs)) → Some n ≡ size (s x) → Some (saturated (m + n)) ≡ size (items s (take (i + 1) xs))
  unfolding joint_size
  size_added xs i x m n lt is e f =
      let more : take (i + 1) xs ≡ take i xs ++ x ∷ [] = rw (take_more xs i x lt, ← is) refl in
      let parts = size_joined (items s (take i xs)) (s x) in
      rw (more, items_added (take i xs) x, parts, ← e, ← f) refl

  pub size_refused : (xs : List A) (i : ℕ) (x : A) → i < length xs → x ≡ get_or xs i x → None ≡ size (s x) → None ≡ size (items s xs)
  size_refused xs i x lt is e = no_size_of _ (items_refused s xs i x lt is (sized_none_text (s x) e))

  pub size_all : (xs : List A) (i n : ℕ) → length xs ≤ i → Some n ≡ size (items s (take i xs)) → Some n ≡ size (items s xs)
  size_all xs i n le e = e ∙ ap (λ (ys : List A). size (items s ys)) (take_all i xs le)

  -- The list of items whose size is known.
  pub list_sized : (xs : List A) (n : ℕ) → Some n ≡ size (items s xs) → (t : List ℕ) × (items s xs ≡ Some t) × (saturated (length t) ≡ n) × (list s xs ≡ vector t)
  unfolding list
  list_sized xs n e =
      let a = sized_text (items s xs) n e in
      (a.0, a.1, a.2, sized_of _ a.0 a.1)

  -- A list with an item that has no encoding.
  pub list_none : (xs : List A) → None ≡ size (items s xs) → list s xs ≡ None
  unfolding list sized
  list_none xs e = rw (sized_none_text (items s xs) e) refl

-- The rules for sizes of parts put together.
pub ruleset sizes = (size_joined, size_byte)
