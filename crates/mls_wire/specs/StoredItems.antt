-- Lists that are stored as the bytes that encode them. Internal: no public contract uses this.
use Rattle.std.proofs.Common.{◌≡◌, ◌∙◌, ℕ, ◌+◌, ◌≤◌, ◌<◌, List, [], ◌∷◌, ◌++◌, length, Option, Some, None, Ok, Err, refl, sym, ap, arith}
use Rattle.std.specs.Prelude.{IsSome, option_map, unwrap_or}
use Rattle.std.proofs.lemmas.List.{length-append}
use Rattle.mls_wire.specs.declared.fault.WireFault.{WireFault}
use Rattle.mls_wire.specs.Input.{Input, at}
use Rattle.mls_wire.specs.Encoding.{vector, items, list}
use Rattle.mls_wire.specs.ReadContracts.{ReadsBody}
use Rattle.mls_wire.specs.ExactReads.{Gives-body}
use Rattle.mls_wire.specs.VectorsExact.{vector_within}
use Rattle.mls_wire.specs.Limits.{vector_limit}
use Rattle.mls_wire.specs.Parsing.{body_at, items_at, list_at}
use Rattle.mls_wire.specs.OptionBind.{some_is}
use Rattle.mls_wire.specs.ExactParsers.{IsExact, IsLong}
use Rattle.mls_wire.specs.ListLoops.{Shortens, with_front, shortens, items_go_on, items_stop, items_end}
use Rattle.mls_wire.specs.ListsExact.{items_take, items_again, sized_of}
use Rattle.mls_wire.specs.EncodedItems.{items_of, stored_items}

some_counted : {A : Type 0} (o : Option (List A)) (count : ℕ) → option_map (length {A = A}) o ≡ Some count → (xs : List A) × (o ≡ Some xs) × (length xs ≡ count)
some_counted None count e = absurd cc
some_counted (Some xs) count e = (xs, refl, some_is (length xs) count e)

whole : {A : Type 0} (o : Option (List A)) → IsSome o → o ≡ Some (unwrap_or o [])
whole None h = absurd cc
whole (Some xs) h = refl

front_none : {A : Type 0} (o : Option (List A)) → with_front [] o ≡ o
front_none None = refl
front_none (Some xs) = refl

behind_first : {A : Type 0} (x : A) (rest total : Option (List A)) → with_front (x ∷ []) rest ≡ total → IsSome total
    → IsSome rest × (unwrap_or total [] ≡ x ∷ unwrap_or rest [])
behind_first x None total e h = let bad = rw (← e) at h in absurd cc
behind_first x (Some xs) total e h = (refl, rw (← e) refl)

-- the items of an input, one after the other
abbrev pub all_of : {A : Type 0} → (Input → Option (A × Input)) → Input → Option (List A)
all_of f i = items_at f (length i.left) i

-- so many of the whole input are before what is left
abbrev pub AreCounted : {A : Type 0} → (Input → Option (A × Input)) → Input → Input → ℕ → Type 0
AreCounted {A} f whole left count = (front : List A) × (with_front front (all_of f left) ≡ all_of f whole) × (length front ≡ count) × (count + length left.left ≤ length whole.left)

-- bytes that encode items encode these
pub are_stored : {A : Type 0} (f : Input → Option (A × Input)) (bytes : List ℕ) → IsSome (items_of f bytes) → items_of f bytes ≡ Some (stored_items f bytes)
are_stored f bytes h = whole (items_of f bytes) h

pub stored_of : {A : Type 0} (f : Input → Option (A × Input)) (bytes : List ℕ) (xs : List A) → items_of f bytes ≡ Some xs → stored_items f bytes ≡ xs
stored_of f bytes xs e = rw e refl

pub counted_are_some : {A : Type 0} (f : Input → Option (A × Input)) (i : Input) (count : ℕ) → option_map (length {A = A}) (all_of f i) ≡ Some count → (xs : List A) × (all_of f i ≡ Some xs) × (length xs ≡ count)
counted_are_some f i count e = some_counted (all_of f i) count e

pub empty_is_some : {A : Type 0} (f : Input → Option (A × Input)) (bytes : List ℕ) → bytes ≡ [] → IsSome (items_of f bytes)
unfolding items_at
empty_is_some f bytes e = rw e refl

pub none_stored : {A : Type 0} (f : Input → Option (A × Input)) (bytes : List ℕ) → bytes ≡ [] → stored_items f bytes ≡ []
unfolding items_at
none_stored f bytes e = rw e refl

-- ---- a list that is read

pub no_list : {A : Type 0} (f : Input → Option (A × Input)) (i : Input) → body_at i ≡ None → list_at f i ≡ None
unfolding list_at
no_list f i none = rw none refl

pub no_items : {A : Type 0} (f : Input → Option (A × Input)) (i j body : Input) → body_at i ≡ Some (body, j) → all_of f body ≡ None → list_at f i ≡ None
unfolding list_at
no_items f i j body some none = rw (some, none) refl

pub all_items : {A : Type 0} (f : Input → Option (A × Input)) (i j body : Input) (xs : List A) → body_at i ≡ Some (body, j) → all_of f body ≡ Some xs → list_at f i ≡ Some (xs, j)
unfolding list_at
all_items f i j body xs some all = rw (some, all) refl

pub no_body : {A : Type 0} (f : Input → Option (A × Input)) (old new : Input) (e : WireFault) → ReadsBody old new (Err e) → list_at f old ≡ None
no_body f old new e h = no_list f old (Gives-body old new (Err e) h).0

pub none_in_body : {A : Type 0} (f : Input → Option (A × Input)) (old new body : Input) → ReadsBody old new (Ok body) → all_of f body ≡ None → list_at f old ≡ None
none_in_body f old new body h none = no_items f old new body (Gives-body old new (Ok body) h) none

pub some_in_body : {A : Type 0} (f : Input → Option (A × Input)) (old new body : Input) (xs : List A) → ReadsBody old new (Ok body) → all_of f body ≡ Some xs → list_at f old ≡ Some (xs, new)
some_in_body f old new body xs h some = all_items f old new body xs (Gives-body old new (Ok body) h) some

pub body_within : (old new body : Input) → ReadsBody old new (Ok body) → length body.left ≤ vector_limit
body_within old new body h = vector_within body.left h.0.0 h.0.1

module _ {A : Type 0} (s : A → Option (List ℕ)) (f : Input → Option (A × Input)) (exact : IsExact s f) (long : IsLong s) where
  short : Shortens f
  short = shortens s f exact long

  -- ---- counting

  pub none_counted : (i : Input) → AreCounted f i i 0
  none_counted i = ([], front_none (all_of f i), refl, omega arith)

  pub one_more_counted : (whole i j : Input) (count : ℕ) (x : A) → (i.left ≡ [] → ⊥) → f i ≡ Some (x, j) → AreCounted f whole i count → AreCounted f whole j (count + 1)
  one_more_counted whole i j count x some is h =
      (h.0 ++ x ∷ [], items_go_on f short h.0 i x j (all_of f whole) some is h.1, omega (arith, h.2, length-append h.0 (x ∷ [])), omega (arith, h.3, short i x j is))

  pub fewer_left : (i j : Input) (x : A) → f i ≡ Some (x, j) → length j.left < length i.left
  fewer_left i j x is = short i x j is

  pub no_more : (whole i : Input) (count : ℕ) → (i.left ≡ [] → ⊥) → f i ≡ None → AreCounted f whole i count → all_of f whole ≡ None
  no_more whole i count some none h = items_stop f short h.0 i (all_of f whole) some none h.1

  pub all_counted : (whole i : Input) (count : ℕ) → i.left ≡ [] → AreCounted f whole i count → option_map length (all_of f whole) ≡ Some count
  all_counted whole i count none h =
      let all : all_of f whole ≡ Some h.0 = items_end f short h.0 i (all_of f whole) none h.1 in
      rw all (ap (λ (n : ℕ). Some n) h.2)

  -- ---- stored items

  -- the same of any offset
  pub at_any_offset : (i : Input) (xs : List A) → all_of f i ≡ Some xs → items_of f i.left ≡ Some xs
  at_any_offset i xs e =
      let text = items_take s f exact (length i.left) i xs e in
      items_again s f exact long xs (length i.left) 0 i.left (omega arith) text

  pub items_text : (bytes : List ℕ) → IsSome (items_of f bytes) → items s (stored_items f bytes) ≡ Some bytes
  items_text bytes h = items_take s f exact (length bytes) (at 0 bytes) (stored_items f bytes) (are_stored f bytes h)

  -- the encoding of stored items is the vector of the bytes
  pub stored_vector : (bytes : List ℕ) → IsSome (items_of f bytes) → list s (stored_items f bytes) ≡ vector bytes
  unfolding list
  stored_vector bytes h = sized_of (items s (stored_items f bytes)) bytes (items_text bytes h)

  -- equal items are stored as equal bytes
  pub same_bytes : (a b : List ℕ) → IsSome (items_of f a) → IsSome (items_of f b) → stored_items f a ≡ stored_items f b → a ≡ b
  same_bytes a b p q e = some_is a b (sym (items_text a p) ∙ ap (items s) e ∙ items_text b q)

  pub nothing_stored : (bytes : List ℕ) → IsSome (items_of f bytes) → stored_items f bytes ≡ [] → bytes ≡ []
  unfolding items
  nothing_stored bytes h e = some_is bytes [] (sym (items_text bytes h) ∙ ap (items s) e)

  -- ---- a loop over stored items

  pub never_stops : (bytes : List ℕ) → IsSome (items_of f bytes) → (front : List A) (i : Input) → (i.left ≡ [] → ⊥) → f i ≡ None
      → with_front front (all_of f i) ≡ all_of f (at 0 bytes) → ⊥
  never_stops bytes h front i some none e =
      let stop = items_stop f short front i (all_of f (at 0 bytes)) some none e in
      let bad = sym stop ∙ are_stored f bytes h in absurd cc

  pub all_read : (bytes : List ℕ) (front : List A) (i : Input) → i.left ≡ [] → with_front front (all_of f i) ≡ all_of f (at 0 bytes) → front ≡ stored_items f bytes
  all_read bytes front i none e = sym (stored_of f bytes front (items_end f short front i (all_of f (at 0 bytes)) none e))

  -- ---- the first of the items of an input

  first_in : (i : Input) (o : Option (A × Input)) → f i ≡ o → (i.left ≡ [] → ⊥) → IsSome (all_of f i)
      → (x : A) × (j : Input) × (f i ≡ Some (x, j)) × IsSome (all_of f j) × (unwrap_or (all_of f i) [] ≡ x ∷ unwrap_or (all_of f j) [])
  first_in i None e some h = let none = items_stop f short [] i (all_of f i) some e (front_none (all_of f i)) in let bad = rw none at h in absurd cc
  first_in i (Some (x, j)) e some h =
      let rest = items_go_on f short [] i x j (all_of f i) some e (front_none (all_of f i)) in
      let parts = behind_first x (all_of f j) (all_of f i) rest h in
      (x, j, e, parts.0, parts.1)

  -- an input with bytes left, all of whose bytes encode items, has a first item
  pub first_of : (i : Input) → (i.left ≡ [] → ⊥) → IsSome (all_of f i)
      → (x : A) × (j : Input) × (f i ≡ Some (x, j)) × IsSome (all_of f j) × (unwrap_or (all_of f i) [] ≡ x ∷ unwrap_or (all_of f j) [])
  first_of i some h = first_in i (f i) refl some h

  pub none_left_of : (i : Input) → i.left ≡ [] → unwrap_or (all_of f i) [] ≡ []
  unfolding items_at
  none_left_of i e = rw e refl
