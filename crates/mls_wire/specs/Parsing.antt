-- Reading from left to right as functions of an input: each returns the value that is encoded at its front, or `None`.
-- Only the contract of `Decode::read` and the definition `required_by` of `mls_nodes` name them. Theorems say that they
-- agree with the encodings. Used by contracts.
use Rattle.std.specs.Prelude.{◌≡◌, ℕ, zero, suc, ◌-◌, List, [], ◌∷◌, length, take, Bool, true, ◌&&◌, Option, Some, None, Result, Ok, Err, nat_lt, nat_eq, if◌then◌else◌}
use Rattle.std.specs.Int.{Width, byte_len, from_be_bytes, w8, w16, w32}
use Rattle.mls_wire.specs.declared.fault.CodecFault.{CodecFault}
use Rattle.mls_wire.specs.declared.fault.CodecFault.TheVariants as faults
use Rattle.mls_wire.specs.Input.{Input, at, skip}

-- ---- results of calls

-- `o >>= f` is `f x` if `o` is `Some x`, else `None`.
infixl 10 ◌>>=◌
abbrev pub ◌>>=◌ : {A B : Type 0} → Option A → (A → Option B) → Option B
(Some x) >>= f = f x
None >>= f = None

-- `GivesOrFull read old new result`: as `Gives`, for a call that allocates.
abbrev pub GivesOrFull : {A : Type 0} → (Input → Option (A × Input)) → Input → Input → Result A CodecFault → Type 0
GivesOrFull read old new (Ok x) = read old ≡ Some (x, new)
GivesOrFull read old new (Err (faults.Wire f)) = (read old ≡ None) × (new ≡ old)
GivesOrFull read old new (Err faults.OutOfMemory) = new ≡ old

-- ---- numbers and lengths

-- `all_bytes xs`: each number is below 256.
abbrev pub all_bytes : List ℕ → Bool
all_bytes [] = true
all_bytes (b ∷ bs) = nat_lt b 256 && all_bytes bs

-- `number_at w i` is the unsigned integer at the front, the highest byte first (RFC 8446, 3.3).
unfoldable pub number_at : Width → Input → Option (ℕ × Input)
number_at w i =
    if nat_lt (length i.left) (byte_len w) then None
    else if all_bytes (take (byte_len w) i.left) then Some (from_be_bytes w (take (byte_len w) i.left), skip (byte_len w) i)
    else None

-- `longer w low by i` is a length in a longer form: a number that is at least `low`, less `by` (RFC 9420, 2.1.2).
abbrev pub longer : Width → ℕ → ℕ → Input → Option (ℕ × Input)
longer w low by i = do
  n ← number_at w i
  if nat_lt n.0 low then None else Some (n.0 - by, n.1)

-- `length_at i` is the length at the front, in the form that its first byte determines (RFC 9420, 2.1.2).
unfoldable pub length_at : Input → Option (ℕ × Input)
length_at i = do
  first ← number_at w8 i
  if nat_lt first.0 64 then Some first
      else if nat_lt first.0 128 then longer w16 16448 16384 i
      else if nat_lt first.0 192 then longer w32 2147500032 2147483648 i
      else None

-- ---- vectors, optional values, lists

-- `body_at i` is the body of the vector at the front, at its offset (RFC 9420, 2.1.2).
unfoldable pub body_at : Input → Option (Input × Input)
body_at i = do
  n ← length_at i
  if nat_lt (length n.1.left) n.0 then None else Some (at n.1.offset (take n.0 n.1.left), skip n.0 n.1)

-- `vector_at i` is the bytes of the body of the vector at the front (RFC 9420, 2.1.2).
unfoldable pub vector_at : Input → Option (List ℕ × Input)
vector_at i = do
  body ← body_at i
  Some (body.0.left, body.1)

-- `items_at item_at n i` is the items up to the end of the input, at most `n` of them.
unfoldable pub items_at : {A : Type 0} → (Input → Option (A × Input)) → ℕ → Input → Option (List A)
items_at item_at zero i = if nat_eq (length i.left) 0 then Some [] else None
items_at item_at (suc n) i =
    if nat_eq (length i.left) 0 then Some []
    else (do
      x ← item_at i
      xs ← items_at item_at n x.1
      Some (x.0 ∷ xs))

-- `list_at item_at i` is the list at the front: a vector whose body is items up to its end (RFC 9420, 2.1.2).
unfoldable pub list_at : {A : Type 0} → (Input → Option (A × Input)) → Input → Option (List A × Input)
list_at item_at i = do
  body ← body_at i
  xs ← items_at item_at (length body.0.left) body.0
  Some (xs, body.1)

-- `whole_at read bytes` is the value that is all of the bytes.
abbrev pub whole_at : {A : Type 0} → (Input → Option (A × Input)) → List ℕ → Option A
whole_at read bytes = do
  x ← read (at 0 bytes)
  if nat_eq (length x.1.left) 0 then Some x.0 else None
