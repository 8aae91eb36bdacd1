-- Lists that are stored as the bytes that encode them. Internal: only contracts of calls for implementors of `Skip`, and
-- for types that borrow their fields, use this.
use Rattle.std.specs.Prelude.{◌≡◌, ℕ, List, [], length, Option, Some, None, Result, Ok, Err, unwrap_or}
use Rattle.mls_wire.specs.declared.fault.WireFault.{WireFault}
use Rattle.mls_wire.specs.Input.{Input, at}
use Rattle.mls_wire.specs.Parsing.{items_at}

-- `Skips read old new result`: a call passed over the value that `read` returns, or `read` returns none.
abbrev pub Skips : {A B : Type 0} → (Input → Option (A × Input)) → Input → Input → Result B WireFault → Type 0
Skips {A} read old new (Ok done) = (x : A) × (read old ≡ Some (x, new))
Skips read old new (Err fault) = read old ≡ None

-- `Parses read old new result`: a call returned what `read` returns, or `read` returns nothing.
abbrev pub Parses : {A : Type 0} → (Input → Option (A × Input)) → Input → Input → Result A WireFault → Type 0
Parses read old new (Ok x) = read old ≡ Some (x, new)
Parses read old new (Err fault) = read old ≡ None

-- `items_of read bytes` is the values whose encodings, one after the other, are all of the bytes.
abbrev pub items_of : {A : Type 0} → (Input → Option (A × Input)) → List ℕ → Option (List A)
items_of read bytes = items_at read (length bytes) (at 0 bytes)

-- The same of bytes that encode such values.
abbrev pub stored_items : {A : Type 0} → (Input → Option (A × Input)) → List ℕ → List A
stored_items read bytes = unwrap_or (items_of read bytes) []
