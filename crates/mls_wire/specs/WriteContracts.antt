-- Results of calls that write, stated by encodings. `text` is the encoding of what is written. `old` and `new` are the
-- bytes before and after the call. Used by contracts.
use Rattle.std.specs.Prelude.{◌≡◌, ◌≢◌, ℕ, ◌+◌, List, ◌++◌, length, Option, Some, None, IsSome, Result, Ok, Err, OnOk}
use Rattle.mls_wire.specs.declared.fault.CodecFault.{CodecFault}
use Rattle.mls_wire.specs.declared.fault.CodecFault.TheVariants as faults
use Rattle.mls_wire.specs.declared.fault.WireFaultKind.TheVariants as kinds
use Rattle.mls_wire.specs.Faults.{too_long_at}

-- `after old text` is the bytes `old` followed by the encoding, or `None` if there is no encoding.
unfoldable pub after : List ℕ → Option (List ℕ) → Option (List ℕ)
after old None = None
after old (Some s) = Some (old ++ s)

-- `WritesPiece text old new result`: the encoding was appended. There is a wire fault if and only if there is no
-- encoding. It is `TooLong` at the number of bytes written so far. On any error the bytes are unchanged.
abbrev pub WritesPiece : {A : Type 0} → Option (List ℕ) → List ℕ → List ℕ → Result A CodecFault → Type 0
WritesPiece text old new (Ok x) = after old text ≡ Some new
WritesPiece text old new (Err (faults.Wire f)) = (text ≡ None) × (new ≡ old) × (f ≡ too_long_at (length old))
WritesPiece text old new (Err faults.OutOfMemory) = (new ≡ old) × IsSome text

-- The model of a draft: the bytes before it, and the bytes that it added.
pub record Added : Type 0 where
  pub kept : List ℕ
  pub more : List ℕ

-- `Puts text old new result`: the encoding was added at the end of a draft. A wire fault is `TooLong`, and only if
-- there is no encoding. On any error the bytes before the draft are unchanged.
abbrev pub Puts : {A : Type 0} → Option (List ℕ) → Added → Added → Result A CodecFault → Type 0
Puts text old new (Ok x) = (after old.more text ≡ Some new.more) × (new.kept ≡ old.kept)
Puts text old new (Err (faults.Wire f)) = (text ≡ None) × (new.kept ≡ old.kept) × (f.kind ≡ kinds.TooLong)
Puts text old new (Err faults.OutOfMemory) = new.kept ≡ old.kept

-- `PutsPiece text old new result`: as `Puts`, and a wire fault is `TooLong` at the number of bytes written so far.
abbrev pub PutsPiece : {A : Type 0} → Option (List ℕ) → Added → Added → Result A CodecFault → Type 0
PutsPiece text old new (Ok x) = (after old.more text ≡ Some new.more) × (new.kept ≡ old.kept)
PutsPiece text old new (Err (faults.Wire f)) = (text ≡ None) × (new.kept ≡ old.kept) × (f ≡ too_long_at (length old.kept + length old.more))
PutsPiece text old new (Err faults.OutOfMemory) = (new.kept ≡ old.kept) × IsSome text

-- `Makes text result`: the call returned the encoding. A wire fault is `TooLong`, and only if there is no encoding.
abbrev pub Makes : Option (List ℕ) → Result (List ℕ) CodecFault → Type 0
Makes text (Ok bytes) = text ≡ Some bytes
Makes text (Err (faults.Wire f)) = (text ≡ None) × (f.kind ≡ kinds.TooLong)
Makes text (Err faults.OutOfMemory) = Unit {0}

-- `MakesPiece text result`: the call returned the encoding. There is a wire fault if and only if there is no encoding,
-- and it is `TooLong` at 0.
abbrev pub MakesPiece : Option (List ℕ) → Result (List ℕ) CodecFault → Type 0
MakesPiece text (Ok bytes) = text ≡ Some bytes
MakesPiece text (Err (faults.Wire f)) = (text ≡ None) × (f ≡ too_long_at 0)
MakesPiece text (Err faults.OutOfMemory) = IsSome text

-- `WriteIsDeterministic`: unless it runs out of memory, the result of a call that writes, and the bytes after it, are
-- determined.
abbrev pub WriteIsDeterministic : Type 0
WriteIsDeterministic = (text : Option (List ℕ)) (old one other : List ℕ) (r s : Result (Unit {0}) CodecFault)
    → WritesPiece text old one r → WritesPiece text old other s
    → (r ≢ Err CodecFault.OutOfMemory) → (s ≢ Err CodecFault.OutOfMemory) → (r ≡ s) × (one ≡ other)

-- `PutIsDeterministic`: unless it runs out of memory, the result of a call that adds to a draft is determined, and
-- after `Ok` so is the draft.
abbrev pub PutIsDeterministic : Type 0
PutIsDeterministic = (text : Option (List ℕ)) (old one other : Added) (r s : Result (Unit {0}) CodecFault)
    → PutsPiece text old one r → PutsPiece text old other s
    → (r ≢ Err CodecFault.OutOfMemory) → (s ≢ Err CodecFault.OutOfMemory) → (r ≡ s) × (one.kept ≡ other.kept) × OnOk r (one.more ≡ other.more)

-- `MakeIsDeterministic`: unless it runs out of memory, the result of a call that makes an encoding is determined.
abbrev pub MakeIsDeterministic : Type 0
MakeIsDeterministic = (text : Option (List ℕ)) (r s : Result (List ℕ) CodecFault)
    → MakesPiece text r → MakesPiece text s
    → (r ≢ Err CodecFault.OutOfMemory) → (s ≢ Err CodecFault.OutOfMemory) → r ≡ s
