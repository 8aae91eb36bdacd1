-- Results of calls that read bytes, stated by encodings alone. `old` and `new` are the input before and after the call.
-- Used by contracts.
use Rattle.std.specs.Prelude.{◌≡◌, ℕ, ◌+◌, ◌≤◌, List, ◌++◌, length, Option, Some, Result, Ok, Err}
use Rattle.mls_wire.specs.declared.fault.WireFault.{WireFault}
use Rattle.mls_wire.specs.declared.fault.CodecFault.{CodecFault}
use Rattle.mls_wire.specs.declared.fault.CodecFault.TheVariants as faults
use Rattle.mls_wire.specs.Encoding.{vector, items}
use Rattle.mls_wire.specs.Input.{Input}
use Rattle.mls_wire.specs.Limits.{input_limit}

-- `IsEncodedAt encoding x i j`: the encoding of `x` is between the inputs `i` and `j`.
abbrev pub IsEncodedAt : {A : Type 0} → (A → Option (List ℕ)) → A → Input → Input → Type 0
IsEncodedAt encoding x i j = (front : List ℕ) × (encoding x ≡ Some front) × (i.left ≡ front ++ j.left) × (j.offset ≡ i.offset + length front)

-- `ReadIsDeterministic encoding`: at most one value is encoded at the front of an input, and it ends at one offset.
abbrev pub ReadIsDeterministic : {A : Type 0} → (A → Option (List ℕ)) → Type 0
ReadIsDeterministic {A} encoding = (x y : A) (i j k : Input) → IsEncodedAt encoding x i j → IsEncodedAt encoding y i k → (x ≡ y) × (j ≡ k)

-- `Nothing encoding i`: no value is encoded at the front of `i`.
abbrev pub Nothing : {A : Type 0} → (A → Option (List ℕ)) → Input → Type 0
Nothing {A} encoding i = (x : A) (front rest : List ℕ) → encoding x ≡ Some front → i.left ≡ front ++ rest → ⊥

-- `Reads encoding old new result`: the call returned the value that is encoded at the front, and moved after it. On
-- error no value is encoded there, and the input is unchanged.
abbrev pub Reads : {A : Type 0} → (A → Option (List ℕ)) → Input → Input → Result A WireFault → Type 0
Reads encoding old new (Ok x) = IsEncodedAt encoding x old new
Reads encoding old new (Err f) = Nothing encoding old × (new ≡ old)

-- `Decodes encoding old new result`: as `Reads`, for a call that allocates. If it runs out of memory, the input is
-- unchanged.
abbrev pub Decodes : {A : Type 0} → (A → Option (List ℕ)) → Input → Input → Result A CodecFault → Type 0
Decodes encoding old new (Ok x) = IsEncodedAt encoding x old new
Decodes encoding old new (Err (faults.Wire f)) = Nothing encoding old × (new ≡ old)
Decodes encoding old new (Err faults.OutOfMemory) = new ≡ old

-- `DecodesAll encoding bytes result`: the call returned the value whose encoding is all of the bytes. On a wire fault
-- there is no such value.
abbrev pub DecodesAll : {A : Type 0} → (A → Option (List ℕ)) → List ℕ → Result A CodecFault → Type 0
DecodesAll encoding bytes (Ok x) = encoding x ≡ Some bytes
DecodesAll {A} encoding bytes (Err (faults.Wire f)) = (x : A) → encoding x ≡ Some bytes → ⊥
DecodesAll encoding bytes (Err faults.OutOfMemory) = Unit {0}

-- `DecodesInput encoding bytes result`: as `DecodesAll`, for an input within its limit. An input over its limit is
-- refused even without memory.
abbrev pub DecodesInput : {A : Type 0} → (A → Option (List ℕ)) → List ℕ → Result A CodecFault → Type 0
DecodesInput encoding bytes (Ok x) = (encoding x ≡ Some bytes) × (length bytes ≤ input_limit)
DecodesInput {A} encoding bytes (Err (faults.Wire f)) = (x : A) → encoding x ≡ Some bytes → length bytes ≤ input_limit → ⊥
DecodesInput encoding bytes (Err faults.OutOfMemory) = length bytes ≤ input_limit

-- `ReadsBody old new result`: the call returned the body of the vector at the front, which ends where the input
-- continues.
abbrev pub ReadsBody : Input → Input → Result Input WireFault → Type 0
ReadsBody old new (Ok body) = IsEncodedAt vector body.left old new × (body.offset + length body.left ≡ new.offset)
ReadsBody old new (Err f) = Nothing vector old × (new ≡ old)

-- `NoListHasSize encoding count`: no list of values has an encoding of `count` bytes.
abbrev pub NoListHasSize : {A : Type 0} → (A → Option (List ℕ)) → ℕ → Type 0
NoListHasSize {A} encoding count = (xs : List A) (text : List ℕ) → items encoding xs ≡ Some text → length text ≡ count → ⊥

-- `seen view result` is the result with the model of its value, by `view`.
abbrev pub seen : {A B E : Type 0} → (A → B) → Result A E → Result B E
seen view (Ok x) = Ok (view x)
seen view (Err e) = Err e
