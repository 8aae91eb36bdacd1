-- Results of calls that read the front of a body that a message stores unread. Used by contracts.
use Rattle.std.specs.Prelude.{◌≡◌, ℕ, List, Option, Some, Result, Ok, Err}
use Rattle.mls_wire.specs.declared.fault.WireFault.{WireFault}

-- `ReadsFront encoding bytes result IsFrontOf`: the call returned a front of the value whose encoding is all of the bytes.
-- On a fault there is no such value. `IsFrontOf x front` holds of a value `x` and its front.
abbrev pub ReadsFront : {A F : Type 0} → (A → Option (List ℕ)) → List ℕ → Result F WireFault → (A → F → Type 0) → Type 0
ReadsFront {A} encoding bytes (Ok front) IsFrontOf = (x : A) × (encoding x ≡ Some bytes) × IsFrontOf x front
ReadsFront {A} encoding bytes (Err f) IsFrontOf = (x : A) → encoding x ≡ Some bytes → ⊥
