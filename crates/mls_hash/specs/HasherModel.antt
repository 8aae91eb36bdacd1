-- What a hasher holds after bytes were fed to it. Internal: no public contract uses this.
use Rattle.std.specs.Prelude.{◌≡◌, ℕ, List, ◌++◌, Option, Some}
use Rattle.sha2.specs.Hashers.{Holds256, Holds384, Holds512}
use Rattle.sha2.specs.Sha256.{sha256}
use Rattle.sha2.specs.Sha512.{sha384, sha512}
use Rattle.mls_hash.specs.declared.hasher.Hasher.{Hasher}
use Rattle.mls_hash.specs.declared.hasher.Hasher.TheVariants as hashers

-- `HoldsMessage H hasher message`: it is a hasher of the hash function H, and holds the message.
abbrev pub HoldsMessage : (List ℕ → List ℕ) → Hasher → List ℕ → Type 0
HoldsMessage H (hashers.Sha256 h) message = (H ≡ sha256) × Holds256 h message
HoldsMessage H (hashers.Sha384 h) message = (H ≡ sha384) × Holds384 h message
HoldsMessage H (hashers.Sha512 h) message = (H ≡ sha512) × Holds512 h message

-- `IsFed bytes old new`: the new hasher holds what the old one holds, followed by the bytes.
abbrev pub IsFed : List ℕ → Hasher → Hasher → Type 0
IsFed bytes old new = (H : List ℕ → List ℕ) (m : List ℕ) → HoldsMessage H old m → HoldsMessage H new (m ++ bytes)

-- `HoldsMore text old new`: the new hasher holds what the old one holds, followed by an encoding.
abbrev pub HoldsMore : Option (List ℕ) → Hasher → Hasher → Type 0
HoldsMore text old new =
    (H : List ℕ → List ℕ) (m : List ℕ) → HoldsMessage H old m → (t : List ℕ) × (text ≡ Some t) × HoldsMessage H new (m ++ t)
