-- A ciphertext that is passed over.
use Rattle.std.proofs.Common.{◌≡◌, ℕ, List, Some, Result, Ok, Err, refl}
use Rattle.mls_wire.specs.declared.fault.WireFault.{WireFault}
use Rattle.mls_wire.specs.Input.{Input}
use Rattle.mls_wire.specs.EncodedItems.{Skips}
use Rattle.mls_wire.specs.Parsing.{vector_at}
use Rattle.mls_msgs.specs.Ciphertext.{ciphertext_at}

pub both_skipped : {B : Type 0} (i j k : Input) (kem_output : List ℕ) (r : Result B WireFault) → vector_at i ≡ Some (kem_output, j) → Skips vector_at j k r → Skips ciphertext_at i k r
unfolding ciphertext_at
both_skipped i j k kem_output (Ok done) e h = (record { kem_output = kem_output; ciphertext = h.0 }, rw (e, h.1) refl)
both_skipped i j k kem_output (Err fault) e h = rw (e, h) refl
