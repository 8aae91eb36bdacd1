-- A ciphertext of a path node, read from left to right. Internal: no public contract uses this, except those of
-- `Decode::read` and `Skip::skip`.
use Rattle.std.specs.Prelude.{Option, Some}
use Rattle.mls_wire.specs.Input.{Input}
use Rattle.mls_wire.specs.Parsing.{◌>>=◌, vector_at}
use Rattle.mls_msgs.specs.declared.ciphertexts.Ciphertext.{Ciphertext}

-- An HPKECiphertext.
unfoldable pub ciphertext_at : Input → Option (Ciphertext × Input)
ciphertext_at i = do
  kem_output ← vector_at i
  ciphertext ← vector_at kem_output.1
  Some (record { kem_output = kem_output.0; ciphertext = ciphertext.0 }, ciphertext.1)
