-- The encrypted secrets for one new member, read from left to right. Internal: no public contract uses this, except those
-- of `Decode::read` and `Skip::skip`.
use Rattle.std.specs.Prelude.{Option, Some}
use Rattle.mls_wire.specs.Input.{Input}
use Rattle.mls_wire.specs.Parsing.{◌>>=◌, vector_at}
use Rattle.mls_msgs.specs.Ciphertext.{ciphertext_at}
use Rattle.mls_msgs.specs.declared.welcome.EncryptedGroupSecrets.{EncryptedGroupSecrets}

-- An EncryptedGroupSecrets.
unfoldable pub encrypted_group_secrets_at : Input → Option (EncryptedGroupSecrets × Input)
encrypted_group_secrets_at i = do
  new_member ← vector_at i
  secrets ← ciphertext_at new_member.1
  Some (record { new_member = new_member.0; encrypted_group_secrets = secrets.0 }, secrets.1)
