-- Decoding a Welcome from left to right, as a function of the input. Internal: no public contract uses this.
use Rattle.std.specs.Prelude.{Option, Some}
use Rattle.std.specs.Int.{w16}
use Rattle.mls_wire.specs.Input.{Input}
use Rattle.mls_wire.specs.Parsing.{◌>>=◌, number_at, vector_at, list_at}
use Rattle.mls_msgs.specs.EncryptedGroupSecrets.{encrypted_group_secrets_at}
use Rattle.mls_msgs.specs.declared.welcome.Welcome.{Welcome}

-- A Welcome.
unfoldable pub welcome_at : Input → Option (Welcome × Input)
welcome_at i = do
  cipher_suite ← number_at w16 i
  secrets ← list_at encrypted_group_secrets_at cipher_suite.1
  encrypted_group_info ← vector_at secrets.1
  Some (
    record {
      cipher_suite = cipher_suite.0;
      secrets = secrets.0;
      encrypted_group_info = encrypted_group_info.0;
    },
    encrypted_group_info.1,
  )
