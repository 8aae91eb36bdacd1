-- Decoding a PrivateMessage from left to right, as functions of the input. Internal: no public contract uses this.
use Rattle.std.specs.Prelude.{Option, Some, None, nat_eq, if◌then◌else◌}
use Rattle.std.specs.Int.{w8, w64}
use Rattle.mls_wire.specs.Input.{Input}
use Rattle.mls_wire.specs.Parsing.{◌>>=◌, number_at, vector_at}
use Rattle.mls_msgs.specs.declared.private_message.PrivateContent.{PrivateContent}
use Rattle.mls_msgs.specs.declared.private_message.PrivateContent.TheVariants.{Application, Proposal, Commit}
use Rattle.mls_msgs.specs.declared.private_message.PrivateMessage.{PrivateMessage}

-- A ContentType.
unfoldable pub content_type_at : Input → Option (PrivateContent × Input)
content_type_at i = do
  kind ← number_at w8 i
  if nat_eq kind.0 1 then Some (Application, kind.1)
      else if nat_eq kind.0 2 then Some (Proposal, kind.1)
      else if nat_eq kind.0 3 then Some (Commit, kind.1)
      else None

-- A PrivateMessage.
unfoldable pub private_message_at : Input → Option (PrivateMessage × Input)
private_message_at i = do
  group_id ← vector_at i
  epoch ← number_at w64 group_id.1
  content_type ← content_type_at epoch.1
  authenticated_data ← vector_at content_type.1
  encrypted_sender_data ← vector_at authenticated_data.1
  ciphertext ← vector_at encrypted_sender_data.1
  Some (
    record {
      group_id = group_id.0;
      epoch = epoch.0;
      content_type = content_type.0;
      authenticated_data = authenticated_data.0;
      encrypted_sender_data = encrypted_sender_data.0;
      ciphertext = ciphertext.0;
    },
    ciphertext.1,
  )
