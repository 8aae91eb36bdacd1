-- Decoding a message that is a whole input. Internal: no public contract uses this.
use Rattle.std.specs.Prelude.{ℕ, List, length, Option, Some, None, nat_eq, if◌then◌else◌}
use Rattle.std.specs.Int.{w16}
use Rattle.mls_wire.specs.Input.{Input, at}
use Rattle.mls_wire.specs.Parsing.{◌>>=◌, number_at}
use Rattle.mls_msgs.specs.Parsing.{key_package_at, group_info_at}
use Rattle.mls_msgs.specs.FrameParsing.{public_message_at}
use Rattle.mls_msgs.specs.Message.{is_unread}
use Rattle.mls_msgs.specs.declared.message.Message.{Message}
use Rattle.mls_msgs.specs.declared.message.Message.TheVariants as messages

-- The wire format, after the protocol version 1.
unfoldable pub header_at : Input → Option (ℕ × Input)
header_at i = do
  version ← number_at w16 i
  if nat_eq version.0 1 then number_at w16 version.1 else None

-- The value that is all of the rest.
abbrev pub rest_at : {A : Type 0} → (Input → Option (A × Input)) → Input → Option A
rest_at read i = do
  x ← read i
  if nat_eq (length x.1.left) 0 then Some x.0 else None

-- The body of a message of this wire format.
unfoldable pub message_body_at : ℕ → Input → Option Message
message_body_at wire_format i =
    if nat_eq wire_format 1 then (rest_at public_message_at i >>= λ m. Some (messages.Public m))
    else if is_unread wire_format then Some (messages.Unread wire_format i.left)
    else if nat_eq wire_format 4 then (rest_at group_info_at i >>= λ g. Some (messages.GroupInfo g))
    else if nat_eq wire_format 5 then (rest_at key_package_at i >>= λ k. Some (messages.KeyPackage k))
    else None

-- A message.
unfoldable pub message_at : List ℕ → Option Message
message_at bytes = do
  wire_format ← header_at (at 0 bytes)
  message_body_at wire_format.0 wire_format.1
