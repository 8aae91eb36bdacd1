-- MLSMessage and its encoding (RFC 9420, 6). Used by contracts.
use Rattle.std.specs.Prelude.{◌≡◌, ℕ, List, Bool, true, false, ◌||◌, Option, Some, None, IsSome, Result, Ok, Err, nat_eq, if◌then◌else◌}
use Rattle.std.specs.Int.{w16}
use Rattle.mls_wire.specs.Encoding.{◌⊕◌, number}
use Rattle.mls_wire.specs.Faults.{too_long_at}
use Rattle.mls_wire.specs.declared.fault.WireFault.{WireFault}
use Rattle.mls_wire.specs.declared.fault.WireFaultKind.TheVariants as kinds
use Rattle.mls_wire.specs.declared.fault.CodecFault.{CodecFault}
use Rattle.mls_wire.specs.declared.fault.CodecFault.TheVariants as faults
use Rattle.mls_msgs.specs.Layout.{key_package, group_info}
use Rattle.mls_msgs.specs.PublicMessage.{public_message}
use Rattle.mls_msgs.specs.declared.message.Message.{Message}
use Rattle.mls_msgs.specs.declared.message.Message.TheVariants as messages

-- `header wire_format` is the encoding of the protocol version 1 and the wire format (RFC 9420, 6).
unfoldable pub header : ℕ → Option (List ℕ)
header wire_format = number w16 1 ⊕ number w16 wire_format

-- `is_unread wire_format`: the body of such a message is stored unread. It is a PrivateMessage 2 or a Welcome 3.
abbrev pub is_unread : ℕ → Bool
is_unread wire_format = nat_eq wire_format 2 || nat_eq wire_format 3

-- `message m` is the encoding of an MLSMessage (RFC 9420, 6). A body that is stored unread is the rest of the input.
unfoldable pub message : Message → Option (List ℕ)
message (messages.Public m) = header 1 ⊕ public_message m
message (messages.Unread wire_format body) = if is_unread wire_format then header wire_format ⊕ Some body else None
message (messages.GroupInfo g) = header 4 ⊕ group_info g
message (messages.KeyPackage k) = header 5 ⊕ key_package k

-- `bad_format wire_format` is the fault of an unread message with another wire format. Its offset is 2.
abbrev pub bad_format : ℕ → WireFault
bad_format wire_format = record { kind = kinds.BadTag wire_format; at = 2 }

-- `IsMessageFault m f`: the fault of a message without an encoding. It is BadTag for an unread one with another wire
-- format, else TooLong at 0.
abbrev pub IsMessageFault : Message → WireFault → Type 0
IsMessageFault (messages.Public m) f = f ≡ too_long_at 0
IsMessageFault (messages.Unread wire_format body) f =
    (is_unread wire_format ≡ true → f ≡ too_long_at 0) × (is_unread wire_format ≡ false → f ≡ bad_format wire_format)
IsMessageFault (messages.GroupInfo g) f = f ≡ too_long_at 0
IsMessageFault (messages.KeyPackage k) f = f ≡ too_long_at 0

-- `MakesMessage m result`: the call returned the encoding. There is a wire fault if and only if there is no encoding.
abbrev pub MakesMessage : Message → Result (List ℕ) CodecFault → Type 0
MakesMessage m (Ok bytes) = message m ≡ Some bytes
MakesMessage m (Err (faults.Wire f)) = (message m ≡ None) × IsMessageFault m f
MakesMessage m (Err faults.OutOfMemory) = IsSome (message m)
