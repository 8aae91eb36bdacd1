-- The header of an MLSMessage: its protocol version and wire format (RFC 9420, 6). Used by contracts.
use Rattle.std.specs.Prelude.{◌≡◌, ◌≤◌, ℕ, List, length, true, Some}
use Rattle.mls_wire.specs.Encoding.{◌⊕◌}
use Rattle.mls_wire.specs.Limits.{input_limit}
use Rattle.mls_msgs.specs.Message.{header, is_unread}

-- `IsWireFormat n`: `n` is the wire format of an MLSMessage (RFC 9420, 6). It is a PublicMessage 1, a PrivateMessage 2,
-- a Welcome 3, a GroupInfo 4 or a KeyPackage 5.
abbrev pub IsWireFormat : ℕ → Type 0
IsWireFormat n = (1 ≤ n) × (n ≤ 5)

-- `HasHeader wire_format bytes`: the bytes are the protocol version 1, the wire format, and any bytes as the body
-- (RFC 9420, 6).
abbrev pub HasHeader : ℕ → List ℕ → Type 0
HasHeader wire_format bytes = (body : List ℕ) × (header wire_format ⊕ Some body ≡ Some bytes)

-- `HasNoHeader bytes`: the bytes have the header of no wire format. So they are fewer than four, or the first four are
-- another version or another wire format.
abbrev pub HasNoHeader : List ℕ → Type 0
HasNoHeader bytes = (wire_format : ℕ) → IsWireFormat wire_format → HasHeader wire_format bytes → ⊥

-- `IsUnreadMessage bytes`: the bytes are within the limit of an input, and have the header of a message whose body is
-- stored unread: a PrivateMessage or a Welcome. So they are its encoding.
pub record IsUnreadMessage (bytes : List ℕ) : Type 0 where
  pub wire_format : ℕ
  pub unread : is_unread wire_format ≡ true
  pub header : HasHeader wire_format bytes
  pub bounded : length bytes ≤ input_limit
