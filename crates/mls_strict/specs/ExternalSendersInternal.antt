-- Credentials of external senders that are not read (RFC 9420, 12.1.8.1). Internal: no public contract uses this.
use Rattle.std.specs.Prelude.{ℕ, ◌==◌, ◌||◌, if◌then◌else◌, Option, Some, None}
use Rattle.std.specs.Int.{w16}
use Rattle.mls_wire.specs.Input.{Input}
use Rattle.mls_wire.specs.Parsing.{◌>>=◌, vector_at, number_at}

-- `unread_front i` is the credential type of the external sender at the front, if it is neither basic nor x509.
unfoldable pub unread_front : Input → Option ℕ
unread_front i = do
  key ← vector_at i
  kind ← number_at w16 key.1
  if (kind.0 == 1) || (kind.0 == 2) then None else Some kind.0
