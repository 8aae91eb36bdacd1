-- The encrypted secrets in an input, and whom they are for, read from left to right. Internal: no public contract uses this.
use Rattle.std.specs.Prelude.{ℕ, List, [], length, map, Option, unwrap_or}
use Rattle.mls_wire.specs.Input.{Input}
use Rattle.mls_wire.specs.Parsing.{items_at}
use Rattle.mls_msgs.specs.EncryptedGroupSecrets.{encrypted_group_secrets_at}
use Rattle.mls_msgs.specs.declared.welcome.EncryptedGroupSecrets.{EncryptedGroupSecrets}

-- `secrets_left i` is the EncryptedGroupSecrets up to the end of the input.
abbrev pub secrets_left : Input → Option (List EncryptedGroupSecrets)
secrets_left i = items_at encrypted_group_secrets_at (length i.left) i

-- `references_in i` is the references of those whom they are for, if the input has such up to its end.
abbrev pub references_in : Input → List (List ℕ)
references_in i = map (λ s. s.new_member) (unwrap_or (secrets_left i) [])
