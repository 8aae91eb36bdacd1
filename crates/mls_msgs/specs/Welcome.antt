-- Welcome and its encoding (RFC 9420, 12.4.3.1). Used by contracts.
use Rattle.std.specs.Prelude.{ℕ, List, Option, map}
use Rattle.std.specs.Int.{w16}
use Rattle.mls_wire.specs.Encoding.{◌⊕◌, number, vector, list}
use Rattle.mls_msgs.specs.Layout.{ciphertext}
use Rattle.mls_msgs.specs.declared.welcome.EncryptedGroupSecrets.{EncryptedGroupSecrets}
use Rattle.mls_msgs.specs.declared.welcome.Welcome.{Welcome}
use Rattle.mls_msgs.specs.declared.welcome.WelcomeFront.{WelcomeFront}

-- `encrypted_group_secrets s` is the encoding of an EncryptedGroupSecrets (RFC 9420, 12.4.3.1).
unfoldable pub encrypted_group_secrets : EncryptedGroupSecrets → Option (List ℕ)
encrypted_group_secrets s = vector s.new_member ⊕ ciphertext s.encrypted_group_secrets

-- `welcome w` is the encoding of a Welcome (RFC 9420, 12.4.3.1).
unfoldable pub welcome : Welcome → Option (List ℕ)
welcome w = number w16 w.cipher_suite ⊕ list encrypted_group_secrets w.secrets ⊕ vector w.encrypted_group_info

-- `new_members w` is the KeyPackageRefs of the new members that a Welcome names, in its order (RFC 9420, 12.4.3.1).
abbrev pub new_members : Welcome → List (List ℕ)
new_members w = map (λ s. s.new_member) w.secrets

-- `references front` is the KeyPackageRefs of the new members that a Welcome with this front names, in its order.
abbrev pub references : WelcomeFront → List (List ℕ)
references front = map (λ s. s.new_member) front.secrets
