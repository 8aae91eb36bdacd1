-- What is read as a Welcome or a part of one is encoded so, and what is encoded so is read. Internal: no public contract
-- uses this.
use Rattle.std.proofs.Common.{refl}
use Rattle.std.specs.Int.{w16}
use Rattle.mls_wire.specs.Encoding.{number, vector, list}
use Rattle.mls_wire.specs.Parsing.{number_at, vector_at, list_at}
use Rattle.mls_wire.specs.ExactParsers.{IsExact, IsLong, Any, field_then, made_of}
use Rattle.mls_wire.specs.IntegersExact.{wide16, number_exact}
use Rattle.mls_wire.specs.VectorsExact.{vector_exact, vector_long}
use Rattle.mls_wire.specs.ListsExact.{list_exact}
use Rattle.mls_wire.specs.EncodingConcat.{long_left}
use Rattle.mls_msgs.specs.Layout.{ciphertext}
use Rattle.mls_msgs.specs.Ciphertext.{ciphertext_at}
use Rattle.mls_msgs.specs.CommitExact.{ciphertext_exact}
use Rattle.mls_msgs.specs.Welcome.{encrypted_group_secrets, welcome}
use Rattle.mls_msgs.specs.EncryptedGroupSecrets.{encrypted_group_secrets_at}
use Rattle.mls_msgs.specs.WelcomeParsing.{welcome_at}

pub encrypted_group_secrets_exact : IsExact encrypted_group_secrets encrypted_group_secrets_at
unfolding encrypted_group_secrets encrypted_group_secrets_at
encrypted_group_secrets_exact =
    field_then Any (λ s. s.new_member) vector _ vector_at _ vector_exact
    (λ a. made_of _ (λ x. record { new_member = a; encrypted_group_secrets = x }) ciphertext _ ciphertext_at ciphertext_exact
    (λ x. (tt, refl)) (λ x. refl) (λ s p. (s.encrypted_group_secrets, rw (← p.1) refl)))

pub encrypted_group_secrets_long : IsLong encrypted_group_secrets
unfolding encrypted_group_secrets
encrypted_group_secrets_long s front h = long_left (vector s.new_member) _ front (vector_long s.new_member) h

pub secrets_exact : IsExact (list encrypted_group_secrets) (list_at encrypted_group_secrets_at)
secrets_exact = list_exact encrypted_group_secrets encrypted_group_secrets_at encrypted_group_secrets_exact encrypted_group_secrets_long

pub welcome_exact : IsExact welcome welcome_at
unfolding welcome welcome_at
welcome_exact =
    field_then Any (λ w. w.cipher_suite) (number w16) _ (number_at w16) _ (number_exact w16 wide16)
    (λ a. field_then _ (λ w. w.secrets) (list encrypted_group_secrets) _ (list_at encrypted_group_secrets_at) _ secrets_exact
    (λ b. made_of _ (λ x. record { cipher_suite = a; secrets = b; encrypted_group_info = x }) vector _ vector_at vector_exact
    (λ x. ((tt, refl), refl)) (λ x. refl)
    (λ w p. (w.encrypted_group_info, rw (← p.0.1, ← p.1) refl))))
