-- What every GroupInfo must satisfy that fits a group that is followed (RFC 9420, 12.4.3 and 12.4.3.2), in whatever epoch it is.
-- `s` is the state. Used by contracts.
use Rattle.std.specs.Prelude.{ℕ, ◌==◌, ◌&&◌, ◌||◌, nat_le, Bool, false, not, List, [], ◌∷◌, filter, length, Option, Some, None}
use Rattle.std.specs.Str.{bytes_eq}
use Rattle.mls_wire.specs.Parsing.{whole_at, vector_at}
use Rattle.mls_nodes.specs.Requirements.{extension_of}
use Rattle.mls_hash.specs.Suites.{hpke_key_length}
use Rattle.mls_check.specs.Signatures.{VerifyFn}
use Rattle.mls_msgs.specs.Rules.{has_rule}
use Rattle.mls_msgs.specs.declared.group_info.GroupInfo.{GroupInfo}
use Rattle.mls_msgs.specs.declared.rules.Rules.{Rules}
use Rattle.mls_strict.specs.ExtensionLists.{if_there}
use Rattle.mls_strict.specs.KeyForms.{is_hpke_key, is_suite_point}
use Rattle.mls_apply.specs.RuleLists.{Rule, rule}
use Rattle.mls_signatures.specs.declared.signature_to_verify.SignatureToVerify.{SignatureToVerify}
use Rattle.mls_follow.specs.State.{State}
use Rattle.mls_examine.specs.Packages.{is_accepted}
use Rattle.mls_examine.specs.declared.unfit.Unfit.{Unfit}
use Rattle.mls_examine.specs.declared.unfit.Unfit.TheVariants as unfit

-- `unaccepted G qs` is those of the signatures that `G` does not accept.
abbrev pub unaccepted : VerifyFn → List SignatureToVerify → List SignatureToVerify
unaccepted G qs = filter (λ q. not (is_accepted G q)) qs

-- `info_rules s info` is the rules of a GroupInfo in any epoch: the group, the version and the cipher suite are those of the
-- state, its epoch is not a former one, and the group is not over (RFC 9420, 11.2 and 12.4.3).
abbrev pub info_rules : State → GroupInfo → List (Rule Unfit)
info_rules s info =
    rule unfit.WrongGroup (bytes_eq info.context.group_id s.context.group_id)
    ∷ rule unfit.WrongVersion (info.context.version == s.context.version)
    ∷ rule unfit.WrongSuite (info.context.cipher_suite == s.context.cipher_suite)
    ∷ rule unfit.PastEpoch (nat_le s.context.epoch info.context.epoch)
    ∷ rule unfit.GroupOver (not s.ended)
    ∷ []

-- `is_kem_key asked suite key`: the bytes have the length of a public key of the suite's KEM (RFC 9180, 7.1). If the set has strict
-- rule 44, they have its form, and if it has 52, they are a point of its curve.
abbrev pub is_kem_key : Rules → ℕ → List ℕ → Bool
is_kem_key asked suite key =
    (length key == hpke_key_length suite)
    && (not (has_rule asked 44) || is_hpke_key suite key)
    && (not (has_rule asked 52) || is_suite_point suite key)

-- `is_kem_key_read asked suite key`: so is the key that was read, if one was.
abbrev pub is_kem_key_read : Rules → ℕ → Option (List ℕ) → Bool
is_kem_key_read asked suite None = false
is_kem_key_read asked suite (Some key) = is_kem_key asked suite key

-- `is_external_pub asked suite body`: the data are those of an external_pub, one vector with such a key (RFC 9420, 12.4.3.2).
abbrev pub is_external_pub : Rules → ℕ → List ℕ → Bool
is_external_pub asked suite body = is_kem_key_read asked suite (whole_at vector_at body)

-- `has_usable_external_pub s info`: the first external_pub of the GroupInfo, if there is one, is one of the group's cipher suite
-- and of the strict rules of the state (RFC 9420, 12.4.3.2; own rule). No member looks at it, and with another one a client
-- cannot join.
unfoldable pub has_usable_external_pub : State → GroupInfo → Bool
has_usable_external_pub s info =
    if_there (is_external_pub s.rules s.context.cipher_suite) (extension_of 4 info.extensions)
