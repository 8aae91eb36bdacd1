-- The fingerprints of PreSharedKeyIDs (RFC 9420, 8.4), by which they are compared first.
-- Internal: no public contract uses this.
use Rattle.std.specs.Prelude.{ℕ, ◌++◌}
use Rattle.mls_nodes.specs.Fingerprints.{fingerprint}
use Rattle.mls_msgs.specs.declared.pre_shared_key.PreSharedKeyId.{PreSharedKeyId}
use Rattle.mls_msgs.specs.declared.proposal.Proposal.{Proposal}
use Rattle.mls_msgs.specs.declared.proposal.Proposal.TheVariants.{Add, Update, Remove, ContextExtensions, PreSharedKey, ReInit, ExternalInit}
use Rattle.mls_apply.specs.PskKeys.{kind_bytes}

-- `id_fingerprint id` is the fingerprint of the parts of a PreSharedKeyID that can be long: the id or group id of the PSK,
-- followed by the nonce.
abbrev pub id_fingerprint : PreSharedKeyId → ℕ
id_fingerprint id = fingerprint (kind_bytes id.kind ++ id.nonce)

-- `psk_fingerprint p` is the fingerprint of the PreSharedKeyID of a proposal, and 0 if it is no PreSharedKey.
abbrev pub psk_fingerprint : Proposal → ℕ
psk_fingerprint (Add _) = 0
psk_fingerprint (Update _) = 0
psk_fingerprint (Remove _) = 0
psk_fingerprint (ContextExtensions _) = 0
psk_fingerprint (PreSharedKey id) = id_fingerprint id
psk_fingerprint (ReInit _) = 0
psk_fingerprint (ExternalInit _) = 0
