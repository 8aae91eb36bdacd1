-- What the strict rules demand of a proposal or a commit (RFC 9420, 12.1 and 12.4), in a group with this GroupContext: of what
-- the content has by value, so that a proposal is checked when it comes, and a commit's inline proposals and its path with
-- it. Used by contracts.
use Rattle.std.specs.Prelude.{ℕ, ◌+◌, ◌==◌, nat_lt, Bool, true, ◌&&◌, ◌||◌, not, if◌then◌else◌, List, [], ◌∷◌, length, Option, Some, None}
use Rattle.std.specs.List.{list_all}
use Rattle.std.specs.Str.{bytes_eq}
use Rattle.mls_hash.specs.SuiteHash.{hash_length}
use Rattle.mls_nodes.specs.declared.context.GroupContext.{GroupContext}
use Rattle.mls_nodes.specs.declared.extension.Extension.{Extension}
use Rattle.mls_msgs.specs.Rules.{has_rule}
use Rattle.mls_msgs.specs.StrictRules.{strict_number}
use Rattle.mls_msgs.specs.declared.ciphertexts.Ciphertext.{Ciphertext}
use Rattle.mls_msgs.specs.declared.commit.PathNode.{PathNode}
use Rattle.mls_msgs.specs.declared.commit.UpdatePath.{UpdatePath}
use Rattle.mls_msgs.specs.declared.framed_content.Content.{Content}
use Rattle.mls_msgs.specs.declared.framed_content.Content.TheVariants as contents
use Rattle.mls_msgs.specs.declared.key_package.KeyPackage.{KeyPackage}
use Rattle.mls_msgs.specs.declared.pre_shared_key.PskKind.{PskKind}
use Rattle.mls_msgs.specs.declared.pre_shared_key.PskKind.TheVariants as psks
use Rattle.mls_msgs.specs.declared.pre_shared_key.PskUsage.TheVariants as usages
use Rattle.mls_msgs.specs.declared.proposal.Proposal.{Proposal}
use Rattle.mls_msgs.specs.declared.proposal.Proposal.TheVariants as proposals
use Rattle.mls_msgs.specs.declared.proposal.ProposalOrRef.{ProposalOrRef}
use Rattle.mls_msgs.specs.declared.proposal.ProposalOrRef.TheVariants as entries
use Rattle.mls_msgs.specs.declared.rules.Rules.{Rules}
use Rattle.mls_msgs.specs.declared.strict_rule.StrictRule.{StrictRule}
use Rattle.mls_msgs.specs.declared.strict_rule.StrictRule.TheVariants as rules
use Rattle.mls_strict.specs.ExtensionLists.{has_each_once, has_readable_senders}
use Rattle.mls_strict.specs.KeyForms.{is_hpke_key, is_suite_point}
use Rattle.mls_strict.specs.LeafForms.{leaf_meets}

-- `package_meets version suite r kp`: the KeyPackage meets the strict rule: its leaf node does, its list of extensions has
-- each type once, and its init key has the form of the suite and is a point of its curve (RFC 9420, 10).
abbrev pub package_meets : ℕ → ℕ → StrictRule → KeyPackage → Bool
package_meets version suite rules.ExtensionRepeated kp =
    has_each_once kp.extensions && leaf_meets version suite rules.ExtensionRepeated kp.leaf_node
package_meets version suite rules.KeyForm kp =
    is_hpke_key suite kp.init_key && leaf_meets version suite rules.KeyForm kp.leaf_node
package_meets version suite rules.PointOffCurve kp =
    is_suite_point suite kp.init_key && leaf_meets version suite rules.PointOffCurve kp.leaf_node
package_meets version suite r kp = leaf_meets version suite r kp.leaf_node

-- `is_held context k`: a resumption PSK of usage application is not of this group in a later epoch than the current one
-- (RFC 9420, 8.6 and 12.4.2). The usages reinit and branch may name a former group of the same id.
abbrev pub is_held : GroupContext → PskKind → Bool
is_held context (psks.External _) = true
is_held context (psks.Resumption usages.Application group_id epoch) =
    not (bytes_eq group_id context.group_id && nat_lt context.epoch epoch)
is_held context (psks.Resumption usages.ReInit group_id epoch) = true
is_held context (psks.Resumption usages.Branch group_id epoch) = true

-- `extensions_meet r es`: the extensions of a GroupContextExtensions meet the strict rule (RFC 9420, 12.1.7).
abbrev pub extensions_meet : StrictRule → List Extension → Bool
extensions_meet rules.ExtensionRepeated es = has_each_once es
extensions_meet rules.ExtensionUnreadable es = has_readable_senders es
extensions_meet r es = true

-- `proposal_meets context r p`: the proposal meets the strict rule (RFC 9420, 12.1).
abbrev pub proposal_meets : GroupContext → StrictRule → Proposal → Bool
proposal_meets context r (proposals.Add kp) = package_meets context.version context.cipher_suite r kp
proposal_meets context r (proposals.Update x) = leaf_meets context.version context.cipher_suite r x
proposal_meets context r (proposals.Remove _) = true
proposal_meets context r (proposals.ContextExtensions es) = extensions_meet r es
proposal_meets context rules.PskAhead (proposals.PreSharedKey id) = is_held context id.kind
proposal_meets context r (proposals.PreSharedKey id) = true
proposal_meets context rules.ExtensionRepeated (proposals.ReInit reinit) = has_each_once reinit.extensions
proposal_meets context r (proposals.ReInit reinit) = true
proposal_meets context rules.CiphertextForm (proposals.ExternalInit kem_output) = is_hpke_key context.cipher_suite kem_output
proposal_meets context rules.PointOffCurve (proposals.ExternalInit kem_output) =
    is_suite_point context.cipher_suite kem_output
proposal_meets context r (proposals.ExternalInit kem_output) = true

-- `is_ciphertext suite c`: its kem_output has the form of the suite's KEM, and it encrypts a path secret, of the length of
-- the suite's hash, with a tag of 16 bytes (RFC 9420, 7.6; RFC 9180, 7.1 and 7.3).
unfoldable pub is_ciphertext : ℕ → Ciphertext → Bool
is_ciphertext suite c = is_hpke_key suite c.kem_output && (length c.ciphertext == hash_length suite + 16)

-- `ciphertext_meets suite r c`: the ciphertext meets the strict rule (RFC 9420, 7.6).
abbrev pub ciphertext_meets : ℕ → StrictRule → Ciphertext → Bool
ciphertext_meets suite rules.CiphertextForm c = is_ciphertext suite c
ciphertext_meets suite rules.PointOffCurve c = is_suite_point suite c.kem_output
ciphertext_meets suite r c = true

-- `node_meets suite r n`: the path node meets the strict rule (RFC 9420, 7.6).
abbrev pub node_meets : ℕ → StrictRule → PathNode → Bool
node_meets suite rules.KeyForm n = is_hpke_key suite n.encryption_key
node_meets suite rules.CiphertextForm n = list_all (ciphertext_meets suite rules.CiphertextForm) n.ciphertexts
node_meets suite rules.PointOffCurve n =
    is_suite_point suite n.encryption_key && list_all (ciphertext_meets suite rules.PointOffCurve) n.ciphertexts
node_meets suite r n = true

-- `path_meets context r path`: the path, if there is one, meets the strict rule.
abbrev pub path_meets : GroupContext → StrictRule → Option UpdatePath → Bool
path_meets context r None = true
path_meets context r (Some path) =
    leaf_meets context.version context.cipher_suite r path.leaf_node && list_all (node_meets context.cipher_suite r) path.nodes

-- `entry_meets context r e`: the entry of a proposal list meets the strict rule. What is named by reference was checked when
-- it came.
abbrev pub entry_meets : GroupContext → StrictRule → ProposalOrRef → Bool
entry_meets context r (entries.Proposal p) = proposal_meets context r p
entry_meets context r (entries.Reference _) = true

-- `content_meets context r c`: the content meets the strict rule.
abbrev pub content_meets : GroupContext → StrictRule → Content → Bool
content_meets context r (contents.Application _) = true
content_meets context r (contents.Proposal p) = proposal_meets context r p
content_meets context r (contents.Commit c) =
    list_all (entry_meets context r) c.proposals && path_meets context r c.path

-- `content_rules` are the strict rules for a content, in the order in which a fault is named.
abbrev pub content_rules : List StrictRule
content_rules =
    rules.ExtensionRepeated ∷ rules.ExtensionMisplaced ∷ rules.ExtensionUnreadable ∷ rules.KeyForm ∷ rules.CiphertextForm
    ∷ rules.GroupUnlisted ∷ rules.DefaultListed ∷ rules.LifetimeEmpty ∷ rules.CertificateKey ∷ rules.PskAhead
    ∷ rules.PointOffCurve ∷ []

-- `first_unmet asked meets rs` is the first of these rules that the set has and that is not met.
abbrev pub first_unmet : Rules → (StrictRule → Bool) → List StrictRule → Option StrictRule
first_unmet asked meets [] = None
first_unmet asked meets (r ∷ rs) =
    if not (has_rule asked (strict_number r)) || meets r then first_unmet asked meets rs else Some r

-- `proposal_refusal asked context p` is the first strict rule of the set that the proposal does not meet by itself.
unfoldable pub proposal_refusal : Rules → GroupContext → Proposal → Option StrictRule
proposal_refusal asked context p = first_unmet asked (λ r. proposal_meets context r p) content_rules

-- `package_refusal asked suite version kp` is the first strict rule of the set that the KeyPackage does not meet by itself.
unfoldable pub package_refusal : Rules → ℕ → ℕ → KeyPackage → Option StrictRule
package_refusal asked suite version kp = first_unmet asked (λ r. package_meets version suite r kp) content_rules

-- `content_refusal asked context c` is the first strict rule of the set that the content does not meet.
unfoldable pub content_refusal : Rules → GroupContext → Content → Option StrictRule
content_refusal asked context c = first_unmet asked (λ r. content_meets context r c) content_rules
