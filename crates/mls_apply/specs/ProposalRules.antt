-- The rules for a single proposal (RFC 9420, 7.3, 10.1, 11.1 and 12.1). G is the verification function of a checker, t the
-- ratchet tree. Used by contracts.
use Rattle.std.specs.Prelude.{ℕ, ◌==◌, nat_le, ◌&&◌, not, is_some, List, [], ◌∷◌, Bool, true, false, Option, Some, None}
use Rattle.std.specs.List.{list_all}
use Rattle.std.specs.Str.{bytes_eq}
use Rattle.mls_nodes.specs.declared.context.GroupContext.{GroupContext}
use Rattle.mls_nodes.specs.declared.extension.Extension.{Extension}
use Rattle.mls_nodes.specs.declared.leaf.LeafNode.{LeafNode}
use Rattle.mls_nodes.specs.declared.leaf_source.LeafSource.{LeafSource}
use Rattle.mls_nodes.specs.declared.leaf_source.LeafSource.TheVariants as sources
use Rattle.mls_nodes.specs.Requirements.{required_by}
use Rattle.mls_msgs.specs.declared.framed_content.Sender.{Sender}
use Rattle.mls_msgs.specs.declared.framed_content.Sender.TheVariants as senders
use Rattle.mls_msgs.specs.declared.key_package.KeyPackage.{KeyPackage}
use Rattle.mls_msgs.specs.declared.proposal.Proposal.{Proposal}
use Rattle.mls_msgs.specs.declared.proposal.Proposal.TheVariants.{Add, Update, Remove, ContextExtensions, PreSharedKey, ReInit, ExternalInit}
use Rattle.mls_msgs.specs.declared.proposal.ProposalOrRef.{ProposalOrRef}
use Rattle.mls_msgs.specs.declared.proposal.ProposalOrRef.TheVariants as entries
use Rattle.mls_msgs.specs.declared.reinit.ReInit as reinits
use Rattle.mls_msgs.specs.Tbs.{package_label, package_tbs}
use Rattle.mls_tree.specs.Tree.{Tree, leaf_at}
use Rattle.mls_check.specs.Signatures.{VerifyFn, is_signed_text}
use Rattle.mls_check.specs.LeafValidation.{is_leaf_signed}
use Rattle.mls_apply.specs.PskProposals.{is_valid_psk}
use Rattle.mls_apply.specs.RuleLists.{Rule, rule, first_failing}
use Rattle.mls_apply.specs.Senders.{is_present}
use Rattle.mls_apply.specs.declared.refusal.Refusal.{Refusal}
use Rattle.mls_apply.specs.declared.refusal.Refusal.TheVariants.{SenderNotMember, AddInvalid, UpdateInvalid, RemoveInvalid, ContextExtensionsInvalid, PskInvalid, ReInitInvalid, ExternalInitMisplaced}

-- `is_from_key_package s`: the source of a leaf node is key_package (RFC 9420, 7.2).
abbrev pub is_from_key_package : LeafSource → Bool
is_from_key_package (sources.KeyPackage _) = true
is_from_key_package sources.Update = false
is_from_key_package (sources.Commit _) = false

-- `is_from_update s`: the source of a leaf node is update (RFC 9420, 7.2).
abbrev pub is_from_update : LeafSource → Bool
is_from_update (sources.KeyPackage _) = false
is_from_update sources.Update = true
is_from_update (sources.Commit _) = false

-- `is_from_commit s`: the source of a leaf node is commit (RFC 9420, 7.2).
abbrev pub is_from_commit : LeafSource → Bool
is_from_commit (sources.KeyPackage _) = false
is_from_commit sources.Update = false
is_from_commit (sources.Commit _) = true

-- `is_package_signed G suite k`: the signature of a KeyPackage is good (RFC 9420, 10.1).
unfoldable pub is_package_signed : VerifyFn → ℕ → KeyPackage → Bool
is_package_signed G suite k =
    is_signed_text G suite k.leaf_node.signature_key package_label (package_tbs k) k.signature

-- `fits_group context k`: the KeyPackage has the group's version and cipher suite. The source of its leaf node is
-- key_package, and its init key is not the leaf's encryption key (RFC 9420, 7.3 and 10.1).
unfoldable pub fits_group : GroupContext → KeyPackage → Bool
fits_group context k =
    k.version == context.version
    && k.cipher_suite == context.cipher_suite
    && is_from_key_package k.leaf_node.source
    && not (bytes_eq k.init_key k.leaf_node.encryption_key)

-- `is_valid_add G context k`: the KeyPackage of an Add is valid. It fits the group, and the signatures of its leaf node
-- and its own are good (RFC 9420, 7.3 and 10.1). What is signed of such a leaf node has no group id and no leaf index.
unfoldable pub is_valid_add : VerifyFn → GroupContext → KeyPackage → Bool
is_valid_add G context k =
    fits_group context k
    && is_leaf_signed G context.cipher_suite context.group_id 0 k.leaf_node
    && is_package_signed G context.cipher_suite k

-- `fits_leaf present x`: the source of the leaf node is update, and its encryption key is not that of the sender's
-- current leaf (RFC 9420, 7.3 and 12.1.2).
unfoldable pub fits_leaf : Option LeafNode → LeafNode → Bool
fits_leaf None x = false
fits_leaf (Some present) x = is_from_update x.source && not (bytes_eq x.encryption_key present.encryption_key)

-- `is_valid_update G context sender present x`: the leaf node of an Update is valid. It fits, and its signature for
-- this group and leaf is good, under its own signature key (RFC 9420, 7.3 and 12.1.2).
unfoldable pub is_valid_update : VerifyFn → GroupContext → ℕ → Option LeafNode → LeafNode → Bool
is_valid_update G context sender present x =
    fits_leaf present x && is_leaf_signed G context.cipher_suite context.group_id sender x

-- `is_valid_update_by G context t sender x`: the leaf node of an Update of this sender is valid. Only a member can send
-- an Update (RFC 9420, 12.1.2).
abbrev pub is_valid_update_by : VerifyFn → GroupContext → Tree → Sender → LeafNode → Bool
is_valid_update_by G context t (senders.Member i) x = is_valid_update G context i (leaf_at 0 t i) x
is_valid_update_by G context t (senders.External _) x = false
is_valid_update_by G context t senders.NewMemberProposal x = false
is_valid_update_by G context t senders.NewMemberCommit x = false

-- `is_valid_remove t i`: the leaf of a Remove is non-blank (RFC 9420, 12.1.3).
unfoldable pub is_valid_remove : Tree → ℕ → Bool
is_valid_remove t i = is_some (leaf_at 0 t i)

-- `are_valid_extensions es`: the required capabilities in the extensions of a GroupContextExtensions proposal can be
-- read (RFC 9420, 11.1 and 12.1.7).
unfoldable pub are_valid_extensions : List Extension → Bool
are_valid_extensions es = is_some (required_by es)

-- `is_valid_reinit context r`: the version of a ReInit is no less than the group's (RFC 9420, 12.1.5).
unfoldable pub is_valid_reinit : GroupContext → reinits.ReInit → Bool
is_valid_reinit context r = nat_le context.version r.version

-- `fits_if_add context p`: if the proposal is an Add, its KeyPackage fits the group. Signatures are not checked.
abbrev pub fits_if_add : GroupContext → Proposal → Bool
fits_if_add context (Add k) = fits_group context k
fits_if_add context (Update x) = true
fits_if_add context (Remove i) = true
fits_if_add context (ContextExtensions es) = true
fits_if_add context (PreSharedKey id) = true
fits_if_add context (ReInit r) = true
fits_if_add context (ExternalInit output) = true

-- `valid_if_add G context p`: if the proposal is an Add, it is valid.
abbrev pub valid_if_add : VerifyFn → GroupContext → Proposal → Bool
valid_if_add G context (Add k) = is_valid_add G context k
valid_if_add G context (Update x) = true
valid_if_add G context (Remove i) = true
valid_if_add G context (ContextExtensions es) = true
valid_if_add G context (PreSharedKey id) = true
valid_if_add G context (ReInit r) = true
valid_if_add G context (ExternalInit output) = true

-- `valid_if_update G context t sender p`: if the proposal is an Update, it is valid.
abbrev pub valid_if_update : VerifyFn → GroupContext → Tree → Sender → Proposal → Bool
valid_if_update G context t sender (Add k) = true
valid_if_update G context t sender (Update x) = is_valid_update_by G context t sender x
valid_if_update G context t sender (Remove i) = true
valid_if_update G context t sender (ContextExtensions es) = true
valid_if_update G context t sender (PreSharedKey id) = true
valid_if_update G context t sender (ReInit r) = true
valid_if_update G context t sender (ExternalInit output) = true

-- `valid_if_remove t p`: if the proposal is a Remove, it is valid.
abbrev pub valid_if_remove : Tree → Proposal → Bool
valid_if_remove t (Add k) = true
valid_if_remove t (Update x) = true
valid_if_remove t (Remove i) = is_valid_remove t i
valid_if_remove t (ContextExtensions es) = true
valid_if_remove t (PreSharedKey id) = true
valid_if_remove t (ReInit r) = true
valid_if_remove t (ExternalInit output) = true

-- `valid_if_extensions p`: if the proposal is a GroupContextExtensions, it is valid.
abbrev pub valid_if_extensions : Proposal → Bool
valid_if_extensions (Add k) = true
valid_if_extensions (Update x) = true
valid_if_extensions (Remove i) = true
valid_if_extensions (ContextExtensions es) = are_valid_extensions es
valid_if_extensions (PreSharedKey id) = true
valid_if_extensions (ReInit r) = true
valid_if_extensions (ExternalInit output) = true

-- `valid_if_psk context sender p`: if the proposal is a PreSharedKey, it is valid.
abbrev pub valid_if_psk : GroupContext → Sender → Proposal → Bool
valid_if_psk context sender (Add k) = true
valid_if_psk context sender (Update x) = true
valid_if_psk context sender (Remove i) = true
valid_if_psk context sender (ContextExtensions es) = true
valid_if_psk context sender (PreSharedKey id) = is_valid_psk context sender id
valid_if_psk context sender (ReInit r) = true
valid_if_psk context sender (ExternalInit output) = true

-- `valid_if_reinit context p`: if the proposal is a ReInit, it is valid.
abbrev pub valid_if_reinit : GroupContext → Proposal → Bool
valid_if_reinit context (Add k) = true
valid_if_reinit context (Update x) = true
valid_if_reinit context (Remove i) = true
valid_if_reinit context (ContextExtensions es) = true
valid_if_reinit context (PreSharedKey id) = true
valid_if_reinit context (ReInit r) = is_valid_reinit context r
valid_if_reinit context (ExternalInit output) = true

-- `is_no_external_init p`: the proposal is no ExternalInit, which is only for external commits (RFC 9420, 12.1.6).
abbrev pub is_no_external_init : Proposal → Bool
is_no_external_init (Add k) = true
is_no_external_init (Update x) = true
is_no_external_init (Remove i) = true
is_no_external_init (ContextExtensions es) = true
is_no_external_init (PreSharedKey id) = true
is_no_external_init (ReInit r) = true
is_no_external_init (ExternalInit output) = false

-- `proposal_rules G context t sender p` is the rules for a proposal of any sender, in their order (RFC 9420, 12.1).
abbrev pub proposal_rules : VerifyFn → GroupContext → Tree → Sender → Proposal → List (Rule Refusal)
proposal_rules G context t sender p =
    rule AddInvalid (valid_if_add G context p) ∷
    rule UpdateInvalid (valid_if_update G context t sender p) ∷
    rule RemoveInvalid (valid_if_remove t p) ∷
    rule ContextExtensionsInvalid (valid_if_extensions p) ∷
    rule PskInvalid (valid_if_psk context sender p) ∷
    rule ReInitInvalid (valid_if_reinit context p) ∷
    rule ExternalInitMisplaced (is_no_external_init p) ∷ []

-- `checked_rules G context t sender p` is `proposal_rules`, after the rule that the sender's leaf is non-blank, if the sender
-- is a member.
abbrev pub checked_rules : VerifyFn → GroupContext → Tree → Sender → Proposal → List (Rule Refusal)
checked_rules G context t sender p =
    rule SenderNotMember (is_present t sender) ∷ proposal_rules G context t sender p

-- `checked_refusal G context t sender p` is the refusal of the first of `checked_rules` that fails.
unfoldable pub checked_refusal : VerifyFn → GroupContext → Tree → Sender → Proposal → Option Refusal
checked_refusal G context t sender p = first_failing (checked_rules G context t sender p)

-- `holds_if_by_value test e`: if a commit includes the proposal by value, `test` holds of it (RFC 9420, 12.4).
abbrev pub holds_if_by_value : (Proposal → Bool) → ProposalOrRef → Bool
holds_if_by_value test (entries.Proposal p) = test p
holds_if_by_value test (entries.Reference _) = true

-- `all_inline test es`: `test` holds of each proposal that a commit includes by value (RFC 9420, 12.4).
unfoldable pub all_inline : (Proposal → Bool) → List ProposalOrRef → Bool
all_inline test es = list_all (holds_if_by_value test) es
