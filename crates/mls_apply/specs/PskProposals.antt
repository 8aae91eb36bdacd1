-- PreSharedKey proposals (RFC 9420, 8.4, 12.1.4 and 12.2). `items` is the proposal list of a commit, with the sender of
-- each proposal. Used by contracts.
use Rattle.std.specs.Prelude.{ℕ, ◌==◌, ◌&&◌, not, List, [], ◌∷◌, length, filter_map, Bool, true, false, Option, Some, None}
use Rattle.std.specs.List.{list_any}
use Rattle.std.specs.Str.{bytes_eq}
use Rattle.mls_nodes.specs.declared.context.GroupContext.{GroupContext}
use Rattle.mls_hash.specs.SuiteHash.{hash_length}
use Rattle.mls_msgs.specs.Layout.{is_member}
use Rattle.mls_msgs.specs.declared.framed_content.Sender.{Sender}
use Rattle.mls_msgs.specs.declared.pre_shared_key.PreSharedKeyId.{PreSharedKeyId}
use Rattle.mls_msgs.specs.declared.pre_shared_key.PskKind.{PskKind}
use Rattle.mls_msgs.specs.declared.pre_shared_key.PskKind.TheVariants as kinds
use Rattle.mls_msgs.specs.declared.pre_shared_key.PskUsage.{PskUsage}
use Rattle.mls_msgs.specs.declared.pre_shared_key.PskUsage.TheVariants as usages
use Rattle.mls_msgs.specs.declared.proposal.Proposal.{Proposal}
use Rattle.mls_msgs.specs.declared.proposal.Proposal.TheVariants.{Add, Update, Remove, ContextExtensions, PreSharedKey, ReInit, ExternalInit}
use Rattle.mls_apply.specs.declared.list_item.ListItem.{ListItem}

-- ---- one proposal (12.1.4)

-- `is_usable epoch sender usage`: the sender may propose a resumption PSK of this usage in this epoch. The usages reinit and
-- branch are only for the first commit of a group, which a member sends in epoch 0. No message says whether the group
-- reinitializes another one, or is a branch of it (RFC 9420, 8.4 and 12.1.4; own rule).
abbrev pub is_usable : ℕ → Sender → PskUsage → Bool
is_usable epoch sender usages.Application = true
is_usable epoch sender usages.ReInit = epoch == 0 && is_member sender
is_usable epoch sender usages.Branch = epoch == 0 && is_member sender

-- `is_usable_kind epoch sender kind`: the PSK is an external one, or a resumption PSK whose usage `is_usable`.
abbrev pub is_usable_kind : ℕ → Sender → PskKind → Bool
is_usable_kind epoch sender (kinds.External _) = true
is_usable_kind epoch sender (kinds.Resumption usage _ _) = is_usable epoch sender usage

-- `is_valid_psk context sender id`: the PreSharedKeyID of a proposal is valid. Its nonce has the length KDF.Nh, which in
-- each cipher suite is the length of the hash (8.4, 12.1.4 and 17.1).
unfoldable pub is_valid_psk : GroupContext → Sender → PreSharedKeyId → Bool
is_valid_psk context sender id =
    length id.nonce == hash_length context.cipher_suite && is_usable_kind context.epoch sender id.kind

-- ---- a proposal list (12.2)

-- `is_same_usage a b`: the two usages are the same.
abbrev pub is_same_usage : PskUsage → PskUsage → Bool
is_same_usage usages.Application usages.Application = true
is_same_usage usages.ReInit usages.ReInit = true
is_same_usage usages.Branch usages.Branch = true
is_same_usage _ _ = false

-- `is_same_kind a b`: the two origins of a PSK are equal in each field.
abbrev pub is_same_kind : PskKind → PskKind → Bool
is_same_kind (kinds.External a) (kinds.External b) = bytes_eq a b
is_same_kind (kinds.Resumption u g e) (kinds.Resumption v h f) = is_same_usage u v && bytes_eq g h && e == f
is_same_kind _ _ = false

-- `is_same_psk a b`: the two PreSharedKeyIDs are equal in each field, the nonce too.
abbrev pub is_same_psk : PreSharedKeyId → PreSharedKeyId → Bool
is_same_psk a b = is_same_kind a.kind b.kind && bytes_eq a.nonce b.nonce

-- `psk_in p` is the PreSharedKeyID of a proposal, if it is a PreSharedKey.
abbrev pub psk_in : Proposal → Option PreSharedKeyId
psk_in (Add _) = None
psk_in (Update _) = None
psk_in (Remove _) = None
psk_in (ContextExtensions _) = None
psk_in (PreSharedKey id) = Some id
psk_in (ReInit _) = None
psk_in (ExternalInit _) = None

-- `psk_of x` is the PreSharedKeyID of an item, if it is a PreSharedKey.
abbrev pub psk_of : ListItem → Option PreSharedKeyId
psk_of x = psk_in x.proposal

-- `are_distinct_psks ids`: no two of these PreSharedKeyIDs are equal.
abbrev pub are_distinct_psks : List PreSharedKeyId → Bool
are_distinct_psks [] = true
are_distinct_psks (id ∷ ids) = not (list_any (is_same_psk id) ids) && are_distinct_psks ids

-- `have_distinct_psks items`: no two PreSharedKey proposals have the same PreSharedKeyID (12.2).
unfoldable pub have_distinct_psks : List ListItem → Bool
have_distinct_psks items = are_distinct_psks (filter_map psk_of items)
