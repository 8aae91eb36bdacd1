-- The rules for the proposal list of a commit (RFC 9420, 12.2 and 12.4). `items` is the list, with the sender of each
-- proposal, `committer` the sender of the commit. Used by contracts.
use Rattle.std.specs.Prelude.{ℕ, ◌==◌, ◌&&◌, ◌||◌, not, List, [], ◌∷◌, length, Bool, true, false, Option, Some, None}
use Rattle.std.specs.List.{list_any}
use Rattle.mls_msgs.specs.declared.framed_content.Sender.{Sender}
use Rattle.mls_msgs.specs.declared.framed_content.Sender.TheVariants.{Member, External, NewMemberProposal, NewMemberCommit}
use Rattle.mls_msgs.specs.declared.proposal.Proposal.{Proposal}
use Rattle.mls_msgs.specs.declared.proposal.Proposal.TheVariants.{Add, Update, Remove, ContextExtensions, PreSharedKey, ReInit, ExternalInit}
use Rattle.mls_apply.specs.RuleLists.{Rule, rule, first_failing}
use Rattle.mls_apply.specs.declared.refusal.Refusal.{Refusal}
use Rattle.mls_apply.specs.declared.refusal.Refusal.TheVariants.{UpdateByCommitter, RemovesCommitter, SameLeafTwice, TwoContextExtensions, PskTwice, ReInitNotAlone, PathMissing}
use Rattle.mls_apply.specs.declared.list_item.ListItem.{ListItem}
use Rattle.mls_apply.specs.ContextExtensions.{has_one_context_extensions}
use Rattle.mls_apply.specs.PskProposals.{have_distinct_psks}
use Rattle.mls_apply.specs.Senders.{member_index, is_same_sender}

-- `replaced_leaf sender p` is the leaf that a proposal replaces: an Update the leaf of its sender, if the sender is a
-- member (RFC 9420, 12.1.2).
abbrev pub replaced_leaf : Sender → Proposal → Option ℕ
replaced_leaf sender (Add _) = None
replaced_leaf sender (Update _) = member_index sender
replaced_leaf sender (Remove _) = None
replaced_leaf sender (ContextExtensions _) = None
replaced_leaf sender (PreSharedKey _) = None
replaced_leaf sender (ReInit _) = None
replaced_leaf sender (ExternalInit _) = None

-- `removed_leaf p` is the leaf that a proposal removes (RFC 9420, 12.1.3).
abbrev pub removed_leaf : Proposal → Option ℕ
removed_leaf (Add _) = None
removed_leaf (Update _) = None
removed_leaf (Remove i) = Some i
removed_leaf (ContextExtensions _) = None
removed_leaf (PreSharedKey _) = None
removed_leaf (ReInit _) = None
removed_leaf (ExternalInit _) = None

-- `target_leaf sender p` is the leaf to which an Update or a Remove applies.
abbrev pub target_leaf : Sender → Proposal → Option ℕ
target_leaf sender (Add _) = None
target_leaf sender (Update _) = member_index sender
target_leaf sender (Remove i) = Some i
target_leaf sender (ContextExtensions _) = None
target_leaf sender (PreSharedKey _) = None
target_leaf sender (ReInit _) = None
target_leaf sender (ExternalInit _) = None

-- `is_leaf_number o i`: there is a leaf index, and it is i.
abbrev pub is_leaf_number : Option ℕ → ℕ → Bool
is_leaf_number None i = false
is_leaf_number (Some j) i = j == i

-- `is_update_by committer sender p`: the proposal is an Update, and its sender is the committer.
abbrev pub is_update_by : Sender → Sender → Proposal → Bool
is_update_by committer sender (Add _) = false
is_update_by committer sender (Update _) = is_same_sender sender committer
is_update_by committer sender (Remove _) = false
is_update_by committer sender (ContextExtensions _) = false
is_update_by committer sender (PreSharedKey _) = false
is_update_by committer sender (ReInit _) = false
is_update_by committer sender (ExternalInit _) = false

-- `removes committer p`: the proposal removes the committer, who is a member.
abbrev pub removes : Sender → Proposal → Bool
removes (Member i) p = is_leaf_number (removed_leaf p) i
removes (External _) p = false
removes NewMemberProposal p = false
removes NewMemberCommit p = false

-- `has_no_update_by committer items`: no Update is the committer's (RFC 9420, 12.2).
unfoldable pub has_no_update_by : Sender → List ListItem → Bool
has_no_update_by committer items = not (list_any (λ x. is_update_by committer x.sender x.proposal) items)

-- `has_no_remove_of committer items`: no Remove removes the committer (RFC 9420, 12.2).
unfoldable pub has_no_remove_of : Sender → List ListItem → Bool
has_no_remove_of committer items = not (list_any (λ x. removes committer x.proposal) items)

-- `item_target x` is the leaf to which an item applies, if it is an Update or a Remove.
abbrev pub item_target : ListItem → Option ℕ
item_target x = target_leaf x.sender x.proposal

-- `maps_to f items o`: there is a leaf index, and `f` maps some item to it.
abbrev pub maps_to : (ListItem → Option ℕ) → List ListItem → Option ℕ → Bool
maps_to f items None = false
maps_to f items (Some i) = list_any (λ x. is_leaf_number (f x) i) items

-- `maps_once f items`: `f` maps no two items to one leaf index.
abbrev pub maps_once : (ListItem → Option ℕ) → List ListItem → Bool
maps_once f [] = true
maps_once f (x ∷ xs) = not (maps_to f xs (f x)) && maps_once f xs

-- `have_distinct_targets items`: no two Updates or Removes apply to one leaf (RFC 9420, 12.2).
unfoldable pub have_distinct_targets : List ListItem → Bool
have_distinct_targets items = maps_once item_target items

-- `requires_path p`: a commit with this proposal must have a path (RFC 9420, 17.4: Path Required).
abbrev pub requires_path : Proposal → Bool
requires_path (Add _) = false
requires_path (Update _) = true
requires_path (Remove _) = true
requires_path (ContextExtensions _) = true
requires_path (PreSharedKey _) = false
requires_path (ReInit _) = false
requires_path (ExternalInit _) = true

-- `needs_path items`: the commit must have a path. Its list is empty, or has a proposal that requires one (RFC 9420,
-- 12.4).
unfoldable pub needs_path : List ListItem → Bool
needs_path items = length items == 0 || list_any (λ x. requires_path x.proposal) items

-- `is_reinit p`: the proposal is a ReInit (RFC 9420, 12.1.5).
abbrev pub is_reinit : Proposal → Bool
is_reinit (Add _) = false
is_reinit (Update _) = false
is_reinit (Remove _) = false
is_reinit (ContextExtensions _) = false
is_reinit (PreSharedKey _) = false
is_reinit (ReInit _) = true
is_reinit (ExternalInit _) = false

-- `has_reinit items`: the list has a ReInit.
abbrev pub has_reinit : List ListItem → Bool
has_reinit items = list_any (λ x. is_reinit x.proposal) items

-- `is_reinit_alone items`: if the list has a ReInit, it has no other proposal (RFC 9420, 12.2).
unfoldable pub is_reinit_alone : List ListItem → Bool
is_reinit_alone items = not (has_reinit items) || length items == 1

-- `list_rules committer items has_path` is the rules for the list, in their order (RFC 9420, 12.2 and 12.4).
abbrev pub list_rules : Sender → List ListItem → Bool → List (Rule Refusal)
list_rules committer items has_path =
    rule UpdateByCommitter (has_no_update_by committer items) ∷
    rule RemovesCommitter (has_no_remove_of committer items) ∷
    rule SameLeafTwice (have_distinct_targets items) ∷
    rule TwoContextExtensions (has_one_context_extensions items) ∷
    rule PskTwice (have_distinct_psks items) ∷
    rule ReInitNotAlone (is_reinit_alone items) ∷
    rule PathMissing (has_path || not (needs_path items)) ∷ []

-- `list_refusal committer items has_path` is the refusal of the first of them that fails.
unfoldable pub list_refusal : Sender → List ListItem → Bool → Option Refusal
list_refusal committer items has_path = first_failing (list_rules committer items has_path)
