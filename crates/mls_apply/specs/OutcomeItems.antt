-- The proposals PreSharedKey, ReInit and ExternalInit change no tree (RFC 9420, 12.1.4 to 12.1.6 and 12.3). Used by
-- contracts.
use Rattle.std.specs.Prelude.{◌≡◌, List, filter, Bool}
use Rattle.mls_msgs.specs.Profile.{is_members_proposal}
use Rattle.mls_tree.specs.Tree.{Tree}
use Rattle.mls_apply.specs.AppliedList.{outcome}
use Rattle.mls_apply.specs.declared.list_item.ListItem.{ListItem}

-- `is_members_item x`: the proposal is none of PreSharedKey, ReInit and ExternalInit.
abbrev pub is_members_item : ListItem → Bool
is_members_item x = is_members_proposal x.proposal

-- The tree after a list, with the added leaves, is that after the list without these proposals.
abbrev pub OutcomesIgnoreOthers : Type 0
OutcomesIgnoreOthers = (items : List ListItem) (t : Tree) → outcome (filter is_members_item items) t ≡ outcome items t
