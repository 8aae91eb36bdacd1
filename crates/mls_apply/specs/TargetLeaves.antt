-- The leaves to which Updates and Removes apply, in the tree before a list. Internal: no public contract uses this.
use Rattle.std.specs.Prelude.{ℕ, ◌+◌, ◌-◌, nat_le, nat_lt, ◌&&◌, if◌then◌else◌, is_some, List, filter_map, Bool, true, Option, Some, None}
use Rattle.std.specs.List.{list_all}
use Rattle.mls_msgs.specs.declared.framed_content.Sender.{Sender}
use Rattle.mls_msgs.specs.declared.proposal.Proposal.{Proposal}
use Rattle.mls_msgs.specs.declared.proposal.Proposal.TheVariants.{Add, Update, Remove, ContextExtensions, PreSharedKey, ReInit, ExternalInit}
use Rattle.mls_tree.specs.Tree.{Tree, leaf_at}
use Rattle.mls_apply.specs.declared.list_item.ListItem.{ListItem}
use Rattle.mls_apply.specs.ListRules.{removed_leaf}
use Rattle.mls_apply.specs.Senders.{sender_leaf}

-- `removed_by x` is the leaf that an item removes.
abbrev pub removed_by : ListItem → Option ℕ
removed_by x = removed_leaf x.proposal

-- `removed_leaves items` is the leaves that are removed, in the order of the list.
abbrev pub removed_leaves : List ListItem → List ℕ
removed_leaves items = filter_map removed_by items

-- `number_in first o` is the position of a leaf among the 65,536 from `first` on, if it is one of them.
abbrev pub number_in : ℕ → Option ℕ → Option ℕ
number_in first None = None
number_in first (Some i) = if nat_le first i && nat_lt i (first + 65536) then Some (i - first) else None

-- `removed_in first x` is the position of the leaf that an item removes.
abbrev pub removed_in : ℕ → ListItem → Option ℕ
removed_in first x = number_in first (removed_by x)

-- `is_non_blank_if_some t o`: the leaf is non-blank, if there is a leaf index.
abbrev pub is_non_blank_if_some : Tree → Option ℕ → Bool
is_non_blank_if_some t None = true
is_non_blank_if_some t (Some i) = is_some (leaf_at 0 t i)

-- `updates_non_blank_leaf t sender p`: if the proposal is an Update, its sender is a member whose leaf is non-blank.
abbrev pub updates_non_blank_leaf : Tree → Sender → Proposal → Bool
updates_non_blank_leaf t sender (Add _) = true
updates_non_blank_leaf t sender (Update _) = is_some (sender_leaf t sender)
updates_non_blank_leaf t sender (Remove _) = true
updates_non_blank_leaf t sender (ContextExtensions _) = true
updates_non_blank_leaf t sender (PreSharedKey _) = true
updates_non_blank_leaf t sender (ReInit _) = true
updates_non_blank_leaf t sender (ExternalInit _) = true

-- `update_non_blank_leaves t items`: `updates_non_blank_leaf` holds of each item.
abbrev pub update_non_blank_leaves : Tree → List ListItem → Bool
update_non_blank_leaves t items = list_all (λ x. updates_non_blank_leaf t x.sender x.proposal) items

-- `targets_non_blank_leaf t x`: if the item is an Update or a Remove, there is a leaf to which it applies, and the leaf
-- is non-blank.
abbrev pub targets_non_blank_leaf : Tree → ListItem → Bool
targets_non_blank_leaf t x = updates_non_blank_leaf t x.sender x.proposal && is_non_blank_if_some t (removed_by x)

-- `target_non_blank_leaves t items`: `targets_non_blank_leaf` holds of each item.
abbrev pub target_non_blank_leaves : Tree → List ListItem → Bool
target_non_blank_leaves t items = list_all (targets_non_blank_leaf t) items

-- `map_to_non_blank f t items`: each leaf to which `f` maps an item is non-blank.
abbrev pub map_to_non_blank : (ListItem → Option ℕ) → Tree → List ListItem → Bool
map_to_non_blank f t items = list_all (λ x. is_non_blank_if_some t (f x)) items
