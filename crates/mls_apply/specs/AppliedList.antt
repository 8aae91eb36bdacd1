-- The tree after the proposal list of a commit (RFC 9420, 12.3): its Updates, then its Removes, then its Adds.
-- Other proposals change no tree: GroupContextExtensions, which come first, PreSharedKey, ReInit and ExternalInit. `items`
-- is the list, with the sender of each proposal. Used by contracts.
use Rattle.std.specs.Prelude.{◌≡◌, ℕ, ◌+◌, ◌<◌, nat_le, if◌then◌else◌, is_some, List, [], ◌∷◌, length, Option, Some, None, option_map, option_and_then}
use Rattle.mls_nodes.specs.Limits.{leaf_limit}
use Rattle.mls_nodes.specs.declared.leaf.LeafNode.{LeafNode}
use Rattle.mls_msgs.specs.declared.framed_content.Sender.{Sender}
use Rattle.mls_msgs.specs.declared.proposal.Proposal.{Proposal}
use Rattle.mls_msgs.specs.declared.proposal.Proposal.TheVariants.{Add, Update, Remove, ContextExtensions, PreSharedKey, ReInit, ExternalInit}
use Rattle.mls_tree.specs.Tree.{Tree, member_count, leaf_at}
use Rattle.mls_tree.specs.BlankLeaves.{first_blank_leaf}
use Rattle.mls_tree.specs.TreeOperations.{update, remove, add, added_leaf, extended_if_full, is_overfilled_above}
use Rattle.mls_apply.specs.declared.list_item.ListItem.{ListItem}
use Rattle.mls_apply.specs.Senders.{member_index}

-- `updated_at o x t` is the tree with `x` in place of the leaf at a leaf index. There must be one, and its leaf must be
-- non-blank.
abbrev pub updated_at : Option ℕ → LeafNode → Tree → Option Tree
updated_at None x t = None
updated_at (Some i) x t = if is_some (leaf_at 0 t i) then Some (update t i x) else None

-- `after_update sender p t` is the tree after a proposal, if it is an Update. The sender must be a member, whose leaf is
-- non-blank (RFC 9420, 12.1.2).
abbrev pub after_update : Sender → Proposal → Tree → Option Tree
after_update sender (Add _) t = Some t
after_update sender (Update x) t = updated_at (member_index sender) x t
after_update sender (Remove _) t = Some t
after_update sender (ContextExtensions _) t = Some t
after_update sender (PreSharedKey _) t = Some t
after_update sender (ReInit _) t = Some t
after_update sender (ExternalInit _) t = Some t

-- `after_updates items t` is the tree after the Updates of a list.
unfoldable pub after_updates : List ListItem → Tree → Option Tree
after_updates [] t = Some t
after_updates (x ∷ xs) t = option_and_then (after_updates xs) (after_update x.sender x.proposal t)

-- `after_remove p t` is the tree after a proposal, if it is a Remove. Its leaf must be non-blank (RFC 9420, 12.1.3).
abbrev pub after_remove : Proposal → Tree → Option Tree
after_remove (Add _) t = Some t
after_remove (Update _) t = Some t
after_remove (Remove i) t = if is_some (leaf_at 0 t i) then Some (remove t i) else None
after_remove (ContextExtensions _) t = Some t
after_remove (PreSharedKey _) t = Some t
after_remove (ReInit _) t = Some t
after_remove (ExternalInit _) t = Some t

-- `after_removes items t` is the tree after the Removes of a list.
unfoldable pub after_removes : List ListItem → Tree → Option Tree
after_removes [] t = Some t
after_removes (x ∷ xs) t = option_and_then (after_removes xs) (after_remove x.proposal t)

-- `added_to p xs` is the leaf node of an Add followed by `xs`.
abbrev pub added_to : Proposal → List LeafNode → List LeafNode
added_to (Add k) xs = k.leaf_node ∷ xs
added_to (Update _) xs = xs
added_to (Remove _) xs = xs
added_to (ContextExtensions _) xs = xs
added_to (PreSharedKey _) xs = xs
added_to (ReInit _) xs = xs
added_to (ExternalInit _) xs = xs

-- `new_members items` is the leaf nodes of the Adds of a list, in its order.
unfoldable pub new_members : List ListItem → List LeafNode
new_members [] = []
new_members (x ∷ xs) = added_to x.proposal (new_members xs)

-- A tree, and the indices of the leaves that were added to it.
pub record AppliedTree : Type 0 where
  pub tree : Tree
  pub added : List ℕ

-- `applied_tree t added` is the tree with these indices.
abbrev pub applied_tree : Tree → List ℕ → AppliedTree
applied_tree t added = record { tree = t; added = added }

-- `after_leaf j g` is `g` with leaf j as the first added one.
abbrev pub after_leaf : ℕ → AppliedTree → AppliedTree
after_leaf j g = applied_tree g.tree (j ∷ g.added)

-- `after_adds xs t` is the tree after Adds, each at the leftmost blank leaf at that point (RFC 9420, 12.1.1). `None` if
-- an unmerged list would be too long.
unfoldable pub after_adds : List LeafNode → Tree → Option AppliedTree
after_adds [] t = Some (applied_tree t [])
after_adds (x ∷ xs) t =
    if is_overfilled_above 0 (extended_if_full (first_blank_leaf 0 t) t) (added_leaf t)
    then None
    else option_map (after_leaf (added_leaf t)) (after_adds xs (add t x))

-- `without_adds items t` is the tree after the Updates and the Removes of a list.
abbrev pub without_adds : List ListItem → Tree → Option Tree
without_adds items t = option_and_then (after_removes items) (after_updates items t)

-- `with_members xs t` is the tree after Adds, if the group has no more members than a tree may have leaves.
unfoldable pub with_members : List LeafNode → Tree → Option AppliedTree
with_members xs t = if nat_le (member_count t + length xs) leaf_limit then after_adds xs t else None

-- `outcome items t` is the tree after the proposal list (RFC 9420, 12.3), with the indices of the added leaves in the
-- order of the list. `None` if the leaf of an Update or Remove is blank at that point, an Update is from no member, or the
-- Adds exceed a limit.
unfoldable pub outcome : List ListItem → Tree → Option AppliedTree
outcome items t = option_and_then (with_members (new_members items)) (without_adds items t)

-- `ExceedsCapacity items t`: the Updates and the Removes can be applied, and with the Adds the group would have more
-- members than a tree may have leaves.
pub record ExceedsCapacity (items : List ListItem) (t : Tree) : Type 0 where
  pub tree : Tree
  pub applied : without_adds items t ≡ Some tree
  pub full : leaf_limit < member_count tree + length (new_members items)
