-- Senders of proposals (RFC 9420, 6 and 12.1.8), and the leaf of a sender that is a member. `t` is the ratchet tree.
-- Used by contracts.
use Rattle.std.specs.Prelude.{ℕ, ◌==◌, is_some, Bool, true, false, Option, Some, None}
use Rattle.mls_nodes.specs.declared.leaf.LeafNode.{LeafNode}
use Rattle.mls_msgs.specs.declared.framed_content.Sender.{Sender}
use Rattle.mls_msgs.specs.declared.framed_content.Sender.TheVariants.{Member, External, NewMemberProposal, NewMemberCommit}
use Rattle.mls_tree.specs.Tree.{Tree, leaf_at}

-- `member_index sender` is the leaf index of a sender that is a member.
abbrev pub member_index : Sender → Option ℕ
member_index (Member i) = Some i
member_index (External _) = None
member_index NewMemberProposal = None
member_index NewMemberCommit = None

-- `leaf_of_member t o` is the leaf node at a leaf index, if there is one. `None` if it is blank.
abbrev pub leaf_of_member : Tree → Option ℕ → Option LeafNode
leaf_of_member t None = None
leaf_of_member t (Some i) = leaf_at 0 t i

-- `sender_leaf t sender` is the leaf node of a sender that is a member. `None` if it is blank, or the sender no member.
abbrev pub sender_leaf : Tree → Sender → Option LeafNode
sender_leaf t sender = leaf_of_member t (member_index sender)

-- `is_present t sender`: the leaf of the sender is non-blank, if the sender is a member.
abbrev pub is_present : Tree → Sender → Bool
is_present t (Member i) = is_some (leaf_at 0 t i)
is_present t (External _) = true
is_present t NewMemberProposal = true
is_present t NewMemberCommit = true

-- `is_same_sender a b`: the two senders are the same.
abbrev pub is_same_sender : Sender → Sender → Bool
is_same_sender (Member i) (Member j) = i == j
is_same_sender (External k) (External n) = k == n
is_same_sender NewMemberProposal NewMemberProposal = true
is_same_sender NewMemberCommit NewMemberCommit = true
is_same_sender _ _ = false
