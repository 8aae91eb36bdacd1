-- The encryption keys of the Adds of a proposal list (RFC 9420, 12.1.1 and 12.4.2). `items` is the list, with the sender of
-- each proposal. Used by contracts.
use Rattle.std.specs.Prelude.{◌≡◌, ℕ, List, filter_map, Bool, false, Option, Some, None}
use Rattle.mls_msgs.specs.declared.proposal.Proposal.{Proposal}
use Rattle.mls_msgs.specs.declared.proposal.Proposal.TheVariants.{Add, Update, Remove, ContextExtensions, PreSharedKey, ReInit, ExternalInit}
use Rattle.mls_tree.specs.Tree.{Tree}
use Rattle.mls_check.specs.DistinctKeys.{are_distinct, has_distinct_keys}
use Rattle.mls_apply.specs.AppliedList.{AppliedTree, outcome}
use Rattle.mls_apply.specs.declared.list_item.ListItem.{ListItem}

-- `key_of_add p` is the encryption key of the leaf node of a proposal, if it is an Add.
abbrev pub key_of_add : Proposal → Option (List ℕ)
key_of_add (Add k) = Some k.leaf_node.encryption_key
key_of_add (Update _) = None
key_of_add (Remove _) = None
key_of_add (ContextExtensions _) = None
key_of_add (PreSharedKey _) = None
key_of_add (ReInit _) = None
key_of_add (ExternalInit _) = None

-- `added_encryption_key x` is the encryption key of the leaf node of an item, if it is an Add.
abbrev pub added_encryption_key : ListItem → Option (List ℕ)
added_encryption_key x = key_of_add x.proposal

-- `have_distinct_added_keys items`: no two Adds have one encryption key.
unfoldable pub have_distinct_added_keys : List ListItem → Bool
have_distinct_added_keys items = are_distinct (filter_map added_encryption_key items)

-- If two Adds of a list have one encryption key, then two nodes of the tree after the list have one.
abbrev pub RepeatedAddsRepeatKeys : Type 0
RepeatedAddsRepeatKeys =
    (items : List ListItem) (t : Tree) (g : AppliedTree) → outcome items t ≡ Some g → have_distinct_added_keys items ≡ false
    → has_distinct_keys g.tree ≡ false
