-- Members that are added one after the other, as the implementation does it. Internal: no public contract uses this.
use Rattle.std.specs.Prelude.{◌≡◌, ℕ, ◌<◌, Bool, true, false, Some}
use Rattle.mls_nodes.specs.declared.leaf.LeafNode.{LeafNode}
use Rattle.mls_msgs.specs.declared.proposal.Proposal.{Proposal}
use Rattle.mls_msgs.specs.declared.proposal.Proposal.TheVariants.{Add, Update, Remove, ContextExtensions, PreSharedKey, ReInit, ExternalInit}
use Rattle.mls_nodes.specs.Limits.{leaf_limit}
use Rattle.mls_tree.specs.Tree.{Tree, leaf_count}
use Rattle.mls_tree.specs.BlankLeaves.{first_blank_leaf}
use Rattle.mls_tree.specs.TreeOperations.{put_leaf, added_leaf, extended_if_full, is_overfilled_above}

-- `is_add p`: the proposal is an Add.
abbrev pub is_add : Proposal → Bool
is_add (Add _) = true
is_add (Update _) = false
is_add (Remove _) = false
is_add (ContextExtensions _) = false
is_add (PreSharedKey _) = false
is_add (ReInit _) = false
is_add (ExternalInit _) = false

-- `is_overfull_add t`: an unmerged list would be too long if a member were added.
abbrev pub is_overfull_add : Tree → Bool
is_overfull_add t = is_overfilled_above 0 (extended_if_full (first_blank_leaf 0 t) t) (added_leaf t)

-- `PutsMember old x j new`: `new` is `old`, extended if it has no blank leaf, with `x` as the leaf j of a new member. The
-- unmerged lists are unchanged.
pub record PutsMember (old : Tree) (x : LeafNode) (j : ℕ) (new : Tree) : Type 0 where
  pub index : j ≡ added_leaf old
  pub tree : new ≡ put_leaf 0 (extended_if_full (first_blank_leaf 0 old) old) j (Some x)
  pub inside : j < leaf_count new
  pub small : j < leaf_limit
