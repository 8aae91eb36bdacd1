-- The Updates of a list, applied from its end, so that the last Update of a leaf comes first. `items` is the list, with the
-- sender of each proposal, and `t` the ratchet tree. Internal: no public contract uses this.
use Rattle.std.specs.Prelude.{◌≡◌, ℕ, Bool, List, Some}
use Rattle.std.specs.List.{list_any}
use Rattle.std.specs.Ordering.{nat_cmp}
use Rattle.std.specs.BTreeSet.{BTreeSet, contains}
use Rattle.mls_tree.specs.Tree.{Tree}
use Rattle.mls_apply.specs.AppliedList.{after_updates}
use Rattle.mls_apply.specs.ListRules.{replaced_leaf, is_leaf_number}
use Rattle.mls_apply.specs.declared.list_item.ListItem.{ListItem}

-- `is_replaced items i`: some Update of the list is of the member at leaf index i.
abbrev pub is_replaced : List ListItem → ℕ → Bool
is_replaced items i = list_any (λ x. is_leaf_number (replaced_leaf x.sender x.proposal) i) items

-- `AreApplied items t replaced u`: `u` is the tree after the Updates of the list, and `replaced` has the leaf indices of their
-- senders.
pub record AreApplied (items : List ListItem) (t : Tree) (replaced : BTreeSet ℕ) (u : Tree) : Type 0 where
  pub applied : after_updates items t ≡ Some u
  pub indices : (i : ℕ) → contains nat_cmp replaced i ≡ is_replaced items i
