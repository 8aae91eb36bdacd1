-- A commit without proposals: the tree after its list is the tree before.
use Rattle.std.proofs.Common.{◌≡◌, ◌∙◌, ◌+◌, List, [], Bool, true, false, Some, None, ap, sym}
use Rattle.std.specs.Prelude.{nat_le, if◌then◌else◌}
use Rattle.std.proofs.lemmas.Option.{none-some, same_Some}
use Rattle.mls_nodes.specs.Limits.{leaf_limit}
use Rattle.mls_tree.specs.Tree.{Tree, member_count}
use Rattle.mls_apply.specs.AppliedList.{AppliedTree, applied_tree, after_updates, after_removes, after_adds, new_members, with_members, outcome}
use Rattle.mls_apply.specs.declared.list_item.ListItem.{ListItem}

nothing_added : (t : Tree) (g : AppliedTree) (b : Bool) → (if b then Some (applied_tree t []) else None) ≡ Some g → t ≡ g.tree
nothing_added t g true e = ap (λ (h : AppliedTree). h.tree) (same_Some (applied_tree t []) g e)
nothing_added t g false e = absurd (none-some g e)

nothing_applied : (t : Tree) (g : AppliedTree) → outcome [] t ≡ Some g → t ≡ g.tree
unfolding outcome with_members after_updates after_removes after_adds new_members
nothing_applied t g e = nothing_added t g (nat_le (member_count t + 0) leaf_limit) e

pub no_proposals : (items : List ListItem) (t : Tree) (g : AppliedTree) → items ≡ [] → outcome items t ≡ Some g → t ≡ g.tree
no_proposals items t g none e = nothing_applied t g (ap (λ xs. outcome xs t) (sym none) ∙ e)
