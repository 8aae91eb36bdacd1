use Rattle.std.proofs.Common.{◌≡◌, ◌≢◌, List, refl, ap, subst, Option, Err, None}
use Rattle.std.specs.Prelude.{option_and_then}
use Rattle.mls_tree.specs.Tree.{Tree}
use Rattle.mls_tree.specs.PublicTreeModel.{plain}
use Rattle.mls_tree.specs.RatchetTree.{RatchetTree}
use Rattle.mls_apply.specs.AppliedList.{outcome, with_members, new_members, without_adds}
use Rattle.mls_apply.specs.declared.fault.ApplyFault.{ApplyFault}
use Rattle.mls_apply.specs.declared.fault.ApplyFault.TheVariants as faults
use Rattle.mls_apply.specs.declared.list_item.ListItem.{ListItem}
use Rattle.mls_vectors.proofs.tree_operations.applied.Goals as goal

-- a list that is refused, but for want of memory, can't be applied
unapplied : (items : List ListItem) (t : Tree) (fault : ApplyFault) → fault ≢ faults.OutOfMemory
    → (fault ≡ faults.NoSuchLeaf → without_adds items t ≡ None) → (fault ≡ faults.TooManyLeaves → outcome items t ≡ None) → outcome items t ≡ None
unfolding outcome
unapplied items t faults.NoSuchLeaf other leaf many = ap (λ (o : Option Tree). option_and_then (with_members (new_members items)) o) (leaf refl)
unapplied items t faults.TooManyLeaves other leaf many = many refl
unapplied items t faults.OutOfMemory other leaf many = absurd (other refl)

pub returns-in_default : goal.returns-in_default
returns-in_default c =
    let tree : RatchetTree = plain c.args.tree.now in
    let none = unapplied c.from_ref.result.now tree.tree c.in-Err.fault c.in_default.not-OutOfMemory
    (λ e. c.in-Err.ensures.no_such_leaf (ap (λ (f : ApplyFault). Err f) e))
    (λ e. (c.in-Err.ensures.too_many_leaves (ap (λ (f : ApplyFault). Err f) e)).1) in
    subst (λ (items : List ListItem). outcome items tree.tree ≡ None) c.from_ref.ensures.value none
