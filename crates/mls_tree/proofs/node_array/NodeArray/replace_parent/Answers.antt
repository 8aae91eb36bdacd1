use Rattle.std.proofs.Common.{ap, arith, ◌∙◌, sym, subst, ◌≢◌, ◌%◌, ◌<◌, length, Some}
use Rattle.std.proofs.lemmas.Option.{slice_get-get_or}
use Rattle.mls_tree.specs.NodeArray.{IsNoLeaf, parent_part}
use Rattle.mls_tree.specs.Tree.{node_at}
use Rattle.mls_tree.specs.NodeView.{parent_of}
use Rattle.mls_tree.proofs.Lookups.{IsArrayOf-put_parent, leaf_count-seen, put_parent-seen, IsParentNodeIndex-bounds}
use Rattle.mls_tree.proofs.ParentEntries.{parent_of-entry_at}
use Rattle.mls_tree.proofs.node_array.NodeArray.replace_parent.Goals as goal

pub index_mut-requires : goal.index_mut-requires
index_mut-requires c =
    let count = leaf_count-seen _ _ c.self.invariant c.args.self.now.tree (ap (λ r. r.tree) c.self.view_is) in
    let b = IsParentNodeIndex-bounds c.args.self.now.tree c.args.node_index c.requires in
    omega (arith, c.self.invariant.long, c.self.inside.nodes.ok.0, b.1)

within : (c : goal.After-into_parent) → c.args.node_index < length c.self.inside.nodes.items
within c =
    let count = leaf_count-seen _ _ c.self.invariant c.args.self.now.tree (ap (λ r. r.tree) c.self.view_is) in
    let b = IsParentNodeIndex-bounds c.args.self.now.tree c.args.node_index c.requires in
    omega (arith, c.self.invariant.long, b.1)

odd : (c : goal.After-into_parent) → c.args.node_index % 2 ≢ 0
odd c even = let b = IsParentNodeIndex-bounds c.args.self.now.tree c.args.node_index c.requires in omega (arith, b.0)

pub invariant_of-self : goal.invariant_of-self
invariant_of-self c =
    IsArrayOf-put_parent _ _ c.self.invariant _ (ap (λ r. r.tree) c.self.view_is) c.args.node_index _
    (subst (λ e. IsNoLeaf (Some e)) (sym c.replace-former.ensures.after) c.parent_entry.ensures.no_leaf) (odd c) (within c)

pub returns-clause-put : goal.returns-clause-put
returns-clause-put c =
    put_parent-seen _ _ c.self.invariant _ (ap (λ r. r.tree) c.self.view_is) c.args.node_index _ _ (odd c) (within c)
    (ap (λ e. parent_part (Some e)) c.replace-former.ensures.after ∙ c.parent_entry.ensures.part)

pub returns-clause-former : goal.returns-clause-former
returns-clause-former c =
    c.into_parent.ensures
    ∙ ap (λ e. parent_part (Some e)) (c.replace-former.ensures.value ∙ c.index_mut.ensures.value)
    ∙ sym (ap parent_part (slice_get-get_or c.self.inside.nodes.items c.args.node_index c.index_mut.result.now (within c)))
    ∙ sym (parent_of-entry_at c.self.inside.nodes.items c.self.inside.height c.args.node_index c.self.invariant (odd c))
    ∙ ap (λ r. parent_of (node_at r.tree c.args.node_index)) c.self.view_is
