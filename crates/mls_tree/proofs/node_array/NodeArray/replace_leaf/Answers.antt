use Rattle.std.proofs.Common.{ap, arith, ◌∙◌, sym, subst, ◌*◌, ◌<◌, length, Some}
use Rattle.std.proofs.lemmas.Option.{slice_get-get_or}
use Rattle.mls_tree.specs.NodeArray.{IsNoParent, leaf_part}
use Rattle.mls_tree.specs.Tree.{leaf_at}
use Rattle.mls_tree.proofs.Lookups.{IsArrayOf-set_leaf, leaf_count-seen, set_leaf-seen, leaf_at-array}
use Rattle.mls_tree.proofs.node_array.NodeArray.replace_leaf.Goals as goal

pub index_mut-requires : goal.index_mut-requires
index_mut-requires c =
    let count = leaf_count-seen _ _ c.self.invariant c.args.self.now.tree (ap (λ r. r.tree) c.self.view_is) in
    omega (arith, c.self.invariant.long, c.self.inside.nodes.ok.0, c.requires)

within : (c : goal.After-into_leaf) → 2 * c.args.index < length c.self.inside.nodes.items
within c =
    let count = leaf_count-seen _ _ c.self.invariant c.args.self.now.tree (ap (λ r. r.tree) c.self.view_is) in
    omega (arith, c.self.invariant.long, c.requires)

pub invariant_of-self : goal.invariant_of-self
invariant_of-self c =
    IsArrayOf-set_leaf _ _ c.args.index _ c.self.invariant (subst (λ e. IsNoParent (Some e)) (sym c.replace-former.ensures.after) c.leaf_entry.ensures.no_parent) (within c)

pub returns-clause-put : goal.returns-clause-put
returns-clause-put c =
    let count = leaf_count-seen _ _ c.self.invariant c.args.self.now.tree (ap (λ r. r.tree) c.self.view_is) in
    set_leaf-seen _ _ c.self.invariant _ (ap (λ r. r.tree) c.self.view_is) c.args.index _ _ (omega (arith, c.requires)) (ap (λ e. leaf_part (Some e)) c.replace-former.ensures.after ∙ c.leaf_entry.ensures.part)

pub returns-clause-former : goal.returns-clause-former
returns-clause-former c =
    c.into_leaf.ensures
    ∙ ap (λ e. leaf_part (Some e)) (c.replace-former.ensures.value ∙ c.index_mut.ensures.value)
    ∙ sym (ap leaf_part (slice_get-get_or c.self.inside.nodes.items (2 * c.args.index) c.index_mut.result.now (within c)))
    ∙ sym (leaf_at-array c.self.inside.nodes.items c.self.inside.height c.args.index c.self.invariant)
    ∙ ap (λ r. leaf_at 0 r.tree c.args.index) c.self.view_is
