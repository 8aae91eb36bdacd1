use Rattle.std.proofs.Common.{ap, ◌∙◌, sym, arith, ◌≡◌, ◌+◌, ◌-◌, ◌/◌, Some, None, ◌++◌}
use Rattle.std.proofs.lemmas.Option.{none-some}
use Rattle.mls_tree.specs.NodeArray.{tree_in}
use Rattle.mls_tree.specs.Paths.{resolution, resolution_at}
use Rattle.mls_tree.proofs.Numbers.{leaves_at-low}
use Rattle.mls_tree.proofs.Lookups.{HasLevel-inside, resolution_at-seen, length-seen}
use Rattle.mls_tree.specs.declared.error.TreeError.TheVariants.{OutOfMemory}
use Rattle.mls_tree.proofs.Refusals.{handed_on, no_refusal, no_refusal-ok, Memory-not_NoSuch}
use Rattle.mls_tree.proofs.node_array.NodeArray.resolution.Goals as goal

pub overflow_add-first : goal.overflow_add-first
overflow_add-first c = omega (arith, c.in-Some.ensures.within, c.in-Some.ensures.count, leaves_at-low c.in-Some.ensures.height c.in-Some.ensures.low)

pub push_resolution-requires-clause-inside : goal.push_resolution-requires-clause-inside
push_resolution-requires-clause-inside c =
    omega (
      arith,
      HasLevel-inside _ _ c.args.self.now (ap (λ r. r.tree) c.self.view_is) c.args.node_index c.leaf_count-leaves.result c.in-Some.level ((c.args.node_index + 1 - c.leaves_of.result) / 2) (sym c.leaf_count-leaves.ensures) c.in-Some.ensures (ap (λ v. (c.args.node_index + 1 - v) / 2) c.leaves_of.ensures.value),
      c.in-Some.ensures.count,
      leaves_at-low c.in-Some.ensures.height c.in-Some.ensures.low,
    )

pub push_resolution-requires-clause-long : goal.push_resolution-requires-clause-long
push_resolution-requires-clause-long c =
    omega (
      arith,
      HasLevel-inside _ _ c.args.self.now (ap (λ r. r.tree) c.self.view_is) c.args.node_index c.leaf_count-leaves.result c.in-Some.level ((c.args.node_index + 1 - c.leaves_of.result) / 2) (sym c.leaf_count-leaves.ensures) c.in-Some.ensures (ap (λ v. (c.args.node_index + 1 - v) / 2) c.leaves_of.ensures.value),
      length-seen _ _ c.self.invariant _ (ap (λ r. r.tree) c.self.view_is),
    )

pub push_resolution-requires-clause-leaves_low : goal.push_resolution-requires-clause-leaves_low
push_resolution-requires-clause-leaves_low c = omega (arith, c.in-Some.ensures.count, leaves_at-low c.in-Some.ensures.height c.in-Some.ensures.low)

pub returns-clause-node_indices : goal.returns-clause-node_indices
returns-clause-node_indices c =
    let first = (c.args.node_index + 1 - c.leaves_of.result) / 2 in
    resolution_at-seen _ _ c.args.self.now (ap (λ r. r.tree) c.self.view_is) c.args.node_index c.leaf_count-leaves.result c.in-Some.level ((c.args.node_index + 1 - c.leaves_of.result) / 2) (sym c.leaf_count-leaves.ensures) c.in-Some.ensures (ap (λ v. (c.args.node_index + 1 - v) / 2) c.leaves_of.ensures.value)
    ∙ ap (λ v. Some v) (sym (c.in_ok-push_resolution.ensures ∙ (λ i. c.new-out.ensures.items i ++ resolution c.leaf_count-leaves.result first (tree_in (c.as_slice.ensures.value i) c.in-Some.level first))))

pub returns-clause-no_such_node : goal.returns-clause-no_such_node
returns-clause-no_such_node c =
    no_refusal-ok _ _ (resolution_at c.args.self.now.tree c.args.node_index ≡ None)
    (λ none. none-some _ (sym none ∙ resolution_at-seen _ _ c.args.self.now (ap (λ r. r.tree) c.self.view_is) c.args.node_index c.leaf_count-leaves.result c.in-Some.level ((c.args.node_index + 1 - c.leaves_of.result) / 2) (sym c.leaf_count-leaves.ensures) c.in-Some.ensures (ap (λ v. (c.args.node_index + 1 - v) / 2) c.leaves_of.ensures.value)))

pub returns-in_err-push_resolution-clause-no_such_node : goal.returns-in_err-push_resolution-clause-no_such_node
returns-in_err-push_resolution-clause-no_such_node c =
    no_refusal _ _ OutOfMemory (resolution_at c.args.self.now.tree c.args.node_index ≡ None) (handed_on c.from_residual.result OutOfMemory c.from_residual.ensures.0 c.from_residual.ensures.1) Memory-not_NoSuch
    (λ none. none-some _ (sym none ∙ resolution_at-seen _ _ c.args.self.now (ap (λ r. r.tree) c.self.view_is) c.args.node_index c.leaf_count-leaves.result c.in-Some.level ((c.args.node_index + 1 - c.leaves_of.result) / 2) (sym c.leaf_count-leaves.ensures) c.in-Some.ensures (ap (λ v. (c.args.node_index + 1 - v) / 2) c.leaves_of.ensures.value)))
