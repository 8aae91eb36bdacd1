use Rattle.std.proofs.Common.{ap, ◌∙◌, sym, arith, ◌≡◌, ◌+◌, ◌-◌, ◌/◌, None, Option, List, ℕ, false, subst}
use Rattle.std.specs.Prelude.{option_copied, IfSome, ◌==◌}
use Rattle.std.proofs.lemmas.Option.{none-some}
use Rattle.mls_tree.specs.NodeArray.{tree_in}
use Rattle.mls_tree.specs.Paths.{resolution, resolution_at, count_not_in}
use Rattle.mls_tree.specs.CountsModel.{AreCountsIfAny}
use Rattle.mls_tree.specs.Subtraction.{taken_off}
use Rattle.mls_tree.proofs.CountsRead.{if_any-subtree}
use Rattle.mls_tree.proofs.Numbers.{leaves_at-low}
use Rattle.mls_tree.proofs.Lookups.{HasLevel-inside, subtree_at-seen, resolution_at-seen, length-seen}
use Rattle.mls_tree.proofs.Refusals.{no_refusal-ok}
use Rattle.mls_tree.proofs.TakingOff.{taken_off-all, taken_off-too_few}
use Rattle.mls_tree.proofs.node_array.NodeArray.has_resolution_len.Goals as goal

pub overflow_add-first : goal.overflow_add-first
overflow_add-first c = omega (arith, c.in-Some.ensures.within, c.in-Some.ensures.count, leaves_at-low c.in-Some.ensures.height c.in-Some.ensures.low)

pub take_resolution-requires-clause-inside : goal.take_resolution-requires-clause-inside
take_resolution-requires-clause-inside c =
    omega (
      arith,
      HasLevel-inside _ _ c.args.self.now (ap (λ r. r.tree) c.self.view_is) c.args.node_index c.leaf_count-leaves.result c.in-Some.level ((c.args.node_index + 1 - c.leaves_of.result) / 2) (sym c.leaf_count-leaves.ensures) c.in-Some.ensures (ap (λ v. (c.args.node_index + 1 - v) / 2) c.leaves_of.ensures.value),
      c.in-Some.ensures.count,
      leaves_at-low c.in-Some.ensures.height c.in-Some.ensures.low,
    )

pub take_resolution-requires-clause-long : goal.take_resolution-requires-clause-long
take_resolution-requires-clause-long c =
    omega (
      arith,
      HasLevel-inside _ _ c.args.self.now (ap (λ r. r.tree) c.self.view_is) c.args.node_index c.leaf_count-leaves.result c.in-Some.level ((c.args.node_index + 1 - c.leaves_of.result) / 2) (sym c.leaf_count-leaves.ensures) c.in-Some.ensures (ap (λ v. (c.args.node_index + 1 - v) / 2) c.leaves_of.ensures.value),
      length-seen _ _ c.self.invariant _ (ap (λ r. r.tree) c.self.view_is),
    )

pub take_resolution-requires-clause-leaves_low : goal.take_resolution-requires-clause-leaves_low
take_resolution-requires-clause-leaves_low c = omega (arith, c.in-Some.ensures.count, leaves_at-low c.in-Some.ensures.height c.in-Some.ensures.low)

pub take_resolution-requires-clause-counts : goal.take_resolution-requires-clause-counts
take_resolution-requires-clause-counts c =
    let first = (c.args.node_index + 1 - c.leaves_of.result) / 2 in
    subst (λ xs. AreCountsIfAny (option_copied c.args.counts) first (tree_in xs c.in-Some.level first)) (sym c.as_slice-nodes.ensures.value)
    (if_any-subtree (option_copied c.args.counts) 0 c.args.self.now.tree c.args.node_index _
    (subtree_at-seen _ _ c.args.self.now (ap (λ r. r.tree) c.self.view_is) c.args.node_index c.leaf_count-leaves.result c.in-Some.level ((c.args.node_index + 1 - c.leaves_of.result) / 2) (sym c.leaf_count-leaves.ensures) c.in-Some.ensures (ap (λ v. (c.args.node_index + 1 - v) / 2) c.leaves_of.ensures.value))
    c.requires)

pub returns-in-Some-take_resolution-clause-answer : goal.returns-in-Some-take_resolution-clause-answer
returns-in-Some-take_resolution-clause-answer c =
    let first = (c.args.node_index + 1 - c.leaves_of.result) / 2 in
    let n = c.leaf_count-leaves.result in
    subst (λ (o : Option (List ℕ)). IfSome o (λ ps. (c.in-Some-take_resolution.left == 0) ≡ (count_not_in c.args.without.now ps == c.args.len)))
    (sym (resolution_at-seen _ _ c.args.self.now (ap (λ r. r.tree) c.self.view_is) c.args.node_index c.leaf_count-leaves.result c.in-Some.level ((c.args.node_index + 1 - c.leaves_of.result) / 2) (sym c.leaf_count-leaves.ensures) c.in-Some.ensures (ap (λ v. (c.args.node_index + 1 - v) / 2) c.leaves_of.ensures.value)))
    (taken_off-all c.args.len _ c.in-Some-take_resolution.left
    (sym c.in-Some-take_resolution.is ∙ c.take_resolution.ensures
    ∙ ap (λ xs. taken_off c.args.len (count_not_in c.args.without.now (resolution n first (tree_in xs c.in-Some.level first)))) c.as_slice-nodes.ensures.value))

pub returns-in-Some-take_resolution-clause-no_such_node : goal.returns-in-Some-take_resolution-clause-no_such_node
returns-in-Some-take_resolution-clause-no_such_node c =
    no_refusal-ok _ _ (resolution_at c.args.self.now.tree c.args.node_index ≡ None)
    (λ none. none-some _ (sym none ∙ resolution_at-seen _ _ c.args.self.now (ap (λ r. r.tree) c.self.view_is) c.args.node_index c.leaf_count-leaves.result c.in-Some.level ((c.args.node_index + 1 - c.leaves_of.result) / 2) (sym c.leaf_count-leaves.ensures) c.in-Some.ensures (ap (λ v. (c.args.node_index + 1 - v) / 2) c.leaves_of.ensures.value)))

pub returns-in-None-clause-answer : goal.returns-in-None-clause-answer
returns-in-None-clause-answer c =
    let first = (c.args.node_index + 1 - c.leaves_of.result) / 2 in
    let n = c.leaf_count-leaves.result in
    subst (λ (o : Option (List ℕ)). IfSome o (λ ps. false ≡ (count_not_in c.args.without.now ps == c.args.len)))
    (sym (resolution_at-seen _ _ c.args.self.now (ap (λ r. r.tree) c.self.view_is) c.args.node_index c.leaf_count-leaves.result c.in-Some.level ((c.args.node_index + 1 - c.leaves_of.result) / 2) (sym c.leaf_count-leaves.ensures) c.in-Some.ensures (ap (λ v. (c.args.node_index + 1 - v) / 2) c.leaves_of.ensures.value)))
    (taken_off-too_few c.args.len _
    (sym c.in-None.is ∙ c.take_resolution.ensures
    ∙ ap (λ xs. taken_off c.args.len (count_not_in c.args.without.now (resolution n first (tree_in xs c.in-Some.level first)))) c.as_slice-nodes.ensures.value))

pub returns-in-None-clause-no_such_node : goal.returns-in-None-clause-no_such_node
returns-in-None-clause-no_such_node c =
    no_refusal-ok _ _ (resolution_at c.args.self.now.tree c.args.node_index ≡ None)
    (λ none. none-some _ (sym none ∙ resolution_at-seen _ _ c.args.self.now (ap (λ r. r.tree) c.self.view_is) c.args.node_index c.leaf_count-leaves.result c.in-Some.level ((c.args.node_index + 1 - c.leaves_of.result) / 2) (sym c.leaf_count-leaves.ensures) c.in-Some.ensures (ap (λ v. (c.args.node_index + 1 - v) / 2) c.leaves_of.ensures.value)))
