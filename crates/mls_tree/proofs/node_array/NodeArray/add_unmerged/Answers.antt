use Rattle.std.proofs.Common.{ap, arith, refl, sym, ◌∙◌, ◌≡◌, ◌≤◌, true}
use Rattle.mls_tree.specs.NodeArray.{tree_in}
use Rattle.mls_tree.specs.TreeOperations.{is_overfilled_above}
use Rattle.mls_tree.specs.Tree.{leaf_count}
use Rattle.mls_tree.specs.declared.error.TreeError.TheVariants.{OutOfMemory}
use Rattle.mls_tree.proofs.Lookups.{leaf_count-seen}
use Rattle.mls_tree.proofs.Refusals.{no_refusal, no_refusal-ok, handed_on, err_same, TooMany-not_NoSuch, Memory-not_NoSuch}
use Rattle.mls_tree.proofs.node_array.NodeArray.add_unmerged.Goals as goal

pub returns-then-index-leaves_of-clause-no_such_node : goal.returns-then-index-leaves_of-clause-no_such_node
returns-then-index-leaves_of-clause-no_such_node c =
    let count = leaf_count-seen _ _ c.self.invariant c.args.self.now.tree (ap (λ r. r.tree) c.self.view_is) in
    (λ refused. omega (arith, c.leaves_of.ensures.value), λ past. refl)

pub returns-then-index-leaves_of-clause-too_many_leaves : goal.returns-then-index-leaves_of-clause-too_many_leaves
returns-then-index-leaves_of-clause-too_many_leaves c =
    let count = leaf_count-seen _ _ c.self.invariant c.args.self.now.tree (ap (λ r. r.tree) c.self.view_is) in
    (λ refused. absurd (TooMany-not_NoSuch (sym (err_same _ _ _ refused))), λ full. let inside = full.0 in absurd (omega (arith, c.leaves_of.ensures.value)))

pub returns-then-is_overfilled_above-clause-no_such_node : goal.returns-then-is_overfilled_above-clause-no_such_node
returns-then-is_overfilled_above-clause-no_such_node c =
    let count = leaf_count-seen _ _ c.self.invariant c.args.self.now.tree (ap (λ r. r.tree) c.self.view_is) in
    (λ refused. absurd (TooMany-not_NoSuch (err_same _ _ _ refused)), λ past. absurd (omega (arith, c.leaves_of.ensures.value)))

pub returns-then-is_overfilled_above-clause-too_many_leaves : goal.returns-then-is_overfilled_above-clause-too_many_leaves
returns-then-is_overfilled_above-clause-too_many_leaves c =
    let count = leaf_count-seen _ _ c.self.invariant c.args.self.now.tree (ap (λ r. r.tree) c.self.view_is) in
    let full : is_overfilled_above 0 c.args.self.now.tree c.args.index ≡ true
    = sym (ap (λ xs. is_overfilled_above 0 (tree_in xs c.self.inside.height 0) c.args.index) c.as_slice.ensures.value ∙ ap (λ r. is_overfilled_above 0 r.tree c.args.index) c.self.view_is)
    ∙ sym c.is_overfilled_above.ensures ∙ c.if-is_overfilled_above.true in
    (λ refused. (omega (arith, c.leaves_of.ensures.value), full), λ h. refl)

pub returns-in_err-push_new_lists-clause-no_such_node : goal.returns-in_err-push_new_lists-clause-no_such_node
returns-in_err-push_new_lists-clause-no_such_node c =
    let count = leaf_count-seen _ _ c.self.invariant c.args.self.now.tree (ap (λ r. r.tree) c.self.view_is) in
    no_refusal _ _ OutOfMemory (leaf_count c.args.self.now.tree ≤ c.args.index)
    (handed_on c.from_residual.result OutOfMemory c.from_residual.ensures.0 c.from_residual.ensures.1)
    Memory-not_NoSuch
    (λ past. omega (arith, c.leaves_of.ensures.value))

pub returns-clause-no_such_node : goal.returns-clause-no_such_node
returns-clause-no_such_node c =
    let count = leaf_count-seen _ _ c.self.invariant c.args.self.now.tree (ap (λ r. r.tree) c.self.view_is) in
    no_refusal-ok _ _ (leaf_count c.args.self.now.tree ≤ c.args.index) (λ past. omega (arith, c.leaves_of.ensures.value))
