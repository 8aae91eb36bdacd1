use Rattle.std.proofs.Common.{refl, sym, ap, ◌∙◌, arith}
use Rattle.std.specs.Prelude.{◌&&◌}
use Rattle.std.specs.List.{list_all}
use Rattle.std.proofs.lemmas.Bool.{false≢true}
use Rattle.std.specs.Option.{option_copied}
use Rattle.mls_tree.specs.Tree.{subtree_at}
use Rattle.mls_tree.specs.PublicTreeModel.{plain}
use Rattle.mls_tree.specs.RatchetTree.{RatchetTree}
use Rattle.mls_tree.proofs.Descent.{right_lower}
use Rattle.mls_check.proofs.CarriedDown.{under_blank}
use Rattle.mls_check.proofs.Placing.{none-entered, others-entered}
use Rattle.mls_check.proofs.Walks.{all-from, right-rises, not-empty}
use Rattle.mls_check.specs.UnmergedInAll.{is_listed_by_next, is_listed_by_next_at}
use Rattle.mls_check.proofs.unmerged_consistency.+are_listed_by_next.Goals as goal

pub are_listed_by_next-requires-then-are_listed_by_next : goal.are_listed_by_next-requires-then-are_listed_by_next
are_listed_by_next-requires-then-are_listed_by_next t c =
    let tree : RatchetTree = plain c.args.tree.now in
    let w = c.in-Some-Parent-None-default-default-default in
    let h = rw w.field-0-is at w.ensures in (
      omega (arith, c.decreases, right_lower tree _ _ _ _ _ h),
      (c.requires.sorted, right-rises c.args.leaves.now c.split_leaves.result.0.now c.split_leaves.result.1.now c.split_leaves.ensures.whole c.requires.increasing),
    )

pub returns-in-None : goal.returns-in-None
returns-in-None t c =
    none-entered is_listed_by_next c.args.tree.now.tree c.args.node_index c.args.leaves.now (not-empty c.args.leaves.now (sym c.is_empty.ensures ∙ c.if-is_empty.false)) c.in-None.ensures

pub returns-else-is_only : goal.returns-else-is_only
returns-else-is_only t c =
    let part = rw c.in-Some-Leaf.field-0-is at c.in-Some-Leaf.ensures in
    c.if-is_only.false
    ∙ others-entered is_listed_by_next c.args.tree.now.tree c.args.node_index c.in-Some-Leaf.index _ (λ i. refl) part c.args.leaves.now
    (not-empty c.args.leaves.now (sym c.is_empty.ensures ∙ c.if-is_empty.false)) c.requires.increasing
    (λ e. false≢true (sym c.if-is_only.false ∙ c.is_only.ensures.1 e))

pub returns-then-are_listed_by_next : goal.returns-then-are_listed_by_next
returns-then-are_listed_by_next t c =
    let w = c.in-Some-Parent-None-default-default-default in
    let h = rw w.field-0-is at w.ensures in
    let leaves = c.args.leaves.now in
    let halves = c.split_leaves in
    let rest = right-rises leaves halves.result.0.now halves.result.1.now halves.ensures.whole c.requires.increasing in
    c.are_listed_by_next-then-are_listed_by_next.ensures
    ∙ ap (λ a. a && list_all (λ i. is_listed_by_next_at (subtree_at 0 c.args.tree.now.tree w.right) i) halves.result.1.now) (sym c.if-are_listed_by_next.true ∙ c.are_listed_by_next.ensures)
    ∙ sym
    (under_blank c.args.tree.now.tree c.args.node_index _ _ _ _ h leaves halves.result.0.now halves.result.1.now
    halves.ensures.whole halves.ensures.front (all-from w.middle halves.result.1.now rest halves.ensures.rest)
    (ap option_copied w.field-0-0-is))

pub returns-else-are_listed_by_next : goal.returns-else-are_listed_by_next
returns-else-are_listed_by_next t c =
    let w = c.in-Some-Parent-None-default-default-default in
    let h = rw w.field-0-is at w.ensures in
    let leaves = c.args.leaves.now in
    let halves = c.split_leaves in
    let rest = right-rises leaves halves.result.0.now halves.result.1.now halves.ensures.whole c.requires.increasing in
    c.if-are_listed_by_next.false
    ∙ ap (λ a. a && list_all (λ i. is_listed_by_next_at (subtree_at 0 c.args.tree.now.tree w.right) i) halves.result.1.now) (sym c.if-are_listed_by_next.false ∙ c.are_listed_by_next.ensures)
    ∙ sym
    (under_blank c.args.tree.now.tree c.args.node_index _ _ _ _ h leaves halves.result.0.now halves.result.1.now
    halves.ensures.whole halves.ensures.front (all-from w.middle halves.result.1.now rest halves.ensures.rest)
    (ap option_copied w.field-0-0-is))
