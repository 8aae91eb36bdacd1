use Rattle.std.proofs.Common.{ℕ, List, refl, sym, ap, ◌∙◌, arith}
use Rattle.std.specs.Prelude.{◌&&◌}
use Rattle.std.specs.List.{list_all}
use Rattle.std.proofs.lemmas.Bool.{false≢true}
use Rattle.mls_tree.specs.Tree.{subtree_at}
use Rattle.mls_tree.specs.PublicTreeModel.{plain}
use Rattle.mls_tree.specs.RatchetTree.{RatchetTree}
use Rattle.mls_tree.proofs.Descent.{right_lower}
use Rattle.mls_check.specs.UnmergedInAll.{is_unmerged_in_all_at}
use Rattle.mls_check.specs.UnmergedLists.{is_unmerged_in_all}
use Rattle.mls_check.proofs.Placing.{none-entered, others-entered, parent-entered, apart-entered, in_child, left_lower}
use Rattle.mls_check.proofs.Walks.{all-from, left-rises, right-rises, not-empty}
use Rattle.mls_check.proofs.unmerged_consistency.+are_unmerged_in_all.Goals as goal

pub returns-in-None : goal.returns-in-None
returns-in-None t c =
    none-entered is_unmerged_in_all c.args.tree.now.tree c.args.node_index c.args.leaves.now (not-empty c.args.leaves.now (sym c.is_empty.ensures ∙ c.if-is_empty.false)) c.in-None.ensures

pub returns-else-is_only : goal.returns-else-is_only
returns-else-is_only t c =
    let part = rw c.in-Some-Leaf.field-0-is at c.in-Some-Leaf.ensures in
    c.if-is_only.false
    ∙ others-entered is_unmerged_in_all c.args.tree.now.tree c.args.node_index c.in-Some-Leaf.index _ (λ i. refl) part c.args.leaves.now (not-empty c.args.leaves.now (sym c.is_empty.ensures ∙ c.if-is_empty.false)) c.requires.increasing
    (λ e. false≢true (sym c.if-is_only.false ∙ c.is_only.ensures.1 e))

pub returns-then-not-lists_all : goal.returns-then-not-lists_all
returns-then-not-lists_all t c =
    let h = rw c.in-Some-Parent.field-0-is at c.in-Some-Parent.ensures in
    let leaves : List ℕ = c.args.leaves.now in
    sym (parent-entered c.args.tree.now.tree c.args.node_index _ _ _ _ h leaves ∙ ap (λ b. b && list_all (in_child c.args.tree.now.tree c.args.node_index _ _ _ _ h) leaves) (sym c.lists_all.ensures ∙ c.if-not-lists_all.true))

pub are_unmerged_in_all-requires : goal.are_unmerged_in_all-requires
are_unmerged_in_all-requires t c =
    let h = rw c.in-Some-Parent.field-0-is at c.in-Some-Parent.ensures in (
      omega (arith, c.decreases, left_lower c.args.tree.now.tree _ _ _ _ _ h),
      (c.requires.sorted, left-rises c.args.leaves.now c.split_leaves.result.0.now c.split_leaves.result.1.now c.split_leaves.ensures.whole c.requires.increasing),
    )

pub are_unmerged_in_all-requires-then-are_unmerged_in_all : goal.are_unmerged_in_all-requires-then-are_unmerged_in_all
are_unmerged_in_all-requires-then-are_unmerged_in_all t c =
    let tree : RatchetTree = plain c.args.tree.now in
    let h = rw c.in-Some-Parent.field-0-is at c.in-Some-Parent.ensures in (
      omega (arith, c.decreases, right_lower tree _ _ _ _ _ h),
      (c.requires.sorted, right-rises c.args.leaves.now c.split_leaves.result.0.now c.split_leaves.result.1.now c.split_leaves.ensures.whole c.requires.increasing),
    )

pub returns-then-are_unmerged_in_all : goal.returns-then-are_unmerged_in_all
returns-then-are_unmerged_in_all t c =
    let h = rw c.in-Some-Parent.field-0-is at c.in-Some-Parent.ensures in
    let leaves : List ℕ = c.args.leaves.now in
    let before : List ℕ = c.split_leaves.result.0.now in
    let after : List ℕ = c.split_leaves.result.1.now in
    c.are_unmerged_in_all-then-are_unmerged_in_all.ensures
    ∙ sym
    (apart-entered c.args.tree.now.tree c.args.node_index _ _ _ _ h leaves before after c.split_leaves.ensures.whole c.split_leaves.ensures.front
    (all-from c.in-Some-Parent.middle after (right-rises leaves before after c.split_leaves.ensures.whole c.requires.increasing) c.split_leaves.ensures.rest)
    (sym c.lists_all.ensures ∙ c.if-not-lists_all.false)
    ∙ ap (λ a. a && list_all (λ i. is_unmerged_in_all_at (subtree_at 0 c.args.tree.now.tree c.in-Some-Parent.right) i) after) (sym c.are_unmerged_in_all.ensures ∙ c.if-are_unmerged_in_all.true))

pub returns-else-are_unmerged_in_all : goal.returns-else-are_unmerged_in_all
returns-else-are_unmerged_in_all t c =
    let h = rw c.in-Some-Parent.field-0-is at c.in-Some-Parent.ensures in
    let leaves : List ℕ = c.args.leaves.now in
    let before : List ℕ = c.split_leaves.result.0.now in
    let after : List ℕ = c.split_leaves.result.1.now in
    c.if-are_unmerged_in_all.false
    ∙ sym
    (apart-entered c.args.tree.now.tree c.args.node_index _ _ _ _ h leaves before after c.split_leaves.ensures.whole c.split_leaves.ensures.front
    (all-from c.in-Some-Parent.middle after (right-rises leaves before after c.split_leaves.ensures.whole c.requires.increasing) c.split_leaves.ensures.rest)
    (sym c.lists_all.ensures ∙ c.if-not-lists_all.false)
    ∙ ap (λ a. a && list_all (λ i. is_unmerged_in_all_at (subtree_at 0 c.args.tree.now.tree c.in-Some-Parent.right) i) after) (sym c.are_unmerged_in_all.ensures ∙ c.if-are_unmerged_in_all.false))
