use Rattle.std.proofs.Common.{refl, sym, ap, ◌∙◌, subst}
use Rattle.std.specs.Prelude.{◌&&◌}
use Rattle.std.specs.List.{list_all}
use Rattle.std.specs.List.Sorted.{IsStrictlyIncreasing}
use Rattle.std.specs.Option.{option_copied}
use Rattle.mls_tree.specs.Tree.{subtree_at}
use Rattle.mls_tree.specs.NodeView.{HasChildren}
use Rattle.mls_check.specs.UnmergedInAll.{is_listed_by_next_at}
use Rattle.mls_check.proofs.CarriedDown.{under_own, own_list_increases}
use Rattle.mls_check.proofs.Walks.{all-from, right-rises}
use Rattle.mls_check.proofs.unmerged_consistency.is_carried_down.Goals as goal

pub are_listed_by_next-requires-then-are_listed_by_next-clause-increasing : goal.are_listed_by_next-requires-then-are_listed_by_next-clause-increasing
are_listed_by_next-requires-then-are_listed_by_next-clause-increasing c =
    let w = c.in-Some-Parent-Some-default-default-default in
    let t = c.args.tree.now.tree in
    let h = subst (λ o. HasChildren t c.args.node_index w.left w.right w.middle (option_copied o)) w.field-0-0-is (rw w.field-0-is at w.ensures) in
    let increasing = own_list_increases t c.args.node_index w.left w.right w.middle w.parent.now h c.requires in
    right-rises c.as_slice.result.now c.split_leaves.result.0.now c.split_leaves.result.1.now c.split_leaves.ensures.whole
    (subst (λ xs. IsStrictlyIncreasing xs) (sym c.as_slice.ensures.items) increasing)

pub returns-then-are_listed_by_next : goal.returns-then-are_listed_by_next
returns-then-are_listed_by_next c =
    let w = c.in-Some-Parent-Some-default-default-default in
    let t = c.args.tree.now.tree in
    let h = subst (λ o. HasChildren t c.args.node_index w.left w.right w.middle (option_copied o)) w.field-0-0-is (rw w.field-0-is at w.ensures) in
    let increasing = own_list_increases t c.args.node_index w.left w.right w.middle w.parent.now h c.requires in
    let list = c.as_slice.result.now in
    let halves = c.split_leaves in
    let rest = right-rises list halves.result.0.now halves.result.1.now halves.ensures.whole (subst (λ xs. IsStrictlyIncreasing xs) (sym c.as_slice.ensures.items) increasing) in
    under_own t c.args.node_index w.left w.right w.middle _ h list halves.result.0.now halves.result.1.now
    halves.ensures.whole halves.ensures.front (all-from w.middle halves.result.1.now rest halves.ensures.rest)
    w.parent.now refl (sym c.as_slice.ensures.items) c.are_listed_by_next-then-are_listed_by_next.result
    (c.are_listed_by_next-then-are_listed_by_next.ensures
    ∙ ap (λ a. a && list_all (λ i. is_listed_by_next_at (subtree_at 0 t w.right) i) halves.result.1.now) (sym c.if-are_listed_by_next.true ∙ c.are_listed_by_next.ensures))

pub returns-else-are_listed_by_next : goal.returns-else-are_listed_by_next
returns-else-are_listed_by_next c =
    let w = c.in-Some-Parent-Some-default-default-default in
    let t = c.args.tree.now.tree in
    let h = subst (λ o. HasChildren t c.args.node_index w.left w.right w.middle (option_copied o)) w.field-0-0-is (rw w.field-0-is at w.ensures) in
    let increasing = own_list_increases t c.args.node_index w.left w.right w.middle w.parent.now h c.requires in
    let list = c.as_slice.result.now in
    let halves = c.split_leaves in
    let rest = right-rises list halves.result.0.now halves.result.1.now halves.ensures.whole (subst (λ xs. IsStrictlyIncreasing xs) (sym c.as_slice.ensures.items) increasing) in
    under_own t c.args.node_index w.left w.right w.middle _ h list halves.result.0.now halves.result.1.now
    halves.ensures.whole halves.ensures.front (all-from w.middle halves.result.1.now rest halves.ensures.rest)
    w.parent.now refl (sym c.as_slice.ensures.items) c.are_listed_by_next.result
    (c.if-are_listed_by_next.false
    ∙ ap (λ a. a && list_all (λ i. is_listed_by_next_at (subtree_at 0 t w.right) i) halves.result.1.now) (sym c.if-are_listed_by_next.false ∙ c.are_listed_by_next.ensures))
