use Rattle.std.proofs.Common.{ap, ◌∙◌, subst}
use Rattle.std.specs.List.{list_all}
use Rattle.std.specs.Option.{option_copied}
use Rattle.mls_tree.specs.Tree.{subtree_at}
use Rattle.mls_tree.specs.NodeView.{HasChildren}
use Rattle.mls_check.specs.UnmergedInAll.{is_unmerged_in_all_at}
use Rattle.mls_check.proofs.Placing.{consistent_here}
use Rattle.mls_check.proofs.unmerged_consistency.has_consistent_unmerged_at.Goals as goal

pub returns : goal.returns
returns c =
    let w = c.in-Some-Parent-Some-default-default-default in
    let t = c.args.tree.now.tree in
    let h = subst (λ o. HasChildren t c.args.node_index w.field-0-1 w.field-0-2 w.field-0-3 (option_copied o)) w.field-0-0-is (rw w.field-0-is at w.ensures) in
    consistent_here t c.args.node_index w.field-0-1 w.field-0-2 w.field-0-3 w.parent.now h c.are_unmerged_in_all.result
    (c.are_unmerged_in_all.ensures ∙ ap (λ xs. list_all (λ i. is_unmerged_in_all_at (subtree_at 0 t c.args.node_index) i) xs) c.as_slice.ensures.items)
