use Rattle.std.proofs.Common.{Some, sym, ap, ◌∙◌, rules}
use Rattle.mls_tree.specs.RatchetTree.{RatchetTree}
use Rattle.mls_tree.specs.PublicTreeModel.{plain}
use Rattle.mls_tree.proofs.Parts.{leaf_part, parent_part}
use Rattle.mls_tree.proofs.public_tree.PublicTree.part.Goals as goal

pub returns-then-branch-eq0 : goal.returns-then-branch-eq0
returns-then-branch-eq0 c =
    let t : RatchetTree = plain c.args.self.now in
    leaf_part t.tree c.args.node_index _ (sym (c.in_ok-level.ensures.found t (sym c.leaf_count-leaves.ensures)) ∙ ap (λ k. Some k) c.if-branch-eq0.true) c.leaf.ensures

pub returns : goal.returns
returns c =
    let t : RatchetTree = plain c.args.self.now in
    parent_part t.tree c.args.node_index c.in_ok-left.left c.in_ok-right.right _ (sym (c.in_ok-left.ensures.found t (sym c.leaf_count-leaves.ensures)))
    (sym (c.in_ok-right.ensures.found t (sym c.leaf_count-leaves.ensures))) c.parent.ensures

pub returns-in_err-level : goal.returns-in_err-level
returns-in_err-level c = let found = c.level.ensures.found (plain c.args.self.now) (sym c.leaf_count-leaves.ensures) in search rules
