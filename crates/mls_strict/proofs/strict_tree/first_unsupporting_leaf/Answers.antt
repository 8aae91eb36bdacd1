use Rattle.std.proofs.Common.{◌∙◌, Some, None, sym}
use Rattle.mls_msgs.specs.declared.strict_rule.StrictRule.TheVariants.{GroupExtensionUnsupported}
use Rattle.mls_strict.specs.StrictTrees.{tree_node_meets}
use Rattle.mls_strict.specs.StrictTreesInternal.{node_supports}
use Rattle.mls_strict.proofs.TreeNodes.{FindsFailingNode-same, HoldsBelow-all, HoldsBelow-blank, HoldsBelow-node, node-supports}
use Rattle.mls_strict.proofs.strict_tree.first_unsupporting_leaf.Goals as goal
use Rattle.mls_strict.proofs.strict_tree.first_unsupporting_leaf.Goals.{in-Some+in_ok-node_supports+else-not-branch, in_default}

pub loop-node_index-preserved : goal.loop-node_index-preserved
loop-node_index-preserved c =
    let test = node_supports c.in_ok-required.required in
    let t = c.args.tree.now.tree in
    elim c.match-node.branch [
      | in-Some+in_ok-node_supports+else-not-branch w ↦
          HoldsBelow-node test t c.loop-node_index.node_index _ c.loop-node_index.invariant w.in-Some.ensures (sym w.in_ok-node_supports.ensures ∙ w.if-not-branch.false)
      | in_default w ↦ HoldsBelow-blank test t c.loop-node_index.node_index c.loop-node_index.invariant w.in_default.ensures
    ]

pub returns-then-not-branch : goal.returns-then-not-branch
returns-then-not-branch c =
    let required = c.in_ok-required.required in
    FindsFailingNode-same (node_supports required) (tree_node_meets c.args.context.now GroupExtensionUnsupported)
    (node-supports c.args.context.now required c.in_ok-required.ensures) c.args.tree.now.tree (Some c.loop-node_index.node_index)
    (c.loop-node_index.invariant, (_, sym c.in-Some.ensures, sym c.in_ok-node_supports.ensures ∙ c.if-not-branch.true))

pub returns : goal.returns
returns c =
    let required = c.in_ok-required.required in
    let t = c.args.tree.now.tree in
    FindsFailingNode-same (node_supports required) (tree_node_meets c.args.context.now GroupExtensionUnsupported)
    (node-supports c.args.context.now required c.in_ok-required.ensures) t None
    (HoldsBelow-all (node_supports required) t c.node_index_count-node_index-end.result c.loop-node_index.node_index
    c.node_index_count-node_index-end.ensures c.loop-node_index-test.false c.loop-node_index.invariant)
