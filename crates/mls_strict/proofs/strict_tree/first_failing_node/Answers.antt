use Rattle.std.proofs.Common.{◌∙◌, sym}
use Rattle.mls_strict.specs.StrictTrees.{tree_node_meets}
use Rattle.mls_strict.proofs.TreeNodes.{HoldsBelow-all, HoldsBelow-blank, HoldsBelow-node}
use Rattle.mls_strict.proofs.strict_tree.first_failing_node.Goals as goal
use Rattle.mls_strict.proofs.strict_tree.first_failing_node.Goals.{in-Some+else-not-node_meets, in_default}

pub loop-node_index-preserved : goal.loop-node_index-preserved
loop-node_index-preserved c =
    let test = tree_node_meets c.args.context.now c.args.rule in
    let t = c.args.tree.now.tree in
    elim c.match-node.branch [
      | in-Some+else-not-node_meets w ↦
          HoldsBelow-node test t c.loop-node_index.node_index _ c.loop-node_index.invariant w.in-Some.ensures (sym w.node_meets.ensures ∙ w.if-not-node_meets.false)
      | in_default w ↦ HoldsBelow-blank test t c.loop-node_index.node_index c.loop-node_index.invariant w.in_default.ensures
    ]

pub returns-then-not-node_meets : goal.returns-then-not-node_meets
returns-then-not-node_meets c = (c.loop-node_index.invariant, (_, sym c.in-Some.ensures, sym c.node_meets.ensures ∙ c.if-not-node_meets.true))

pub returns : goal.returns
returns c =
    HoldsBelow-all (tree_node_meets c.args.context.now c.args.rule) c.args.tree.now.tree c.node_index_count-node_index-end.result c.loop-node_index.node_index
    c.node_index_count-node_index-end.ensures c.loop-node_index-test.false c.loop-node_index.invariant
