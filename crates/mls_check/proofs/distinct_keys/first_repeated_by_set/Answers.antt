use Rattle.std.proofs.Common.{arith, sym}
use Rattle.mls_check.proofs.Repeats.{walked-start, walked-blank, walked-met, walked-new, walked-end, met, unmet}
use Rattle.mls_check.proofs.distinct_keys.first_repeated_by_set.Goals as goal

pub loop-node_index-init : goal.loop-node_index-init
loop-node_index-init c = walked-start c.args.tree.now.tree c.node_index_count-node_index.result c.new-later.result c.node_index_count-node_index.ensures.count c.new-later.ensures.empty

pub loop-node_index-preserved-in_default : goal.loop-node_index-preserved-in_default
loop-node_index-preserved-in_default c = walked-blank c.args.tree.now.tree c.loop-node_index.node_index c.loop-node_index.later c.loop-node_index.first c.loop-node_index-test.true c.loop-node_index.invariant (sym c.in_default.ensures)

pub loop-node_index-preserved-then-not-branch : goal.loop-node_index-preserved-then-not-branch
loop-node_index-preserved-then-not-branch c =
    walked-met c.args.tree.now.tree c.loop-node_index.node_index c.loop-node_index.later c.loop-node_index.first c.loop-node_index-test.true c.loop-node_index.invariant
    c.in-Some.key (sym c.in-Some.ensures) c.insert.new.self c.in_ok-insert.ensures.updates
    (met _ _ c.in_ok-insert.ensures.added c.if-not-branch.true)

pub loop-node_index-preserved : goal.loop-node_index-preserved
loop-node_index-preserved c =
    walked-new c.args.tree.now.tree c.loop-node_index.node_index c.loop-node_index.later c.loop-node_index.first c.loop-node_index-test.true c.loop-node_index.invariant
    c.in-Some.key (sym c.in-Some.ensures) c.insert.new.self c.in_ok-insert.ensures.updates
    (unmet _ _ c.in_ok-insert.ensures.added c.if-not-branch.false)

pub returns : goal.returns
returns c = walked-end c.args.tree.now.tree c.loop-node_index.later c.loop-node_index.first c.loop-node_index.node_index (omega arith) c.loop-node_index.invariant
