use Rattle.mls_tree.proofs.Counting.{kept-near}
use Rattle.mls_tree.proofs.subtree_counts.+count_all.Goals as goal

pub add_up-requires-clause-left : goal.add_up-requires-clause-left
add_up-requires-clause-left t c =
    kept-near c.args.nodes.now c.args.first c.leaves_of.result c.args.level c.if-level-eq0.false c.leaves_of.ensures.value c.count_all.new.counts c.count_all-2.new.counts
    c.count_all-2.ensures.preserved c.count_all.ensures.counts
