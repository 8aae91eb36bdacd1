use Rattle.mls_tree.proofs.Counting.{root-index}
use Rattle.mls_tree.proofs.subtree_counts.count_of.Goals as goal

pub returns : goal.returns
returns c = root-index c.args.nodes.now c.args.first c.leaves_of.result c.args.level c.if-level-eq0.false c.leaves_of.ensures.value c.args.counts.now _ c.requires.capacity c.requires.counts
