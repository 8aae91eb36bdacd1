use Rattle.std.proofs.Common.{ap, arith, length}
use Rattle.mls_tree.proofs.KeptCounts.{counts-written}
use Rattle.mls_tree.proofs.cached_counts.set_all.Goals as goal

pub returns : goal.returns
returns c =
    counts-written c.args.tree.now.tree c.count_all.new.counts c.args.counts.now.list.items c.args.counts.now.list.len c.args.counts.now.list.ok.0
    (omega (arith, c.count_all.ensures.count, ap length c.as_mut_slice.ensures.value)) c.requires c.count_all.ensures.counts
