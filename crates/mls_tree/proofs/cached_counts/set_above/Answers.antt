use Rattle.std.proofs.Common.{ap, arith, length}
use Rattle.mls_tree.proofs.KeptCounts.{counts-written}
use Rattle.mls_tree.proofs.cached_counts.set_above.Goals as goal

pub returns : goal.returns
returns c =
    counts-written c.args.tree.now.tree c.recount.new.counts c.args.counts.now.list.items c.args.counts.now.list.len c.args.counts.now.list.ok.0
    (omega (arith, c.recount.ensures.count, ap length c.as_mut_slice.ensures.value)) c.requires.0 c.recount.ensures.counts
