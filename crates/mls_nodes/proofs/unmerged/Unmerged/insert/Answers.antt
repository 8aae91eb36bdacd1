use Rattle.std.proofs.Common.{arith, ap, length}
use Rattle.mls_nodes.proofs.Limits.{numbers_more}
use Rattle.mls_nodes.proofs.unmerged.Unmerged.insert.Goals as goal

pub insert-requires-clause-fits : goal.insert-requires-clause-fits
insert-requires-clause-fits c h =
    numbers_more c.self.inside.leaves c.args.index c.args.leaf (omega (arith, ap length c.self.view_is)) (omega arith)
    (omega (arith, ap length c.self.view_is)) h
