use Rattle.mls_nodes.specs.NodesExact.{unmerged_is}
use Rattle.mls_nodes.proofs.unmerged.UnmergedEncode.size.Goals as goal

pub returns : goal.returns
returns c = rw (← c.self.view_is, unmerged_is c.self.inside.leaves c.self.invariant.0) c.size.ensures
