use Rattle.mls_tree.proofs.Numbers.{shifted, leaves_at-low}
use Rattle.mls_tree.proofs.tree_size.leaves_of.Goals as goal

pub returns-clause-value : goal.returns-clause-value
returns-clause-value c = shifted c.args.height c.requires

pub returns-clause-low : goal.returns-clause-low
returns-clause-low c = rw (shifted c.args.height c.requires) (leaves_at-low c.args.height c.requires)
