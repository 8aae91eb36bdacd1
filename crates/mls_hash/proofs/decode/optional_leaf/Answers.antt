use Rattle.mls_nodes.specs.NodeValues.{entry_value}
use Rattle.mls_hash.proofs.EncodedLeaves.{of_leaf, of_blank, entry_some}
use Rattle.mls_hash.proofs.decode.optional_leaf.Goals as goal

pub after_first-requires : goal.after_first-requires
after_first-requires c = entry_some (entry_value c.args.entry.now) c.args.encoding.now c.requires

pub returns-in-Some : goal.returns-in-Some
returns-in-Some c = of_leaf c.args.entry.now _ c.args.encoding.now c.after_first.result.now c.in-Some.is c.requires c.after_first.ensures

pub returns-in-None : goal.returns-in-None
returns-in-None c = of_blank c.args.entry.now c.args.encoding.now c.in-None.is c.requires
