use Rattle.mls_wire.specs.ExactReads.{Gives-body}
use Rattle.mls_nodes.proofs.ratchet_tree.reader.read_body.Goals as goal

pub returns : goal.returns
returns c = Gives-body _ _ c.read_sub.result c.read_sub.ensures
