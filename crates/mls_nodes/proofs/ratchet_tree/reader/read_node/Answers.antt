use Rattle.mls_nodes.proofs.LeafParts.{from_byte}
use Rattle.mls_nodes.proofs.ratchet_tree.reader.read_node.Goals as goal

pub read_from-requires : goal.read_from-requires
read_from-requires c = from_byte c.args.source c.args.reader.now c.read.new.reader c.in_ok-kind.kind c.in_ok-kind.ensures c.requires
