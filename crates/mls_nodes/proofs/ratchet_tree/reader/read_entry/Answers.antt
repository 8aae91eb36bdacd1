use Rattle.mls_nodes.proofs.LeafParts.{from_flag}
use Rattle.mls_nodes.proofs.ratchet_tree.reader.read_entry.Goals as goal

pub read_node-requires : goal.read_node-requires
read_node-requires c = from_flag c.args.source c.args.reader.now c.read_presence.new.reader c.in_ok-read_presence.field-0 c.in_ok-read_presence.ensures c.requires
