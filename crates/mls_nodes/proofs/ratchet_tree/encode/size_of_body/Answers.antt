use Rattle.std.proofs.Common.{map, refl, arith}
use Rattle.mls_wire.specs.Encoding.{optional}
use Rattle.mls_wire.specs.EncodedSizes.{list_none}
use Rattle.mls_nodes.specs.NodeValues.{entry_value}
use Rattle.mls_nodes.specs.Layout.{node}
use Rattle.mls_nodes.proofs.Drafted.{list_over}
use Rattle.mls_nodes.proofs.ratchet_tree.encode.size_of_body.Goals as goal

pub returns-in_default : goal.returns-in_default
returns-in_default c = (refl, list_over (optional node) (map entry_value c.args.entries.now) c.in-Some.body c.in-Some.ensures (omega arith))

pub returns-in_default-2 : goal.returns-in_default-2
returns-in_default-2 c = (refl, list_none (optional node) (map entry_value c.args.entries.now) c.in_default.ensures)
