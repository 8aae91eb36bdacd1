-- Why bytes are not decodable, as text in reports (docs/FORMATS.md). Used by contracts.
use Rattle.std.specs.Prelude.{ℕ, List, ◌++◌, codes}
use Rattle.std.specs.Fmt.{decimal}
use Rattle.mls_wire.specs.declared.fault.WireFault.{WireFault}
use Rattle.mls_wire.specs.declared.fault.WireFaultKind.{WireFaultKind}
use Rattle.mls_wire.specs.declared.fault.WireFaultKind.TheVariants as kind
use Rattle.mls_nodes.specs.declared.fault.NodeFault.{NodeFault}
use Rattle.mls_nodes.specs.declared.fault.NodeFault.TheVariants as fault

-- `wire_kind_text kind` is the text of what is wrong with bytes that cannot be read. A bad tag has its value.
abbrev pub wire_kind_text : WireFaultKind → List ℕ
wire_kind_text kind.Truncated = codes "Truncated"
wire_kind_text kind.NotShortest = codes "NotShortest"
wire_kind_text kind.BadPrefix = codes "BadPrefix"
wire_kind_text kind.BadOptional = codes "BadOptional"
wire_kind_text (kind.BadTag value) = codes "BadTag " ++ decimal value
wire_kind_text kind.OddLength = codes "OddLength"
wire_kind_text kind.Trailing = codes "Trailing"
wire_kind_text kind.TooLong = codes "TooLong"

-- `wire_fault_text f` is the text of a wire fault: what is wrong, and the offset at which the item begins.
abbrev pub wire_fault_text : WireFault → List ℕ
wire_fault_text f = wire_kind_text f.kind ++ (codes " " ++ decimal f.at)

-- `node_fault_text f` is why a ratchet_tree cannot be read.
abbrev pub node_fault_text : NodeFault → List ℕ
node_fault_text (fault.Wire f) = wire_fault_text f
node_fault_text (fault.WrongNodeKind node_index) = codes "WrongNodeKind " ++ decimal node_index
node_fault_text fault.LastBlank = codes "LastBlank"
node_fault_text fault.EmptyTree = codes "EmptyTree"
node_fault_text fault.TooManyLeaves = codes "TooManyLeaves"
node_fault_text fault.OutOfMemory = codes "OutOfMemory"
