-- The fault of a codec as a fault of nodes, and the results of calls that decode a ratchet_tree. Internal: no public
-- contract uses this.
use Rattle.std.specs.Prelude.{◌≡◌, ◌≤◌, List, length, ℕ, Option, Some, Result, Ok, Err}
use Rattle.mls_wire.specs.Limits.{input_limit}
use Rattle.mls_wire.specs.declared.fault.CodecFault.{CodecFault}
use Rattle.mls_wire.specs.declared.fault.CodecFault.TheVariants as codec
use Rattle.mls_nodes.specs.declared.fault.NodeFault.{NodeFault}
use Rattle.mls_nodes.specs.declared.fault.NodeFault.TheVariants as faults
use Rattle.mls_nodes.specs.NodeModel.{NodeValue}
use Rattle.mls_nodes.specs.RatchetTreeEncoding.{ratchet_tree}

-- `node_fault fault` is the same fault as a `NodeFault`.
abbrev pub node_fault : CodecFault → NodeFault
node_fault (codec.Wire f) = faults.Wire f
node_fault codec.OutOfMemory = faults.OutOfMemory

-- `DecodesEntries bytes result`: the call returned the entries whose encoding as a ratchet_tree is all of the bytes. A
-- fault other than `OutOfMemory` comes only if the bytes are no such encoding within the limit of an input.
abbrev pub DecodesEntries : List ℕ → Result (List (Option NodeValue)) NodeFault → Type 0
DecodesEntries bytes (Ok nodes) = (ratchet_tree nodes ≡ Some bytes) × (length bytes ≤ input_limit)
DecodesEntries bytes (Err faults.OutOfMemory) = Unit {0}
DecodesEntries bytes (Err e) = (nodes : List (Option NodeValue)) → ratchet_tree nodes ≡ Some bytes → length bytes ≤ input_limit → ⊥
