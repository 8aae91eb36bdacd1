-- How a ratchet tree is encoded, step by step. Internal: no public contract uses this.
use Rattle.std.specs.Prelude.{◌≡◌, ◌≢◌, ◌<◌, ℕ, List, [], length, true, Option, Some, None, IsSome, Result, Ok, Err}
use Rattle.mls_wire.specs.Encoding.{list, optional}
use Rattle.mls_wire.specs.Faults.{too_long_at}
use Rattle.mls_nodes.specs.declared.fault.NodeFault.{NodeFault}
use Rattle.mls_nodes.specs.declared.fault.NodeFault.TheVariants as faults
use Rattle.mls_nodes.specs.Limits.{entry_limit}
use Rattle.mls_nodes.specs.NodeModel.{NodeValue}
use Rattle.mls_nodes.specs.Layout.{node}
use Rattle.mls_nodes.specs.RatchetTreeEncoding.{has_valid_layout, IsFirstMisplaced}

-- The result of a call that checks node indices.
abbrev pub FitsNodeIndices : {A : Type 0} → List (Option NodeValue) → Result A NodeFault → Type 0
FitsNodeIndices nodes (Ok x) = has_valid_layout nodes ≡ true
FitsNodeIndices nodes (Err (faults.WrongNodeKind node_index)) = IsFirstMisplaced nodes node_index
FitsNodeIndices nodes (Err faults.TooManyLeaves) = entry_limit < length nodes
FitsNodeIndices nodes (Err e) = ⊥

-- What a call that writes entries without blanks at their end answered, fault by fault.
abbrev pub WritesTree : List (Option NodeValue) → Result (List ℕ) NodeFault → Type 0
WritesTree nodes (Ok bytes) = (nodes ≢ []) × (has_valid_layout nodes ≡ true) × (list (optional node) nodes ≡ Some bytes)
WritesTree nodes (Err faults.OutOfMemory) = (nodes ≢ []) × (has_valid_layout nodes ≡ true) × IsSome (list (optional node) nodes)
WritesTree nodes (Err faults.EmptyTree) = nodes ≡ []
WritesTree nodes (Err (faults.WrongNodeKind node_index)) = (nodes ≢ []) × IsFirstMisplaced nodes node_index
WritesTree nodes (Err faults.TooManyLeaves) = (nodes ≢ []) × (entry_limit < length nodes)
WritesTree nodes (Err (faults.Wire f)) = (nodes ≢ []) × (list (optional node) nodes ≡ None) × (f ≡ too_long_at 0)
WritesTree nodes (Err faults.LastBlank) = ⊥
