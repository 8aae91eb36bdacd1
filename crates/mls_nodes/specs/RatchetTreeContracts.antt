-- Results of the calls that decode and encode a ratchet_tree (RFC 9420, 12.4.3.3). Used by contracts.
use Rattle.std.specs.Prelude.{◌≡◌, ◌≤◌, None, ℕ, List, length, Option, Some, IsSome, Result, Ok, Err}
use Rattle.mls_wire.specs.Limits.{input_limit}
use Rattle.mls_nodes.specs.declared.fault.NodeFault.{NodeFault}
use Rattle.mls_nodes.specs.declared.fault.NodeFault.TheVariants as faults
use Rattle.mls_nodes.specs.NodeModel.{NodeValue}
use Rattle.mls_nodes.specs.RatchetTreeEncoding.{ratchet_tree, trimmed, filled}

-- `EncodesTree nodes result`: the call returned the encoding of the entries without the blank ones at the end. There is
-- a fault other than `OutOfMemory` if and only if they have no encoding.
abbrev pub EncodesTree : List (Option NodeValue) → Result (List ℕ) NodeFault → Type 0
EncodesTree nodes (Ok bytes) = ratchet_tree (trimmed nodes) ≡ Some bytes
EncodesTree nodes (Err faults.OutOfMemory) = IsSome (ratchet_tree (trimmed nodes))
EncodesTree nodes (Err e) = ratchet_tree (trimmed nodes) ≡ None

-- `DecodesTree bytes result`: the call returned the tree whose encoding is all of the bytes, extended to a full tree. A
-- fault other than `OutOfMemory` comes only if the bytes are no such encoding within the limit of an input.
abbrev pub DecodesTree : List ℕ → Result (List (Option NodeValue)) NodeFault → Type 0
DecodesTree bytes (Ok entries) = (nodes : List (Option NodeValue)) × (ratchet_tree nodes ≡ Some bytes) × (length bytes ≤ input_limit) × (entries ≡ filled nodes)
DecodesTree bytes (Err faults.OutOfMemory) = Unit {0}
DecodesTree bytes (Err e) = (nodes : List (Option NodeValue)) → ratchet_tree nodes ≡ Some bytes → length bytes ≤ input_limit → ⊥
