-- Results of the calls that store a state. Internal: no public contract uses this.
use Rattle.std.specs.Prelude.{◌≡◌, ◌≤◌, ℕ, List, length, Result, Ok, Err}
use Rattle.mls_wire.specs.Faults.{too_long_at}
use Rattle.mls_wire.specs.Limits.{input_limit}
use Rattle.mls_wire.specs.declared.fault.CodecFault.{CodecFault}
use Rattle.mls_wire.specs.declared.fault.CodecFault.TheVariants as codec
use Rattle.mls_nodes.specs.declared.fault.NodeFault.{NodeFault}
use Rattle.mls_nodes.specs.declared.fault.NodeFault.TheVariants as nodes
use Rattle.mls_tree.specs.RatchetTree.{RatchetTree}
use Rattle.mls_state.specs.StateFile.{IsFileOf}
use Rattle.mls_state.specs.declared.state.FollowerState.{FollowerState}
use Rattle.mls_follow.specs.StoredState.{IsTreeBody}

-- `HasNoTreeBody t`: no body is that of the encoded tree `t`.
abbrev pub HasNoTreeBody : RatchetTree → Type 0
HasNoTreeBody t = (body : List ℕ) → IsTreeBody body t → ⊥

-- `storing_fault fault` is the fault of a tree as one of a state.
abbrev pub storing_fault : NodeFault → CodecFault
storing_fault nodes.OutOfMemory = codec.OutOfMemory
storing_fault (nodes.Wire f) = codec.Wire (too_long_at 0)
storing_fault (nodes.WrongNodeKind node_index) = codec.Wire (too_long_at 0)
storing_fault nodes.LastBlank = codec.Wire (too_long_at 0)
storing_fault nodes.EmptyTree = codec.Wire (too_long_at 0)
storing_fault nodes.TooManyLeaves = codec.Wire (too_long_at 0)

-- `MakesShortFile c result`: the call returned the file of `c`, of no more bytes than an input may have. A fault other
-- than `OutOfMemory` is `TooLong` at 0, and comes only if there is none.
abbrev pub MakesShortFile : FollowerState → Result (List ℕ) CodecFault → Type 0
MakesShortFile c (Ok bytes) = IsFileOf bytes c × (length bytes ≤ input_limit)
MakesShortFile c (Err (codec.Wire f)) = (f ≡ too_long_at 0) × ((bytes : List ℕ) → IsFileOf bytes c → length bytes ≤ input_limit → ⊥)
MakesShortFile c (Err codec.OutOfMemory) = Unit {0}
