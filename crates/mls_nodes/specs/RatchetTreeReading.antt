-- Reading the entries of a ratchet_tree one after the other (RFC 9420, 12.4.3.3). Used by contracts.
use Rattle.std.specs.Prelude.{◌≡◌, ◌≤◌, ◌<◌, ◌+◌, ◌↔◌, ℕ, List, [], ◌∷◌, ◌++◌, length, Option, Some, None, Result, Ok, Err}
use Rattle.mls_wire.specs.Encoding.{optional}
use Rattle.mls_wire.specs.Limits.{input_limit}
use Rattle.mls_nodes.specs.Layout.{node}
use Rattle.mls_nodes.specs.NodeModel.{NodeValue}
use Rattle.mls_nodes.specs.NodeValues.{entry_value}
use Rattle.mls_nodes.specs.RatchetTreeEncoding.{ratchet_tree}
use Rattle.mls_nodes.specs.declared.node.Node.{Node}
use Rattle.mls_nodes.specs.declared.fault.NodeFault.{NodeFault}
use Rattle.mls_nodes.specs.declared.fault.NodeFault.TheVariants as faults

-- What contracts see of a `RatchetTreeReader`. `node_index` is that of the next entry, and `unread` is the unread bytes
-- of entries. `rest` is the entries in these bytes, or `None` if no ratchet_tree ends in them.
pub record RatchetTreeReaderModel : Type 0 where
  pub node_index : ℕ
  pub unread : List ℕ
  pub rest : Option (List (Option NodeValue))

-- What contracts see of an `OwnedTreeReader`: what they see of a `RatchetTreeReader`, and the encoding of the entry that
-- was read last.
pub record OwnedTreeReaderModel : Type 0 where
  pub reader : RatchetTreeReaderModel
  pub encoding : List ℕ

-- `with_first x rest` is the entries with `x` in front, if there are entries.
abbrev pub with_first : Option NodeValue → Option (List (Option NodeValue)) → Option (List (Option NodeValue))
with_first x None = None
with_first x (Some xs) = Some (x ∷ xs)

-- `StartsReading bytes result`: the call returned a reader of the entries whose encoding as a ratchet_tree is all of the
-- bytes, if there are such entries. A fault comes only if there are none within the limit of an input.
abbrev pub StartsReading : List ℕ → Result RatchetTreeReaderModel NodeFault → Type 0
StartsReading bytes (Ok r) = (length bytes ≤ input_limit) × (r.node_index ≡ 0) × ((nodes : List (Option NodeValue)) → (r.rest ≡ Some nodes) ↔ (ratchet_tree nodes ≡ Some bytes))
StartsReading bytes (Err e) = (nodes : List (Option NodeValue)) → ratchet_tree nodes ≡ Some bytes → length bytes ≤ input_limit → ⊥

-- `BeginsWithEntry x old new`: the bytes `old` are the encoding of the entry `x`, followed by `new`.
abbrev pub BeginsWithEntry : Option NodeValue → List ℕ → List ℕ → Type 0
BeginsWithEntry x old new = (encoding : List ℕ) × (optional node x ≡ Some encoding) × (old ≡ encoding ++ new)

-- `ReadsEntry old new result`: the call returned the first of the entries still to be read, and the reader moved after
-- its encoding, or it returned `None` if there is no further one. A fault other than `OutOfMemory` comes only if no
-- ratchet_tree ends in the unread bytes.
abbrev pub ReadsEntry : RatchetTreeReaderModel → RatchetTreeReaderModel → Result (Option (Option Node)) NodeFault → Type 0
ReadsEntry old new (Ok (Some x)) = (old.rest ≡ with_first (entry_value x) new.rest) × (new.node_index ≡ old.node_index + 1) × (length new.unread < length old.unread) × BeginsWithEntry (entry_value x) old.unread new.unread
ReadsEntry old new (Ok None) = (old.rest ≡ Some []) × (new ≡ old)
ReadsEntry old new (Err faults.OutOfMemory) = Unit {0}
ReadsEntry old new (Err e) = old.rest ≡ None
