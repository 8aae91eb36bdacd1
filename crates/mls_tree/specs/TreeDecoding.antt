-- The ratchet tree whose encoding bytes are (RFC 9420, 12.4.3.3). Used by contracts.
use Rattle.std.specs.Prelude.{◌≡◌, ℕ, ◌≤◌, List, length, Option, Some, Result, Ok, Err}
use Rattle.mls_wire.specs.Limits.{input_limit}
use Rattle.mls_nodes.specs.NodeModel.{NodeValue}
use Rattle.mls_nodes.specs.RatchetTreeEncoding.{ratchet_tree, filled}
use Rattle.mls_nodes.specs.declared.fault.NodeFault.{NodeFault}
use Rattle.mls_nodes.specs.declared.fault.NodeFault.TheVariants as faults
use Rattle.mls_tree.specs.Tree.{listing}
use Rattle.mls_tree.specs.RatchetTree.{RatchetTree}
use Rattle.mls_tree.specs.PublicTreeModel.{KeptTree, plain}

-- `IsTree bytes nodes`: the bytes are the encoding of a ratchet_tree with these nodes, within the limit of an input.
pub record IsTree (bytes : List ℕ) (nodes : List (Option NodeValue)) : Type 0 where
  pub encoded : ratchet_tree nodes ≡ Some bytes
  pub bounded : length bytes ≤ input_limit

-- `IsTreeOf bytes t`: `t` is the tree of these bytes, extended with blank nodes to a full tree (RFC 9420, 12.4.3.3).
pub record IsTreeOf (bytes : List ℕ) (t : RatchetTree) : Type 0 where
  pub nodes : List (Option NodeValue)
  pub is_tree : IsTree bytes nodes
  pub full : listing t.tree ≡ filled nodes

-- `IsNoTree bytes`: the bytes are the encoding of no ratchet_tree.
abbrev pub IsNoTree : List ℕ → Type 0
IsNoTree bytes = (nodes : List (Option NodeValue)) → IsTree bytes nodes → ⊥

-- `ReadsTree bytes result`: the call returned the tree of the bytes. A fault other than `OutOfMemory` comes only if
-- there is none.
abbrev pub ReadsTree : List ℕ → Result KeptTree NodeFault → Type 0
ReadsTree bytes (Ok t) = IsTreeOf bytes (plain t)
ReadsTree bytes (Err faults.OutOfMemory) = Unit {0}
ReadsTree bytes (Err e) = IsNoTree bytes
