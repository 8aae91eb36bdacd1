-- What contracts see of a node: its fields. Used by contracts.
use Rattle.mls_nodes.specs.declared.leaf.LeafNode.{LeafNode}
use Rattle.mls_nodes.specs.declared.parent.ParentNode.{ParentNode}

-- A non-blank node: a leaf node or a parent node (RFC 9420, 7.1 and 7.2).
pub data NodeValue : Type 0 where
  leaf_node : LeafNode → NodeValue
  parent_node : ParentNode → NodeValue
