-- The model of a node. Used by contracts.
use Rattle.std.specs.Prelude.{Option, Some, None}
use Rattle.mls_nodes.specs.NodeModel.{NodeValue, leaf_node, parent_node}
use Rattle.mls_nodes.specs.declared.node.Node.{Node}
use Rattle.mls_nodes.specs.declared.node.Node.TheVariants.{Leaf, Parent}

-- `node_value n` is the model of a node.
abbrev pub node_value : Node → NodeValue
node_value (Leaf l) = leaf_node l
node_value (Parent b) = parent_node b.value

-- `entry_value n` is the model of an entry of a tree: blank, or a node (RFC 9420, Appendix C).
abbrev pub entry_value : Option Node → Option NodeValue
entry_value None = None
entry_value (Some n) = Some (node_value n)
