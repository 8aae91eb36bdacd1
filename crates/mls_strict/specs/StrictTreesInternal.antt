-- One strict rule, of a GroupContext and a ratchet tree. Internal: no public contract uses this.
use Rattle.std.specs.Prelude.{◌≡◌, ℕ, ◌<◌, true, false, Bool, Option, Some, None}
use Rattle.mls_nodes.specs.NodeModel.{NodeValue, leaf_node, parent_node}
use Rattle.mls_nodes.specs.declared.context.GroupContext.{GroupContext}
use Rattle.mls_nodes.specs.declared.required_capabilities.RequiredCapabilities.{RequiredCapabilities}
use Rattle.mls_tree.specs.Tree.{Tree, node_at}
use Rattle.mls_check.specs.LeafValidation.{supports_required}
use Rattle.mls_msgs.specs.declared.strict_rule.StrictRule.{StrictRule}
use Rattle.mls_strict.specs.StrictTrees.{FailsAt}
use Rattle.mls_strict.specs.declared.strict_fault.StrictTreeFault.{StrictTreeFault}
use Rattle.mls_strict.specs.declared.strict_fault.StrictTreeFault.TheVariants.{Strict, OutOfMemory}

-- `HoldsBelow test t place`: the test holds of each non-blank node with a smaller index.
abbrev pub HoldsBelow : (NodeValue → Bool) → Tree → ℕ → Type 0
HoldsBelow test t place = (p : ℕ) (n : NodeValue) → p < place → node_at t p ≡ Some n → test n ≡ true

-- `FindsFailingNode test t o`: `o` is the smallest node index at which the test fails, or `None` if it holds of each node.
abbrev pub FindsFailingNode : (NodeValue → Bool) → Tree → Option ℕ → Type 0
FindsFailingNode test t None = (p : ℕ) (n : NodeValue) → node_at t p ≡ Some n → test n ≡ true
FindsFailingNode test t (Some place) =
    HoldsBelow test t place × ((n : NodeValue) × (node_at t place ≡ Some n) × (test n ≡ false))

-- `IsFaultOf context t r e`: the error names the strict rule and the place where it is not met. `OutOfMemory` says nothing.
abbrev pub IsFaultOf : GroupContext → Tree → StrictRule → StrictTreeFault → Type 0
IsFaultOf context t r (Strict fault) = (fault.rule ≡ r) × FailsAt context t r fault.place
IsFaultOf context t r OutOfMemory = Unit {0}

-- `node_supports required n`: the node satisfies these requirements, as each parent node does.
abbrev pub node_supports : RequiredCapabilities → NodeValue → Bool
node_supports required (leaf_node x) = supports_required required x
node_supports required (parent_node p) = true
