-- What a group requires, independent of the order of its lists. Used by contracts.
use Rattle.std.specs.Prelude.{◌≡◌}
use Rattle.mls_nodes.specs.declared.leaf.LeafNode.{LeafNode}
use Rattle.mls_nodes.specs.declared.required_capabilities.RequiredCapabilities.{RequiredCapabilities}
use Rattle.mls_check.specs.LeafValidation.{supports_required}
use Rattle.mls_check.specs.declared.sorted_requirements.SortedRequirements.{SortedRequirements}

-- `requirements_of increasing` is the required capabilities with these strictly increasing lists.
abbrev pub requirements_of : SortedRequirements → RequiredCapabilities
requirements_of increasing = record { extensions = increasing.extensions.items; proposals = increasing.proposals.items; credentials = increasing.credentials.items }

-- `RequireSame some others`: each leaf satisfies both or neither.
abbrev pub RequireSame : RequiredCapabilities → RequiredCapabilities → Type 0
RequireSame some others = (x : LeafNode) → supports_required some x ≡ supports_required others x
