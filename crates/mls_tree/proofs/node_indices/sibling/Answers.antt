use Rattle.mls_tree.proofs.Coordinates.{sibling-right, sibling-left}
use Rattle.mls_tree.proofs.node_indices.sibling.Goals as goal

pub returns-then-node_index-parent-clause-found : goal.returns-then-node_index-parent-clause-found
returns-then-node_index-parent-clause-found c = λ t e. sibling-right t _ _ _ (c.in_ok-parent.ensures.found t e) c.if-node_index-parent.true (c.right.ensures.found t e)

pub returns-else-node_index-parent-clause-found : goal.returns-else-node_index-parent-clause-found
returns-else-node_index-parent-clause-found c = λ t e. sibling-left t _ _ _ (c.in_ok-parent.ensures.found t e) c.if-node_index-parent.false (c.left.ensures.found t e)
