use Rattle.mls_tree.proofs.Trees.{length-listing}
use Rattle.mls_tree.proofs.Positions.{node_at-listing, leaf_at-listing, parent_node_index-listing, node_index-inside}
use Rattle.mls_tree.proofs.laws.node_indices_are_positions.Goals as goal

pub returns : goal.returns
returns c = record {
  nodes = node_at-listing;
  leaves = leaf_at-listing;
  parents = parent_node_index-listing;
  node_indices = node_index-inside;
  count = length-listing;
}
