use Rattle.std.proofs.Common.{◌≡◌, vec_len}
use Rattle.std.specs.Prelude.{All}
use Rattle.mls_tree.specs.Tree.{IsParentNodeIndex}
use Rattle.mls_tree.specs.TreeOperations.{with_unmerged}
use Rattle.mls_tree.specs.Journals.{before}
use Rattle.mls_tree.specs.LoggedHashes.{HasRightHashes}
use Rattle.mls_tree.proofs.AlongPaths.{changed}
use Rattle.mls_tree.proofs.Entering.{HasCapacity}
use Rattle.mls_tree.proofs.journal.Journal.add_unmerged.Given as goal

abbrev pub invariant-loop-node_index : goal.invariant-loop-node_index
invariant-loop-node_index l = record {
  left : changed (with_unmerged l.index) 0 l.fn.tree.tree l.initial.node_indices.items ≡ changed (with_unmerged l.index) 0 l.tree.tree l.node_indices.items;
  parents : All (IsParentNodeIndex l.tree.tree) l.node_indices.items;
  capacity : All (HasCapacity l.index 0 l.tree.tree) l.node_indices.items;
  same_before : before l.self l.tree.tree ≡ before l.fn.self l.fn.tree.tree;
  hashes : HasRightHashes l.fn.self l.fn.tree.tree → HasRightHashes l.self l.tree.tree;
}

abbrev pub decreases-loop-node_index : goal.decreases-loop-node_index
decreases-loop-node_index l = vec_len l.node_indices
