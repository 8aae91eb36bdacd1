use Rattle.std.proofs.Common.{◌≡◌, ◌↔◌, ◌+◌, ◌*◌, length}
use Rattle.serde_json.specs.View.{items_view}
use Rattle.mls_tree.specs.RatchetTree.{RatchetTree}
use Rattle.mls_tree.specs.Tree.{leaf_count}
use Rattle.mls_vectors.specs.CheckModel.{relation}
use Rattle.mls_vectors.specs.TreeMath.{IsEntry}
use Rattle.mls_vectors.specs.VectorFile.{AreEntries}
use Rattle.mls_vectors.proofs.tree_math.are_entries.Given as goal

-- what is asked of all entries is asked of those that are left
abbrev pub invariant-loop-entry : goal.invariant-loop-entry
invariant-loop-entry l = record {
  left : l.node_index + length l.rest + 1 ≡ 2 * l.leaves;
  same : (t : RatchetTree) → leaf_count t.tree ≡ l.leaves
      → (AreEntries (IsEntry (relation l.column) t.tree) l.leaves 0 (items_view l.entries)
      ↔ AreEntries (IsEntry (relation l.column) t.tree) l.leaves l.node_index (items_view l.rest));
}

abbrev pub decreases-loop-entry : goal.decreases-loop-entry
decreases-loop-entry l = length l.rest
