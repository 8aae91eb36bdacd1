use Rattle.std.proofs.Common.{arith}
use Rattle.mls_tree.specs.PublicTreeModel.{plain}
use Rattle.mls_tree.specs.RatchetTree.{RatchetTree}
use Rattle.mls_tree.specs.Tree.{leaf_count}
use Rattle.mls_vectors.specs.TreeValidation.{IsResolution}
use Rattle.mls_vectors.proofs.Columns.{leaves_low}
use Rattle.mls_vectors.proofs.Entries.{AreEntries-length}
use Rattle.mls_vectors.proofs.tree_validation.are_resolutions.Goals as goal

pub returns-then-entries-leaf_count : goal.returns-then-entries-leaf_count
returns-then-entries-leaf_count c =
    let tree : RatchetTree = plain c.args.tree.now in (
      λ h. cc,
      λ h. absurd (omega (arith, AreEntries-length (IsResolution tree.tree) (leaf_count tree.tree) 0 c.args.entries.now h, c.leaf_count.ensures, c.if-entries-leaf_count.true)),
    )

pub overflow_add-node_index : goal.overflow_add-node_index
overflow_add-node_index c = omega (arith, c.loop-entry.invariant.left, leaves_low (plain c.args.tree.now))
