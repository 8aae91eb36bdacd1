use Rattle.std.proofs.Common.{arith}
use Rattle.mls_nodes.proofs.SortedLists.{OnTrue-inserted}
use Rattle.mls_nodes.proofs.unmerged.is_between.Goals as goal
use Rattle.mls_nodes.proofs.unmerged.is_between.Goals.{else-index-gt0-via-then-index-gt0+else-leaves-index, else-index-gt0-via-else-index-gt0}

pub returns-else-index-leaves : goal.returns-else-index-leaves
returns-else-index-leaves c =
    OnTrue-inserted c.args.leaves.now c.args.index c.args.leaf (omega (arith, c.requires, c.if-index-leaves.false))
    (λ l. elim c.else-index-gt0.branch [
      | else-index-gt0-via-then-index-gt0+else-leaves-index w ↦ omega (arith, w.if-leaves-index)
      | else-index-gt0-via-else-index-gt0 w ↦ absurd (omega (arith, w.if-index-gt0, l))
    ])
