use Rattle.std.proofs.Common.{arith, length, ap, sym}
use Rattle.mls_nodes.proofs.SortedLists.{OnTrue-is_sorted}
use Rattle.mls_nodes.proofs.unmerged.UnmergedDecode.read.Goals as goal

pub invariant_of-result : goal.invariant_of-result
invariant_of-result c = (
  omega (arith, ap length c.as_slice.ensures.items),
  OnTrue-is_sorted c.as_slice-2.result.now c.in_ok-leaves.leaves _ (sym c.as_slice-2.ensures.items) c.is_sorted-is_sorted.ensures.cases,
)
