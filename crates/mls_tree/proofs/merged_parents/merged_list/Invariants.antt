use Rattle.std.proofs.Common.{drop}
use Rattle.mls_tree.proofs.MergedLists.{IsMerging}
use Rattle.mls_tree.proofs.merged_parents.merged_list.Given as goal

abbrev pub invariant-loop-index : goal.invariant-loop-index
invariant-loop-index l = IsMerging l.list l.indices (drop l.index-index l.indices) l.merged.items l.rest
