use Rattle.std.proofs.Common.{◌≡◌, ◌==◌, true, take}
use Rattle.std.specs.List.{list_all, list_any}
use Rattle.mls_check.proofs.Walks.{IsLeft, Among}
use Rattle.mls_check.proofs.sorted_leaf_lists.are_among.Given as goal

abbrev pub invariant-loop-leaf : goal.invariant-loop-leaf
invariant-loop-leaf l =
    IsLeft (Among l.leaves l.leaf-index) l.list l.rest × (list_all (λ i. list_any (λ x. x == i) l.list) (take l.leaf-index l.leaves) ≡ true)
