use Rattle.std.proofs.Common.{◌≡◌, ◌++◌, drop}
use Rattle.std.specs.BTreeSet.{contains}
use Rattle.std.specs.Ordering.{nat_cmp}
use Rattle.std.specs.Prelude.{filter}
use Rattle.mls_signatures.proofs.fresh_leaf_signatures.push_contained.Given as goal

abbrev pub invariant-loop-index : goal.invariant-loop-index
invariant-loop-index l =
    l.kept.items ++ filter (contains nat_cmp l.others) (drop l.index-index l.places)
    ≡ l.initial.kept.items ++ filter (contains nat_cmp l.others) l.places
