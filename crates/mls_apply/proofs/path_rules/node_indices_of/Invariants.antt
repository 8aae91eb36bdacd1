use Rattle.std.proofs.Common.{◌≡◌, ℕ, ◌*◌, take}
use Rattle.std.specs.Prelude.{◌==◌}
use Rattle.std.specs.BTreeSet.{contains}
use Rattle.std.specs.List.{list_any}
use Rattle.std.specs.Ordering.{nat_cmp}
use Rattle.mls_apply.proofs.path_rules.node_indices_of.Given as goal

abbrev pub invariant-loop-leaf : goal.invariant-loop-leaf
invariant-loop-leaf l = (p : ℕ) → contains nat_cmp l.node_indices p ≡ list_any (λ j. p == 2 * j) (take l.leaf-index l.added)
