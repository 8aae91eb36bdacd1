use Rattle.std.proofs.Common.{arith}
use Rattle.mls_tree.proofs.Numbers.{leaves_at-positive, leaves_at-low}
use Rattle.mls_tree.proofs.Trees.{subtree_at-none}
use Rattle.mls_tree.proofs.Coordinates.{HasLevel-below, IsNoSize-tree}
use Rattle.mls_tree.proofs.node_indices.level_inside.Goals as goal

pub overflow_mul-leaves : goal.overflow_mul-leaves
overflow_mul-leaves c = let e = c.in-Ok.ensures in omega (arith, leaves_at-low c.in-Ok.field-0 e.0)

pub overflow_sub-leaves : goal.overflow_sub-leaves
overflow_sub-leaves c = omega (arith, leaves_at-positive c.in-Ok.field-0, c.in-Ok.ensures)

pub returns-then-node_index-leaves : goal.returns-then-node_index-leaves
returns-then-node_index-leaves c =
    let e = c.in-Ok.ensures in
    rw c.trailing_ones.ensures (HasLevel-below c.args.node_index c.in-Ok.field-0 c.args.leaves e.0 e.1 (omega arith))

pub returns-else-node_index-leaves : goal.returns-else-node_index-leaves
returns-else-node_index-leaves c = λ t e. subtree_at-none 0 t.tree c.args.node_index (omega (arith, leaves_at-positive c.in-Ok.field-0, c.in-Ok.ensures))

pub returns-in-Err : goal.returns-in-Err
returns-in-Err c = λ t e. absurd (IsNoSize-tree c.in-Err.field-0 c.args.leaves c.in-Err.ensures t e)
