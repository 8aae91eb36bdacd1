-- Past the last place of a tree.
use Rattle.std.proofs.Common.{ℕ, ◌+◌, ◌*◌, ◌≤◌, None, ◌≡◌, arith}
use Rattle.mls_tree.specs.Tree.{Tree, subtree_at, leaf_count}
use Rattle.mls_tree.proofs.Trees.{subtree_at-none}

-- there is no subtree
pub outside_above : (t : Tree) (p n : ℕ) → n + 1 ≡ 2 * leaf_count t → n ≤ p → subtree_at 0 t p ≡ None
outside_above t p n e l = subtree_at-none 0 t p (omega arith)
