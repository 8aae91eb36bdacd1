-- Levels of node indices as numbers, and node indices outside a tree (RFC 9420, Appendix C). Internal: no public
-- contract uses this.
use Rattle.std.specs.Prelude.{◌≡◌, ℕ, ◌+◌, ◌*◌, ◌<◌, ◌≤◌, None}
use Rattle.mls_tree.specs.RatchetTree.{RatchetTree}
use Rattle.mls_tree.specs.Tree.{leaf_count, subtree_at}
use Rattle.mls_tree.specs.TreeInternal.{leaves_at}

-- `HasLevel p n k`: node index p has level k, in a tree of n leaves (RFC 9420, Appendix C).
pub record HasLevel (p n k : ℕ) : Type 0 where
  pub height : ℕ
  pub low : height ≤ 20
  pub count : n ≡ leaves_at height
  pub number : ℕ
  pub within : p + 1 < 2 * n
  pub under : k ≤ height
  pub node_index : p + 1 ≡ (2 * number + 1) * leaves_at k

-- `IsOutside p n`: no tree of n leaves has node index p.
abbrev pub IsOutside : ℕ → ℕ → Type 0
IsOutside p n = (t : RatchetTree) → leaf_count t.tree ≡ n → subtree_at 0 t.tree p ≡ None
