-- Ratchet trees: perfect trees of at most 2 ^ 20 leaves (RFC 9420, 4.1.1). The limit is this library's own. Used by
-- contracts.
use Rattle.std.specs.Prelude.{◌≤◌}
use Rattle.mls_tree.specs.Tree.{Tree, height, IsPerfect}

-- `HasShape t`: the tree is perfect, and has at most 2 ^ 20 leaves.
pub record HasShape (t : Tree) : Type 0 where
  pub perfect : IsPerfect t
  pub low : height t ≤ 20

-- A tree of that shape.
pub record RatchetTree : Type 0 where
  pub tree : Tree
  pub shape : HasShape tree
