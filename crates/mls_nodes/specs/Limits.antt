-- Limits of a ratchet tree. Used by contracts.
use Rattle.std.specs.Prelude.{ℕ}

-- The most leaves of a tree, 2 ^ 20: a limit of this library.
abbrev pub leaf_limit : ℕ
leaf_limit = 1048576

-- The most nodes of a tree: the leaves and the parents of a tree with that many leaves.
abbrev pub entry_limit : ℕ
entry_limit = 2097151
