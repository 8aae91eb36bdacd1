-- The model of a `PublicTree`: a ratchet tree, the kind of its hash cache, if it has one, and the slots of the cache.
-- Used by contracts.
use Rattle.std.specs.Prelude.{ℕ, List, Option}
use Rattle.mls_tree.specs.Tree.{Tree}
use Rattle.mls_tree.specs.RatchetTree.{RatchetTree, HasShape}
use Rattle.mls_tree.specs.declared.hash_kind.HashKind.{HashKind}

-- A ratchet tree with its hash cache.
pub record KeptTree : Type 0 where
  pub tree : Tree
  pub shape : HasShape tree
  pub kind : Option HashKind
  pub slots : List (Option (List ℕ))

-- `plain t` is the ratchet tree without the cache.
abbrev pub plain : KeptTree → RatchetTree
plain t = record { tree = t.tree; shape = t.shape }
