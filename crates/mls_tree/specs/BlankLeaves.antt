-- The first blank leaf of a tree (RFC 9420, 12.1.1). `first` is the index of the tree's first leaf. Used by contracts.
use Rattle.std.specs.Prelude.{◌≡◌, ℕ, ◌+◌, ◌<◌, nat_lt, if◌then◌else◌, Option, Some, None, IsSome}
use Rattle.mls_tree.specs.Tree.{Tree, leaf, branch, leaf_count, leaf_at}

-- `first_of a b` is `a`, or `b` if `a` is `None`.
abbrev pub first_of : Option ℕ → Option ℕ → Option ℕ
first_of None b = b
first_of (Some i) b = Some i

-- `first_blank_leaf first t` is the index of the leftmost blank leaf (RFC 9420, 12.1.1).
abbrev pub first_blank_leaf : ℕ → Tree → Option ℕ
first_blank_leaf first (leaf None) = Some first
first_blank_leaf first (leaf (Some _)) = None
first_blank_leaf first (branch l _ r) = first_of (first_blank_leaf first l) (first_blank_leaf (first + leaf_count l) r)

-- `next_blank_leaf start first t` is the index of the leftmost blank leaf whose index is not below `start`.
abbrev pub next_blank_leaf : ℕ → ℕ → Tree → Option ℕ
next_blank_leaf start first (leaf None) = if nat_lt first start then None else Some first
next_blank_leaf start first (leaf (Some _)) = None
next_blank_leaf start first (branch l _ r) = first_of (next_blank_leaf start first l) (next_blank_leaf start (first + leaf_count l) r)

-- `IsFirstBlank t j`: leaf j is blank, and each one before it is non-blank.
pub record IsFirstBlank (t : Tree) (j : ℕ) : Type 0 where
  pub inside : j < leaf_count t
  pub blank : leaf_at 0 t j ≡ None
  pub earlier : (i : ℕ) → i < j → IsSome (leaf_at 0 t i)

-- `AreNonBlankBelow t last`: each leaf whose index is below `last` is non-blank.
abbrev pub AreNonBlankBelow : Tree → ℕ → Type 0
AreNonBlankBelow t last = (i : ℕ) → i < last → IsSome (leaf_at 0 t i)

-- `AllLeavesNonBlank t`: no leaf is blank.
abbrev pub AllLeavesNonBlank : Tree → Type 0
AllLeavesNonBlank t = (i : ℕ) → i < leaf_count t → IsSome (leaf_at 0 t i)
