-- The number of leaves of a tree, and which lists of nodes are trees (RFC 9420, 4.1 and Appendix C). The limit of 2 ^
-- 20 leaves is this library's own. Used by contracts.
use Rattle.std.specs.Prelude.{◌≡◌, ℕ, ◌+◌, ◌*◌, ◌^◌, ◌<◌, List, Option}
use Rattle.mls_nodes.specs.NodeModel.{NodeValue}
use Rattle.mls_tree.specs.Tree.{listing}
use Rattle.mls_tree.specs.RatchetTree.{RatchetTree}

-- `IsPowerOfTwo n`: some perfect tree has n leaves.
abbrev pub IsPowerOfTwo : ℕ → Type 0
IsPowerOfTwo n = (h : ℕ) × (n ≡ 2 ^ h)

-- `IsTooLong count`: a perfect tree with this many nodes has more than 2 ^ 20 leaves.
abbrev pub IsTooLong : ℕ → Type 0
IsTooLong count = (h : ℕ) × (20 < h) × (count + 1 ≡ 2 * 2 ^ h)

-- `IsListing xs`: the list is the nodes of some tree, in increasing order of node index.
abbrev pub IsListing : List (Option NodeValue) → Type 0
IsListing nodes = (t : RatchetTree) × (listing t.tree ≡ nodes)
