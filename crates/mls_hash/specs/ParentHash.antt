-- The parent hash of a parent node (RFC 9420, 7.9). H is a hash function. Used by contracts.
use Rattle.std.specs.Prelude.{ℕ, ◌+◌, List, Option, Some, None, option_map, option_and_then}
use Rattle.mls_wire.specs.Encoding.{◌⊕◌, vector}
use Rattle.mls_nodes.specs.declared.parent.ParentNode.{ParentNode}
use Rattle.mls_tree.specs.Tree.{Tree, leaf, branch, leaf_count, subtree_at}
use Rattle.mls_hash.specs.declared.side.Side.{Side}
use Rattle.mls_hash.specs.declared.side.Side.TheVariants.{Left, Right}
use Rattle.mls_hash.specs.WithoutLeaves.{original_tree_hash}

-- `parent_hash_input p original` is the encoding of ParentHashInput: the parent's encryption key, its parent hash, and
-- the original tree hash of its child on the copath (RFC 9420, 7.9).
abbrev pub parent_hash_input : ParentNode → List ℕ → Option (List ℕ)
parent_hash_input p original = vector p.encryption_key ⊕ vector p.parent_hash ⊕ vector original

-- `parent_hash H p first sibling` is the parent hash of `p` whose child on the copath is `sibling`, a subtree whose
-- first leaf is `first`. That child is hashed without the unmerged leaves of `p` (RFC 9420, 7.9).
abbrev pub parent_hash : (List ℕ → List ℕ) → ParentNode → ℕ → Tree → Option (List ℕ)
parent_hash H p first sibling =
    option_and_then (λ original. option_map H (parent_hash_input p original)) (original_tree_hash H p.unmerged first sibling)

-- `root_parent_hash H side first t` is the parent hash of the root, if it is a non-blank parent, with its child on
-- `side` as the child on the copath.
abbrev pub root_parent_hash : (List ℕ → List ℕ) → Side → ℕ → Tree → Option (List ℕ)
root_parent_hash H side first (leaf _) = None
root_parent_hash H side first (branch l None r) = None
root_parent_hash H Left first (branch l (Some p) r) = parent_hash H p first l
root_parent_hash H Right first (branch l (Some p) r) = parent_hash H p (first + leaf_count l) r

-- `parent_hash_at H t node_index side` is the parent hash of the non-blank parent at a node index.
abbrev pub parent_hash_at : (List ℕ → List ℕ) → Tree → ℕ → Side → Option (List ℕ)
parent_hash_at H t node_index side = option_and_then (λ s. root_parent_hash H side s.first s.tree) (subtree_at 0 t node_index)

-- `root_parent t` is the parent node of the root, if the root is a non-blank parent.
abbrev pub root_parent : Tree → Option ParentNode
root_parent (leaf _) = None
root_parent (branch _ p _) = p

-- `parent_at t node_index` is the non-blank parent at a node index.
abbrev pub parent_at : Tree → ℕ → Option ParentNode
parent_at t node_index = option_and_then (λ s. root_parent s.tree) (subtree_at 0 t node_index)
