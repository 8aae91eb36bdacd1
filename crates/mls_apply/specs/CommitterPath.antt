-- The update path of a commit, in the tree after the proposal list (RFC 9420, 7.5, 7.6 and 7.9).
-- H is the hash function, t the tree after the list. Used by contracts.
use Rattle.std.specs.Prelude.{ℕ, List, Option}
use Rattle.mls_tree.specs.Tree.{Tree}
use Rattle.mls_apply.specs.AppliedList.{applied_tree}
use Rattle.mls_apply.specs.MergePath.{merged}
use Rattle.mls_apply.specs.PathRules.{node_keys, path_refusal}
use Rattle.mls_apply.specs.declared.committer_path.CommitterPath.{CommitterPath}
use Rattle.mls_apply.specs.declared.refusal.Refusal.{Refusal}

-- `committer_path_refusal H t p` is the refusal of the path p, if there is one
abbrev pub committer_path_refusal : (List ℕ → List ℕ) → Tree → CommitterPath → Option Refusal
committer_path_refusal H t p = path_refusal H (applied_tree t p.added.now) p.leaf p.path.now

-- `merged_by H t p` is the tree with the path p merged into it, if the path has a key for each of its nodes
abbrev pub merged_by : (List ℕ → List ℕ) → Tree → CommitterPath → Option Tree
merged_by H t p = merged H t p.leaf p.path.now.leaf_node (node_keys p.path.now)
