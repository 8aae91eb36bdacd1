-- What the implementation puts into the tree for the path of a commit (RFC 9420, 7.5). H is the hash function, t the
-- tree after the list. Internal: no public contract uses this.
use Rattle.std.specs.Prelude.{◌≡◌, ◌<◌, ℕ, List, All, map, Some, option_map}
use Rattle.mls_tree.specs.Tree.{Tree, leaf_count, IsParentNodeIndex}
use Rattle.mls_apply.specs.PathModel.{change_of}
use Rattle.mls_apply.specs.PathParents.{parents_of_path}
use Rattle.mls_apply.specs.PathRules.{node_keys}
use Rattle.mls_apply.specs.declared.committer_path.CommitterPath.{CommitterPath}
use Rattle.mls_apply.specs.declared.new_parents.NewNodes.{NewNodes}

-- `AreNewNodes H t p new` says that new are the leaf node and the parents that the path p puts into the tree
pub record AreNewNodes (H : List ℕ → List ℕ) (t : Tree) (p : CommitterPath) (new : NewNodes) : Type 0 where
  pub leaf : new.leaf ≡ p.path.now.leaf_node
  pub path_parents : option_map (λ r. r.changes) (parents_of_path H t p.leaf (node_keys p.path.now)) ≡ Some (map change_of new.parents.items)
  pub inside : p.leaf < leaf_count t
  pub parents : All (λ n. IsParentNodeIndex t n.node_index) new.parents.items
