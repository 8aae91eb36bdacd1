use Rattle.std.proofs.Common.{◌≡◌, map, vec_len}
use Rattle.std.specs.Prelude.{All}
use Rattle.mls_tree.specs.Tree.{IsParentNodeIndex}
use Rattle.mls_tree.specs.Journals.{before}
use Rattle.mls_tree.specs.LoggedHashes.{HasRightHashes}
use Rattle.mls_apply.specs.PathParents.{changed}
use Rattle.mls_apply.specs.PathModel.{change_of}
use Rattle.mls_apply.proofs.new_parents.put_parents_in_place.Given as goal

abbrev pub invariant-loop-parent : goal.invariant-loop-parent
invariant-loop-parent l = record {
  left : changed 0 l.initial.tree.tree (map change_of l.initial.parents.items) ≡ changed 0 l.tree.tree (map change_of l.parents.items);
  parents : All (λ p. IsParentNodeIndex l.tree.tree p.node_index) l.parents.items;
  same_before : before l.journal l.tree.tree ≡ before l.initial.journal l.initial.tree.tree;
  hashes : HasRightHashes l.initial.journal l.initial.tree.tree → HasRightHashes l.journal l.tree.tree;
}

abbrev pub decreases-loop-parent : goal.decreases-loop-parent
decreases-loop-parent l = vec_len l.parents
