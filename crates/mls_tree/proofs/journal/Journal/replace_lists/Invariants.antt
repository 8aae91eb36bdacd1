use Rattle.std.proofs.Common.{◌≡◌, vec_len, map}
use Rattle.std.specs.Prelude.{All}
use Rattle.mls_tree.specs.Tree.{leaf_count}
use Rattle.mls_tree.specs.Journals.{before}
use Rattle.mls_tree.specs.LoggedHashes.{HasRightHashes}
use Rattle.mls_tree.specs.MergedLists.{replacement}
use Rattle.mls_tree.proofs.MergedParents.{all_put, IsPutWithin}
use Rattle.mls_tree.proofs.journal.Journal.replace_lists.Given as goal

abbrev pub invariant-loop-new : goal.invariant-loop-new
invariant-loop-new l = record {
  left : all_put 0 l.fn.tree.tree (map replacement l.initial.parents.items) ≡ all_put 0 l.tree.tree (map replacement l.parents.items);
  within : All (IsPutWithin 0 (leaf_count l.tree.tree)) (map replacement l.parents.items);
  same_before : before l.self l.tree.tree ≡ before l.fn.self l.fn.tree.tree;
  hashes : HasRightHashes l.fn.self l.fn.tree.tree → HasRightHashes l.self l.tree.tree;
}

abbrev pub decreases-loop-new : goal.decreases-loop-new
decreases-loop-new l = vec_len l.parents
