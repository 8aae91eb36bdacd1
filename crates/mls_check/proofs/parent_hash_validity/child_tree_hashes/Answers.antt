use Rattle.mls_check.proofs.OwnLeaves.{own_leaves}
use Rattle.mls_check.proofs.SortedLists.{sorted_lists}
use Rattle.mls_check.proofs.parent_hash_validity.child_tree_hashes.Goals as goal

pub child_hashes-requires-clause-own_leaves : goal.child_hashes-requires-clause-own_leaves
child_hashes-requires-clause-own_leaves c = own_leaves c.args.tree.now.tree c.requires.consistent

pub child_hashes-requires-clause-sorted : goal.child_hashes-requires-clause-sorted
child_hashes-requires-clause-sorted c = sorted_lists c.args.tree.now.tree c.requires.sorted
