use Rattle.mls_tree.proofs.unmerged_leaves.+push_new_lists.Given as goal

abbrev pub decreases-push_new_lists : goal.decreases-push_new_lists
decreases-push_new_lists l = l.level
