use Rattle.mls_tree.proofs.unmerged_leaves.+put_lists.Given as goal

abbrev pub decreases-put_lists : goal.decreases-put_lists
decreases-put_lists l = l.level
