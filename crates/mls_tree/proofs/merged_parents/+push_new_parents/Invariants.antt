use Rattle.mls_tree.proofs.merged_parents.+push_new_parents.Given as goal

abbrev pub decreases-push_new_parents : goal.decreases-push_new_parents
decreases-push_new_parents l = l.level
