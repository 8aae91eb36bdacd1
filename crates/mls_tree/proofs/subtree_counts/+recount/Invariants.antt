use Rattle.mls_tree.proofs.subtree_counts.+recount.Given as goal

abbrev pub decreases-recount : goal.decreases-recount
decreases-recount l = l.level
