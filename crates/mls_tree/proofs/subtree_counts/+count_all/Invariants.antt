use Rattle.mls_tree.proofs.subtree_counts.+count_all.Given as goal

abbrev pub decreases-count_all : goal.decreases-count_all
decreases-count_all l = l.level
