use Rattle.mls_tree.proofs.blanks.+truncated_height.Given as goal

abbrev pub decreases-truncated_height : goal.decreases-truncated_height
decreases-truncated_height l = l.level
