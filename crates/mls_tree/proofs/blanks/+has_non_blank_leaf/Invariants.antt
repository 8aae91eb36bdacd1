use Rattle.mls_tree.proofs.blanks.+has_non_blank_leaf.Given as goal

abbrev pub decreases-has_non_blank_leaf : goal.decreases-has_non_blank_leaf
decreases-has_non_blank_leaf l = l.level
