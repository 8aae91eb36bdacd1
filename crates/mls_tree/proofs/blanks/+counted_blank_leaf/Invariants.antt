use Rattle.mls_tree.proofs.blanks.+counted_blank_leaf.Given as goal

abbrev pub decreases-counted_blank_leaf : goal.decreases-counted_blank_leaf
decreases-counted_blank_leaf l = l.level
