use Rattle.mls_tree.proofs.blanks.+blank_above.Given as goal

abbrev pub decreases-blank_above : goal.decreases-blank_above
decreases-blank_above l = l.level
