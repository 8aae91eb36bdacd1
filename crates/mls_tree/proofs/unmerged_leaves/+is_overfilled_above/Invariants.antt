use Rattle.mls_tree.proofs.unmerged_leaves.+is_overfilled_above.Given as goal

abbrev pub decreases-is_overfilled_above : goal.decreases-is_overfilled_above
decreases-is_overfilled_above l = l.level
