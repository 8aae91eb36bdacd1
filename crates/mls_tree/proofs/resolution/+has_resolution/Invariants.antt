use Rattle.mls_tree.proofs.resolution.+has_resolution.Given as goal

abbrev pub decreases-has_resolution : goal.decreases-has_resolution
decreases-has_resolution l = l.level
