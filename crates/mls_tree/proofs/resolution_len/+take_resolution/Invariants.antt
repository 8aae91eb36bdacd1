use Rattle.mls_tree.proofs.resolution_len.+take_resolution.Given as goal

abbrev pub decreases-take_resolution : goal.decreases-take_resolution
decreases-take_resolution l = l.level
