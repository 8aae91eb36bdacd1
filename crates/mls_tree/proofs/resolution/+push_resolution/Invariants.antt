use Rattle.mls_tree.proofs.resolution.+push_resolution.Given as goal

abbrev pub decreases-push_resolution : goal.decreases-push_resolution
decreases-push_resolution l = l.level
