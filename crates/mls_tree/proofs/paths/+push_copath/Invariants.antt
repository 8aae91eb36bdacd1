use Rattle.mls_tree.proofs.paths.+push_copath.Given as goal

abbrev pub decreases-push_copath : goal.decreases-push_copath
decreases-push_copath l = l.level
