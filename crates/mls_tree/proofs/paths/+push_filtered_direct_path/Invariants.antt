use Rattle.mls_tree.proofs.paths.+push_filtered_direct_path.Given as goal

abbrev pub decreases-push_filtered_direct_path : goal.decreases-push_filtered_direct_path
decreases-push_filtered_direct_path l = l.level
