use Rattle.mls_tree.proofs.logged_hashes.+log_from.Given as goal

abbrev pub decreases-log_from : goal.decreases-log_from
decreases-log_from l = l.level
