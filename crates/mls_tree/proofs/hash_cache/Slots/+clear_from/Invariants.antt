use Rattle.mls_tree.proofs.hash_cache.Slots.+clear_from.Given as goal

abbrev pub decreases-clear_from : goal.decreases-clear_from
decreases-clear_from l = l.level
