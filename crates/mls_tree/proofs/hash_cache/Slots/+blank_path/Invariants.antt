use Rattle.mls_tree.proofs.hash_cache.Slots.+blank_path.Given as goal

abbrev pub decreases-blank_path : goal.decreases-blank_path
decreases-blank_path l = l.level
