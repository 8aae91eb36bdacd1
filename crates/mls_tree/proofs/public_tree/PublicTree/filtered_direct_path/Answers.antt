use Rattle.mls_tree.proofs.public_tree.PublicTree.filtered_direct_path.Goals as goal

pub filtered_direct_path-requires : goal.filtered_direct_path-requires
filtered_direct_path-requires c = c.counts_in.ensures c.self.inside.tree.tree c.self.invariant.1
