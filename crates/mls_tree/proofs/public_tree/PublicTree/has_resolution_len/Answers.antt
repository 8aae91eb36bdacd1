use Rattle.mls_tree.proofs.public_tree.PublicTree.has_resolution_len.Goals as goal

pub has_resolution_len-requires : goal.has_resolution_len-requires
has_resolution_len-requires c = c.counts_in.ensures c.self.inside.tree.tree c.self.invariant.1
