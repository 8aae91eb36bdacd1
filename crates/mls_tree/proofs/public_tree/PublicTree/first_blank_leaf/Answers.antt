use Rattle.mls_tree.proofs.public_tree.PublicTree.first_blank_leaf.Goals as goal

pub first_blank_leaf-requires : goal.first_blank_leaf-requires
first_blank_leaf-requires c = c.counts_in.ensures c.self.inside.tree.tree c.self.invariant.1
