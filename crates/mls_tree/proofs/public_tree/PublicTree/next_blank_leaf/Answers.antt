use Rattle.mls_tree.proofs.public_tree.PublicTree.next_blank_leaf.Goals as goal

pub next_blank_leaf-requires : goal.next_blank_leaf-requires
next_blank_leaf-requires c = c.counts_in.ensures c.self.inside.tree.tree c.self.invariant.1
