use Rattle.mls_signatures.proofs.commit_signatures.push_listed_leaf_signatures.Goals as goal

pub push_fresh_leaf_signatures-requires : goal.push_fresh_leaf_signatures-requires
push_fresh_leaf_signatures-requires c = rw c.in-Fresh.is at c.requires.packages
