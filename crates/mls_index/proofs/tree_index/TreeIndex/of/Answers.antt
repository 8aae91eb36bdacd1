use Rattle.mls_index.proofs.tree_index.TreeIndex.of.Goals as goal

pub returns : goal.returns
returns c = record { encryption = c.in_ok-encryption.ensures; signature = c.in_ok-signature.ensures; credentials = c.in_ok-credentials.ensures }
