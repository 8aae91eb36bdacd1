use Rattle.mls_index.proofs.credential_counts.CredentialCounts.of.Goals as goal

pub fill-requires : goal.fill-requires
fill-requires c = c.new-counts.ensures c.args.tree.now.tree
