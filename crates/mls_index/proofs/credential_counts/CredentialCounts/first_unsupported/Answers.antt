use Rattle.mls_index.proofs.Supporting.{lacking-first}
use Rattle.mls_index.proofs.credential_counts.CredentialCounts.first_unsupported.Goals as goal

pub returns-then-support_credentials : goal.returns-then-support_credentials
returns-then-support_credentials c = λ t h. (c.support_credentials.ensures t h).0 c.if-support_credentials.true

pub returns : goal.returns
returns c = λ t h. lacking-first t c.args.self.now.classes.list.items h c.first_lacking.result c.first_lacking.ensures
