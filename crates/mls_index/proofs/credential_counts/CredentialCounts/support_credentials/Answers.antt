use Rattle.std.proofs.Common.{sym, subst}
use Rattle.std.specs.Prelude.{IsTrue, ◌↔◌}
use Rattle.mls_index.specs.IncrementalCheck.{SupportCredentials}
use Rattle.mls_index.proofs.Supporting.{supporting}
use Rattle.mls_index.proofs.credential_counts.CredentialCounts.support_credentials.Goals as goal

pub returns : goal.returns
returns c = λ t h. subst (λ b. IsTrue b ↔ SupportCredentials t) (sym c.support_each_other.ensures) (supporting t c.args.self.now.classes.list.items h)
