use Rattle.mls_signatures.proofs.FreshSignatures.{fresh_signatures_suffice}
use Rattle.mls_signatures.proofs.laws.fresh_signatures_suffice.Goals as goal

pub returns : goal.returns
returns c = record { fresh = fresh_signatures_suffice }
