use Rattle.mls_report.proofs.SignaturesOnce.{one_needed, one_signatures}
use Rattle.mls_report.proofs.laws.signatures_are_determined.Goals as goal

pub returns : goal.returns
returns c = record { messages = one_needed; report = one_signatures }
