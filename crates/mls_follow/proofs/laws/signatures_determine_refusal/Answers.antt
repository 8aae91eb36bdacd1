use Rattle.mls_follow.proofs.MessageAgreement.{decide_refusals}
use Rattle.mls_follow.proofs.laws.signatures_determine_refusal.Goals as goal

pub returns : goal.returns
returns c = record { refusals = decide_refusals }
