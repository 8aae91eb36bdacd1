use Rattle.mls_follow.proofs.ResumptionAgreement.{decide_resumptions}
use Rattle.mls_follow.proofs.laws.signatures_determine_resumption.Goals as goal

pub returns : goal.returns
returns c = decide_resumptions
