use Rattle.mls_follow.proofs.Resumed.{one_resumption, no_resume_fault, one_resume_fault}
use Rattle.mls_follow.proofs.laws.resumptions_are_determined.Goals as goal

pub returns : goal.returns
returns c = record { state = one_resumption; apart = no_resume_fault; fault = one_resume_fault }
