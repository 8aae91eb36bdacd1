use Rattle.mls_report.proofs.SavedStates.{saved_resume, later_follow}
use Rattle.mls_report.proofs.laws.saved_states_resume.Goals as goal

pub returns : goal.returns
returns c = record { resume = saved_resume; later = later_follow }
