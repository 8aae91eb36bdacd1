use Rattle.mls_follow.proofs.MembersStates.{rules_decide, states_stay, members_start, members_resume}
use Rattle.mls_follow.proofs.laws.members_profile_stays.Goals as goal

pub returns : goal.returns
returns c = record { rules = rules_decide; states = states_stay; starts = members_start; resumes = members_resume }
