use Rattle.mls_follow.proofs.AcceptancesStay.{acceptance_stays, start_stays}
use Rattle.mls_follow.proofs.laws.acceptances_stay.Goals as goal

pub returns : goal.returns
returns c = record { acceptances = acceptance_stays; starts = start_stays }
