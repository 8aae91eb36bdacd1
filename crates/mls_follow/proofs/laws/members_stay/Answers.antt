use Rattle.mls_follow.proofs.SignatureAgreement.{members_stay}
use Rattle.mls_follow.proofs.laws.members_stay.Goals as goal

pub returns : goal.returns
returns c = record { members = members_stay }
