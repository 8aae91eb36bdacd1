use Rattle.mls_examine.proofs.Examining.{examinations_stay}
use Rattle.mls_examine.proofs.laws.examinations_stay.Goals as goal

pub returns : goal.returns
returns c = examinations_stay
