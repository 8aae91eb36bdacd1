use Rattle.mls_examine.proofs.Examining.{examinations_are_covered}
use Rattle.mls_examine.proofs.laws.examinations_are_covered.Goals as goal

pub returns : goal.returns
returns c = examinations_are_covered
