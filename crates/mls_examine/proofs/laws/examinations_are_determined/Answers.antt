use Rattle.mls_examine.proofs.Examining.{examination_exists, examined_is_not_unfit, examined_is_unique, unfit_is_unique}
use Rattle.mls_examine.proofs.laws.examinations_are_determined.Goals as goal

pub returns : goal.returns
returns c = record { some = examination_exists; apart = examined_is_not_unfit; facts = examined_is_unique; one = unfit_is_unique }
