use Rattle.mls_examine.proofs.OneAddCommits.{addable_is_acceptable, unaddable_is_refused, unsigned_is_refused}
use Rattle.mls_examine.proofs.laws.addable_is_acceptable.Goals as goal

pub returns : goal.returns
returns c = record { acceptable = addable_is_acceptable; refused = unaddable_is_refused; unsigned = unsigned_is_refused }
