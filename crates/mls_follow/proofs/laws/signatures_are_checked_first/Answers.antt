use Rattle.mls_follow.proofs.ReportedFirst.{unsigned_first, known_next}
use Rattle.mls_follow.proofs.laws.signatures_are_checked_first.Goals as goal

pub returns : goal.returns
returns c = record { unsigned = unsigned_first; known = known_next }
