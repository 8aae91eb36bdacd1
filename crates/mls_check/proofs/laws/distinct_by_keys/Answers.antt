use Rattle.mls_check.proofs.Distinctness.{distinct-by_keys}
use Rattle.mls_check.proofs.laws.distinct_by_keys.Goals as goal

pub returns : goal.returns
returns c = distinct-by_keys
