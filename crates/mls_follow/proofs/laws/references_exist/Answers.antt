use Rattle.mls_follow.proofs.Encoded.{reference_exists}
use Rattle.mls_follow.proofs.laws.references_exist.Goals as goal

pub returns : goal.returns
returns c = reference_exists
