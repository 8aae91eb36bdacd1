use Rattle.mls_wire.proofs.LogLaws.{meets_once}
use Rattle.mls_wire.proofs.laws.logs.Goals as goal

pub returns : goal.returns
returns c = meets_once
