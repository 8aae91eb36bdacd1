use Rattle.mls_follow.specs.FollowerModel.{state_of}
use Rattle.mls_start.specs.Inputs.{inputs_of}
use Rattle.mls_start.proofs.FirstStates.{first_found}
use Rattle.mls_start.proofs.start_bytes.StartBytes.finding.Goals as goal

pub returns-in-Ok : goal.returns-in-Ok
returns-in-Ok g c =
    first_found (g.C.SignatureCheck.meaning c.args.checker) (inputs_of c.args.self) (state_of c.in-Ok.follower) c.started_by-finding.result
    c.in-Ok.ensures.first c.started_by-finding.ensures
