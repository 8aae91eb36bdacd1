use Rattle.std.proofs.Common.{ap}
use Rattle.mls_gate.specs.GateSteps.{phase_of}
use Rattle.mls_gate.proofs.Replying.{timed-opening, timed-following}
use Rattle.mls_gate.proofs.phase.GatePhase.set_time.Goals as goal

pub returns-in-Opening : goal.returns-in-Opening
returns-in-Opening g c rest =
    timed-opening _ _ _ c.args.seconds _ rest (ap (phase_of g.C.SignatureCheck.meaning) c.in-Opening.is)

pub returns-in-Following : goal.returns-in-Following
returns-in-Following g c rest =
    timed-following _ _ c.args.seconds _ _ rest (ap (phase_of g.C.SignatureCheck.meaning) c.in-Following.is)
