use Rattle.std.proofs.Common.{ap}
use Rattle.mls_gate.specs.GateSteps.{phase_of}
use Rattle.mls_gate.proofs.Replying.{learnt-opening, learnt-following}
use Rattle.mls_gate.proofs.phase.GatePhase.learn.Goals as goal

pub returns-in-Ok-clause-answered : goal.returns-in-Ok-clause-answered
returns-in-Ok-clause-answered g c =
    learnt-opening _ _ _ _ _ _ (ap (phase_of g.C.SignatureCheck.meaning) c.in-Opening.is) c.in-Ok.ensures

pub returns-in-Ok-learn_in_follower-clause-answered : goal.returns-in-Ok-learn_in_follower-clause-answered
returns-in-Ok-learn_in_follower-clause-answered g c =
    learnt-following _ _ _ _ _ _ _ (ap (phase_of g.C.SignatureCheck.meaning) c.in-Following.is)
    c.in-Ok-learn_in_follower.ensures.learnt c.in-Ok-learn_in_follower.ensures.state
