use Rattle.std.proofs.Common.{Some, false, ap, refl}
use Rattle.mls_gate.specs.GateSteps.{phase_of}
use Rattle.mls_gate.specs.declared.request.Request.TheVariants.{Process}
use Rattle.mls_gate.proofs.Answering.{judged}
use Rattle.mls_gate.proofs.Replying.{replies-at, unstarted}
use Rattle.mls_gate.proofs.phase.GatePhase.process.Goals as goal

pub returns-in_default-clause-answered : goal.returns-in_default-clause-answered
returns-in_default-clause-answered g c =
    unstarted g.C.SignatureCheck.meaning c.args.self.now c.in_default.not-Following (Some Process) c.args.message.now (λ i time G. refl)

pub returns-clause-answered : goal.returns-clause-answered
returns-clause-answered g c =
    replies-at _ _ (ap (phase_of g.C.SignatureCheck.meaning) c.in-Following.is) (Some Process) c.args.message.now _ _ false
    (judged _ _ _ _ _ _ c.in-Ok.answer _ c.in-Ok.ensures.answered c.in_ok-message_answer_line.ensures c.in-Ok.ensures.checker)
