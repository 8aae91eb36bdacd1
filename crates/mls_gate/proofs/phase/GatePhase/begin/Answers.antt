use Rattle.std.proofs.Common.{◌∙◌, Some, None, ap, sym, subst, false, true}
use Rattle.mls_gate.specs.GateSteps.{phase_of, IsReady}
use Rattle.mls_gate.specs.declared.request.Request.TheVariants.{Begin}
use Rattle.mls_gate.proofs.Answering.{begun, not-begun}
use Rattle.mls_gate.proofs.Replying.{replies-at, unopened}
use Rattle.mls_gate.proofs.phase.GatePhase.begin.Goals as goal

pub returns-in_default-clause-answered : goal.returns-in_default-clause-answered
returns-in_default-clause-answered g c rest =
    unopened g.C.SignatureCheck.meaning c.args.self.now (λ start judge e. c.in_default.not-Opening start judge (c.replace.ensures.value ∙ e)) rest

pub returns-in_ok-text-in-Ok-clause-answered : goal.returns-in_ok-text-in-Ok-clause-answered
returns-in_ok-text-in-Ok-clause-answered g c rest =
    let m = g.C.SignatureCheck.meaning in
    replies-at _ _ (ap (phase_of m) (sym c.replace.ensures.value ∙ c.in-Opening.is)) (Some Begin) rest _ _ false
    (begun _ _ _ _ _ _ c.in-Ok.ensures.first c.in_ok-text-in-Ok.ensures c.in-Ok.ensures.checker)

pub returns-in_ok-finding_line-in-Err-Found-clause-answered : goal.returns-in_ok-finding_line-in-Err-Found-clause-answered
returns-in_ok-finding_line-in-Err-Found-clause-answered g c rest =
    let m = g.C.SignatureCheck.meaning in
    let at = ap (phase_of m) (sym c.replace.ensures.value ∙ c.in-Opening.is) in
    let refused = rw c.in-Err-Found.field-0-is at c.in-Err-Found.ensures.refused in
    replies-at _ _ at (Some Begin) rest None _ true (not-begun _ _ _ _ _ None (subst IsReady at c.requires) refused (rw c.in-Err-Found.field-0-is at c.in_ok-finding_line-in-Err-Found.ensures))
