use Rattle.std.proofs.Common.{rules, Some, ap, refl}
use Rattle.mls_show.proofs.Outcomes.{IfErr-is}
use Rattle.mls_gate.specs.GateSteps.{phase_of}
use Rattle.mls_gate.specs.declared.request.Request.TheVariants.{Query}
use Rattle.mls_gate.proofs.Querying.{queried-behind, stops-querying}
use Rattle.mls_gate.proofs.Replying.{gives-behind, unstarted}
use Rattle.mls_gate.proofs.phase.GatePhase.query.Goals as goal

pub returns-in_default-clause-answered : goal.returns-in_default-clause-answered
returns-in_default-clause-answered g c =
    gives-behind _ _ _ _ (unstarted g.C.SignatureCheck.meaning c.args.self.now c.in_default.not-Following (Some Query) c.args.message.now (λ i time G. refl))

pub returns-clause-answered : goal.returns-clause-answered
returns-clause-answered g c =
    let m = g.C.SignatureCheck.meaning in
    queried-behind _ _ _ _ _ _ _ _ _ _ _ _ (ap (phase_of m) c.in-Following.is) c.in-Ok.ensures.signatures (c.of_list-left.ensures _) (ap m c.checker.ensures)
    (ap m c.in-Ok.ensures.checker) c.in-Ok.ensures.state c.in_ok-write_query.ensures.all

pub returns-in_err-write_query-clause-effect_on_error : goal.returns-in_err-write_query-clause-effect_on_error
returns-in_err-write_query-clause-effect_on_error g c =
    let m = g.C.SignatureCheck.meaning in
    IfErr-is c.from_residual.result _ c.in_err-write_query.field-0.0 (search rules)
    (stops-querying _ _ _ _ _ _ _ _ _ _ _ _ (ap (phase_of m) c.in-Following.is) c.in-Ok.ensures.signatures (c.of_list-left.ensures _) (ap m c.checker.ensures)
    (ap m c.in-Ok.ensures.checker) c.in-Ok.ensures.state c.in_err-write_query.field-0.0 c.in_err-write_query.ensures.effect_on_error)
