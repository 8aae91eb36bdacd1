use Rattle.std.proofs.Common.{Some, Ok, ap, sym, refl, ◌∙◌, drop}
use Rattle.mls_gate.specs.GateSteps.{phase_of}
use Rattle.mls_gate.specs.declared.request.Request.{Request}
use Rattle.mls_gate.specs.declared.request.Request.TheVariants.{Learn, Begin, Query, Process, Time, Store}
use Rattle.mls_gate.proofs.Replying.{all-behind, behind-letter, gives-behind, stops-answering, broken-body}
use Rattle.mls_gate.proofs.QueryReplies.{record-answered}
use Rattle.mls_gate.proofs.phase.GatePhase.answer.Goals as goal

pub returns-in-None-clause-answered : goal.returns-in-None-clause-answered
returns-in-None-clause-answered g c =
    gives-behind _ _ _ _ (broken-body (phase_of g.C.SignatureCheck.meaning c.args.self.now) c.args.body.now (sym c.request_of.ensures ∙ c.in-None.is))

pub returns-in-Some-Learn-clause-answered : goal.returns-in-Some-Learn-clause-answered
returns-in-Some-Learn-clause-answered g c =
    let is = sym c.request_of.ensures ∙ c.in-Some-Learn.is ∙ ap (λ (x : Request). Some x) c.in-Some-Learn.field-0-is in
    all-behind _ c.args.body.now _ (behind-letter c.args.body.now) (Some Learn) is _ c.learn.result _ c.learn.ensures.answered

pub returns-in-Some-Begin-clause-answered : goal.returns-in-Some-Begin-clause-answered
returns-in-Some-Begin-clause-answered g c =
    let is = sym c.request_of.ensures ∙ c.in-Some-Begin.is ∙ ap (λ (x : Request). Some x) c.in-Some-Begin.field-0-is in
    all-behind _ c.args.body.now (drop 1 c.args.body.now) refl (Some Begin) is _ c.begin.result _ (c.begin.ensures.answered (drop 1 c.args.body.now))

pub returns-in-Some-Query-clause-answered : goal.returns-in-Some-Query-clause-answered
returns-in-Some-Query-clause-answered g c =
    let is = sym c.request_of.ensures ∙ c.in-Some-Query.is ∙ ap (λ (x : Request). Some x) c.in-Some-Query.field-0-is in
    record-answered _ c.args.body.now _ (behind-letter c.args.body.now) (Some Query) is _ c.query.result _ _ c.query.ensures.answered

pub returns-in-Some-Query-clause-effect_on_error : goal.returns-in-Some-Query-clause-effect_on_error
returns-in-Some-Query-clause-effect_on_error g c =
    let is = sym c.request_of.ensures ∙ c.in-Some-Query.is ∙ ap (λ (x : Request). Some x) c.in-Some-Query.field-0-is in
    stops-answering _ c.args.body.now _ (behind-letter c.args.body.now) (Some Query) is _ c.query.result _ _ c.query.ensures.effect_on_error

pub returns-in-Some-Process-clause-answered : goal.returns-in-Some-Process-clause-answered
returns-in-Some-Process-clause-answered g c =
    let is = sym c.request_of.ensures ∙ c.in-Some-Process.is ∙ ap (λ (x : Request). Some x) c.in-Some-Process.field-0-is in
    all-behind _ c.args.body.now _ (behind-letter c.args.body.now) (Some Process) is _ c.process.result _ c.process.ensures.answered

pub returns-in-Some-Time-clause-answered : goal.returns-in-Some-Time-clause-answered
returns-in-Some-Time-clause-answered g c =
    let is = sym c.request_of.ensures ∙ c.in-Some-Time.is ∙ ap (λ (x : Request). Some x) c.in-Some-Time.field-0-is in
    all-behind _ c.args.body.now (drop 1 c.args.body.now) refl (Some (Time _)) is _ (Ok c.set_time.result) _ (c.set_time.ensures (drop 1 c.args.body.now))

pub returns-in-Some-Store-clause-answered : goal.returns-in-Some-Store-clause-answered
returns-in-Some-Store-clause-answered g c =
    let is = sym c.request_of.ensures ∙ c.in-Some-Store.is ∙ ap (λ (x : Request). Some x) c.in-Some-Store.field-0-is in
    all-behind _ c.args.body.now (drop 1 c.args.body.now) refl (Some Store) is _ c.store.result _ (c.store.ensures.answered (drop 1 c.args.body.now))
