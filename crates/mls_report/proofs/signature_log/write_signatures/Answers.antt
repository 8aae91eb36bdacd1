use Rattle.std.proofs.Common.{rules, arith, Some, None, Err, refl, subst, inr, List}
use Rattle.std.specs.Io.KnownBytes.{Appends}
use Rattle.mls_signatures.specs.declared.signature_to_verify.SignatureToVerify.{SignatureToVerify}
use Rattle.mls_follow.specs.CoveredLogs.{all_good}
use Rattle.mls_follow.specs.FollowerModel.{state_of}
use Rattle.mls_follow.specs.TimedAnswers.{IsAnswerAt}
use Rattle.mls_follow.specs.State.{State}
use Rattle.mls_report.specs.SignaturesReport.{needed_lines}
use Rattle.mls_report.specs.SignaturesSteps.{StopsInLines}
use Rattle.mls_report.proofs.Answered.{answered}
use Rattle.mls_report.proofs.SignatureLogs.{line-of-message, lines-of-message}
use Rattle.mls_show.proofs.Outcomes.{IfErr-is}
use Rattle.mls_report.proofs.signature_log.write_signatures.Goals as goal

pub returns-clause-printed : goal.returns-clause-printed
returns-clause-printed g c =
    let R = g.R.SignatureCheck.meaning c.args.receipts.now in
    let list = c.of_list-left.ensures (state_of c.take_at-answer.new.self) in
    record {
      needed = Some c.in-Some.list;
      has_signatures = rw c.in-Some.is at c.in_ok-needed.ensures.needed;
      answer = c.take_at-answer.result;
      is_answer = subst (λ (s : State). IsAnswerAt None all_good s c.args.body.now c.take_at-answer.result (state_of c.take_at-answer.new.self))
          c.in_ok-needed.ensures.state (let t = c.take_at-answer.ensures in answered _ _ _ _ c.take_at-answer.result _ t.accepted t.next t.refused t.unchanged_on_error (first_of (search rules, grind arith)));
      wrote = subst (λ (ws : List SignatureToVerify). Appends (g.K.Sink.device c.args.out.now).bytes (g.K.Sink.device c.write_signature_lines-written.new.out).bytes (needed_lines R ws)) list c.in_ok-written.ensures.all;
      read = refl;
    }

pub returns-in_err-written-clause-effect_on_error : goal.returns-in_err-written-clause-effect_on_error
returns-in_err-written-clause-effect_on_error g c =
    let R = g.R.SignatureCheck.meaning c.args.receipts.now in
    let list = c.of_list-left.ensures (state_of c.take_at-answer.new.self) in
    let e = c.in_err-written.field-0.0 in
    IfErr-is c.from_residual-in_err-written.result _ e (search rules) (inr (record {
      needed = Some c.in-Some.list;
      has_signatures = rw c.in-Some.is at c.in_ok-needed.ensures.needed;
      answer = c.take_at-answer.result;
      new = state_of c.take_at-answer.new.self;
      is_answer = subst (λ (s : State). IsAnswerAt None all_good s c.args.body.now c.take_at-answer.result (state_of c.take_at-answer.new.self))
          c.in_ok-needed.ensures.state (let t = c.take_at-answer.ensures in answered _ _ _ _ c.take_at-answer.result _ t.accepted t.next t.refused t.unchanged_on_error (first_of (search rules, grind arith)));
      stops = lines-of-message R c.args.n c.in-Some.list _ _ e
          (subst (λ (ws : List SignatureToVerify). StopsInLines (needed_lines R) ws (g.K.Sink.device c.args.out.now).bytes (g.K.Sink.device c.write_signature_lines-written.new.out).bytes e) list c.in_err-written.ensures.effect_on_error);
    }))

pub returns-in_err-write_malformed_line-clause-effect_on_error : goal.returns-in_err-write_malformed_line-clause-effect_on_error
returns-in_err-write_malformed_line-clause-effect_on_error g c =
    let R = g.R.SignatureCheck.meaning c.args.receipts.now in
    let e = c.in_err-write_malformed_line.field-0.0 in
    let stops = c.in_err-write_malformed_line.ensures in
    IfErr-is c.from_residual-in_err-write_malformed_line.result _ e (search rules) (inr (record {
      needed = None;
      has_signatures = rw c.in_default-needed.is at c.in_ok-needed.ensures.needed;
      answer = c.take_at-answer.result;
      new = state_of c.take_at-answer.new.self;
      is_answer = subst (λ (s : State). IsAnswerAt None all_good s c.args.body.now c.take_at-answer.result (state_of c.take_at-answer.new.self))
          c.in_ok-needed.ensures.state (let t = c.take_at-answer.ensures in answered _ _ _ _ c.take_at-answer.result _ t.accepted t.next t.refused t.unchanged_on_error (first_of (search rules, grind arith)));
      stops = line-of-message (Err e) R c.args.n _ _ stops.effect_on_error stops.memory stops.fault;
    }))
