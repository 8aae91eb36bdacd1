use Rattle.std.proofs.Common.{rules, arith, ◌≡◌, ◌+◌, ◌<◌, ◌++◌, ◌∷◌, [], length, length-append, ap, refl, false}
use Rattle.std.proofs.lemmas.Result.{IfOk-weaker}
use Rattle.mls_wire.specs.Logs.{LogState}
use Rattle.mls_follow.specs.FollowerModel.{state_of}
use Rattle.mls_report.specs.Replay.{message_limit}
use Rattle.mls_report.specs.SignaturesReport.{LoggedMessage}
use Rattle.mls_report.proofs.SignatureLogs.{so_far-none, so_far-snoc, read-more, part-turn, printed-break, in-break, before-break}
use Rattle.mls_show.proofs.Outcomes.{IfErr-is}
use Rattle.mls_report.proofs.Replaying.{line-part}
use Rattle.mls_report.proofs.signature_log.write_signature_log.Goals as goal

pub messages-init : goal.messages-init
messages-init g c =
    let most : c.new-reader.result.most ≡ message_limit = ap (λ (r : LogState). r.most) c.new-reader.ensures in
    let going : c.new-reader.result.is_over ≡ false = ap (λ (r : LogState). r.is_over) c.new-reader.ensures in
    (([], so_far-none _ _ _ _, omega arith, omega arith, refl), going, c.requires.log, c.requires.out)

pub returns-in_err-readable-in-Record-clause-effect_on_error : goal.returns-in_err-readable-in-Record-clause-effect_on_error
returns-in_err-readable-in-Record-clause-effect_on_error g c =
    let so_far = c.messages.invariant.0 in
    let step = rw c.in-Record.is at c.in_ok-next_record.ensures.step in
    let below : length so_far.0 < message_limit = omega (arith, so_far.3, step.0) in
    let stops = rw c.body.ensures at c.in_err-readable-in-Record.ensures.effect_on_error in
    IfErr-is c.from_residual-in_err-readable-in-Record.result _ c.in_err-readable-in-Record.field-0.0 (search rules)
    (part-turn _ _ _ _ _ _ _ so_far.0 (state_of c.messages.follower) c.messages.n c.next_record.new.reader.body step.2 so_far.1 so_far.2 below step.4 step.3 _
    c.in_err-readable-in-Record.field-0.0 stops)

pub messages-preserved : goal.messages-preserved
messages-preserved g c =
    let so_far = c.messages.invariant.0 in
    let step = rw c.in-Record.is at c.in_ok-next_record.ensures.step in
    let below : length so_far.0 < message_limit = omega (arith, so_far.3, step.0) in
    let printed = rw c.body.ensures at c.in_ok-readable-in-Record.ensures.printed in
    let a : LoggedMessage = record {
      turn = record { bytes = c.next_record.new.reader.body; answer = printed.answer; state = state_of c.write_signatures.new.follower };
      needed = printed.needed;
    } in
    let more = so_far-snoc _ _ _ _ _ _ _ so_far.0 (state_of c.messages.follower) c.messages.n c.next_record.new.reader.body step.2 so_far.1 so_far.2 below step.4 step.3 _ (state_of c.write_signatures.new.follower) c.in_ok-readable-in-Record.readable printed in
    let size : length (so_far.0 ++ a ∷ []) ≡ length so_far.0 + 1 = length-append so_far.0 (a ∷ []) in
    let read = read-more so_far.0 a c.messages.is_read c.in_ok-readable-in-Record.readable so_far.4 printed.read in (
      (so_far.0 ++ a ∷ [], more, omega (arith, size, so_far.2), omega (arith, size, so_far.3, step.0), read),
      step.1,
      search rules,
      search rules,
    )

pub returns-in-End-true-clause-printed : goal.returns-in-End-true-clause-printed
returns-in-End-true-clause-printed g c =
    let so_far = c.messages.invariant.0 in
    let step = rw (c.in-End-true.is, c.in-End-true.is_broken-test) at c.in_ok-next_record.ensures.step in
    IfOk-weaker c.report_break.result _ _ (λ v printed. printed-break _ _ _ _ _ _ _ so_far.0 (state_of c.messages.follower) so_far.1 c.messages.reader.most c.messages.n step.1 so_far.3 so_far.2
    step.2 step.3 _ v printed.0 printed.1) c.report_break.ensures.printed

pub returns-in-End-true-clause-effect_on_error : goal.returns-in-End-true-clause-effect_on_error
returns-in-End-true-clause-effect_on_error g c =
    let so_far = c.messages.invariant.0 in
    let step = rw (c.in-End-true.is, c.in-End-true.is_broken-test) at c.in_ok-next_record.ensures.step in
    line-part c.report_break.result _ c.report_break.ensures.effect_on_error
    (λ part. in-break _ _ _ _ _ _ _ so_far.0 (state_of c.messages.follower) so_far.1 c.messages.reader.most c.messages.n step.1 so_far.3 so_far.2 step.2 step.3 _ part)
    c.report_break.ensures.memory
    (λ none. before-break _ _ _ _ _ _ _ so_far.0 (state_of c.messages.follower) so_far.1 c.messages.reader.most c.messages.n step.1 so_far.3 so_far.2 step.2 step.3 _ none)
    c.report_break.ensures.fault
