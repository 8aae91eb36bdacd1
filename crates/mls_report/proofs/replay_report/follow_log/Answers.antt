use Rattle.std.proofs.Common.{rules, arith, ◌≡◌, ◌∙◌, ◌+◌, ◌<◌, ◌++◌, ◌∷◌, [], length, length-append, ap, refl, false}
use Rattle.mls_wire.specs.Logs.{LogState}
use Rattle.mls_follow.specs.FollowerModel.{state_of}
use Rattle.mls_report.specs.Replay.{ProcessedMessage, message_limit}
use Rattle.mls_show.proofs.Outcomes.{IfErr-is}
use Rattle.mls_report.proofs.Replaying.{so_far-none, so_far-snoc, accepted-more, part-turn, followed}
use Rattle.mls_report.proofs.replay_report.follow_log.Goals as goal

pub messages-init : goal.messages-init
messages-init g c =
    let most : c.new-reader.result.most ≡ message_limit = ap (λ (r : LogState). r.most) c.new-reader.ensures in
    let going : c.new-reader.result.is_over ≡ false = ap (λ (r : LogState). r.is_over) c.new-reader.ensures in
    (([], so_far-none _ _ _ _ _, omega arith, omega arith, c.requires.none.0, omega (arith, c.requires.none.0, c.requires.none.1)), refl, going, c.requires.log, c.requires.out, refl)

pub returns-in_err-is_accepted-in-Record-clause-effect_on_error :
    goal.returns-in_err-is_accepted-in-Record-clause-effect_on_error
returns-in_err-is_accepted-in-Record-clause-effect_on_error g c =
    let so_far = c.messages.invariant.0 in
    let step = rw c.in-Record.is at c.in_ok-next_record.ensures.step in
    let below : length so_far.0 < message_limit = omega (arith, so_far.3, step.0) in
    let stops = rw (c.body.ensures, c.messages.invariant.1, c.messages.invariant.5) at c.in_err-is_accepted-in-Record.ensures.effect_on_error in
    IfErr-is c.from_residual-in_err-is_accepted-in-Record.result _ c.in_err-is_accepted-in-Record.field-0.0 (search rules)
    (part-turn _ _ _ _ _ _ _ _ _ so_far.0 (state_of c.messages.follower) c.messages.number c.next_record.new.reader.body step.2 c.in_err-is_accepted-in-Record.field-0.0 so_far.1 so_far.2 below step.4 step.3 stops)

pub returns-in-End-clause-followed : goal.returns-in-End-clause-followed
returns-in-End-clause-followed g c =
    let so_far = c.messages.invariant.0 in
    let step = rw c.in-End.is at c.in_ok-next_record.ensures.step in
    followed _ _ _ _ _ _ _ _ so_far.0 (state_of c.messages.follower) _ _ c.messages.reader.most step.1 _ so_far.1 so_far.4 so_far.5 so_far.3 step.2 step.3

pub messages-preserved : goal.messages-preserved
messages-preserved g c =
    let so_far = c.messages.invariant.0 in
    let step = rw c.in-Record.is at c.in_ok-next_record.ensures.step in
    let below : length so_far.0 < message_limit = omega (arith, so_far.3, step.0) in
    let printed = rw (c.body.ensures, c.messages.invariant.1, c.messages.invariant.5) at c.in_ok-is_accepted-in-Record.ensures.printed in
    let t : ProcessedMessage = record { bytes = c.next_record.new.reader.body; answer = printed.answer; state = state_of c.write_message_line.new.follower } in
    let more = so_far-snoc _ _ _ _ _ _ _ _ _ so_far.0 (state_of c.messages.follower) c.messages.number c.next_record.new.reader.body step.2 (state_of c.write_message_line.new.follower) c.in_ok-is_accepted-in-Record.is_accepted so_far.1 so_far.2 below step.4 step.3 printed in
    let size : length (so_far.0 ++ t ∷ []) ≡ length so_far.0 + 1 = length-append so_far.0 (t ∷ []) in
    let accepted = accepted-more so_far.0 t c.messages.progress.accepted c.count.new.self.accepted c.in_ok-is_accepted-in-Record.is_accepted so_far.4 printed.counted c.count.ensures.accepted in (
      (so_far.0 ++ t ∷ [], more, omega (arith, size, so_far.2), omega (arith, size, so_far.3, step.0), accepted, omega (arith, size, so_far.5, c.count.ensures.all)),
      c.write_message_line.ensures.checker ∙ c.messages.invariant.1,
      step.1,
      search rules,
      search rules,
      c.count.ensures.time ∙ c.messages.invariant.5,
    )
