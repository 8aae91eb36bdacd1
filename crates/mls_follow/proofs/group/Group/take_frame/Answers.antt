use Rattle.std.proofs.Common.{rules, refl}
use Rattle.std.proofs.lemmas.Result.{err_from_is_err_and}
use Rattle.mls_follow.specs.GroupModel.{group_state}
use Rattle.mls_follow.specs.MessageRulesInternal.{frame_refusal}
use Rattle.mls_follow.proofs.Outside.{by_external, by_joiner, after_external, after_joiner, member_taken, outside_taken, joiner_taken}
use Rattle.mls_follow.proofs.group.Group.take_frame.Goals as goal
use Rattle.mls_follow.specs.NextState.{after_sender}
use Rattle.mls_follow.specs.StrictRulesInternal.{late_refusal}
use Rattle.mls_follow.proofs.StrictLists.{judged_first}

pub returns-in_err-check_header : goal.returns-in_err-check_header
returns-in_err-check_header g c =
    let p = err_from_is_err_and c.from_residual.result c.from_residual.ensures.1 in
    let s = group_state c.args.self.now in
    let a = c.args.judged.now.frame in
    rw (p.1, p.2) (
      tt,
      tt,
      (λ own.
          judged_first (late_refusal c.args.self.now.rules c.args.judged.now.late)
          (frame_refusal (g.C.SignatureCheck.meaning c.args.checker.now) s c.args.self.now.required a) (after_sender s a a.content.sender) c.in_err-check_header.field-0.0
          (c.in_err-check_header.ensures.refused (g.C.SignatureCheck.meaning c.args.checker.now) c.args.self.now.required)),
      refl,
    )

pub returns-in-Member : goal.returns-in-Member
returns-in-Member g c =
    let G = g.C.SignatureCheck.meaning c.args.checker.now in
    let s = group_state c.args.self.now in
    let required = c.args.self.now.required in
    let a = c.args.judged.now.frame in
    let late = late_refusal c.args.self.now.rules c.args.judged.now.late in
    let sender = a.content.sender in
    let header = c.in_ok-check_header.ensures.rules_hold G required in
    member_taken G s required a sender late (frame_refusal G s required a) header c.take_member_frame.result (group_state c.take_member_frame.new.self) c.in-Member.sender (search rules) c.take_member_frame.ensures

pub returns-in-External : goal.returns-in-External
returns-in-External g c =
    let G = g.C.SignatureCheck.meaning c.args.checker.now in
    let s = group_state c.args.self.now in
    let required = c.args.self.now.required in
    let a = c.args.judged.now.frame in
    let late = late_refusal c.args.self.now.rules c.args.judged.now.late in
    let sender = a.content.sender in
    let header = c.in_ok-check_header.ensures.rules_hold G required in
    outside_taken G s required a sender late (frame_refusal G s required a) header c.take_outside.result (group_state c.take_outside.new.self)
    (by_external G s required a sender c.in-External.field-0 (search rules)) (after_external G s required a sender c.in-External.field-0 (search rules)) c.take_outside.ensures

pub returns-in-NewMemberProposal : goal.returns-in-NewMemberProposal
returns-in-NewMemberProposal g c =
    let G = g.C.SignatureCheck.meaning c.args.checker.now in
    let s = group_state c.args.self.now in
    let required = c.args.self.now.required in
    let a = c.args.judged.now.frame in
    let late = late_refusal c.args.self.now.rules c.args.judged.now.late in
    let sender = a.content.sender in
    let header = c.in_ok-check_header.ensures.rules_hold G required in
    outside_taken G s required a sender late (frame_refusal G s required a) header c.take_outside-in-NewMemberProposal.result (group_state c.take_outside-in-NewMemberProposal.new.self)
    (by_joiner G s required a sender (search rules)) (after_joiner G s required a sender (search rules)) c.take_outside-in-NewMemberProposal.ensures

pub returns-in-NewMemberCommit : goal.returns-in-NewMemberCommit
returns-in-NewMemberCommit g c =
    let G = g.C.SignatureCheck.meaning c.args.checker.now in
    let s = group_state c.args.self.now in
    let required = c.args.self.now.required in
    let a = c.args.judged.now.frame in
    let late = late_refusal c.args.self.now.rules c.args.judged.now.late in
    let sender = a.content.sender in
    let header = c.in_ok-check_header.ensures.rules_hold G required in
    joiner_taken G s required a sender late (frame_refusal G s required a) header c.take_joiner.result (group_state c.take_joiner.new.self) (search rules) c.take_joiner.ensures
