use Rattle.mls_follow.specs.GroupModel.{group_state}
use Rattle.mls_follow.proofs.HeldEntries.{not_held_either, other_content}
use Rattle.mls_follow.proofs.pending_entries.hold_entry.Goals as goal

pub returns-in_default : goal.returns-in_default
returns-in_default g c =
    let G = g.C.SignatureCheck.meaning c.args.checker.now in
    record {
      held = tt;
      refused = other_content G (group_state c.args.group.now) c.args.entry.now (λ p same. c.in_default.not-Proposal p (rw c.content.ensures same));
    }

pub returns-in-Some-clause-refused : goal.returns-in-Some-clause-refused
returns-in-Some-clause-refused g c =
    let G = g.C.SignatureCheck.meaning c.args.checker.now in
    let found = rw c.in-Some.is at c.in_ok-message.ensures in
    not_held_either G (group_state c.args.group.now) c.args.entry.now c.in-Some.message found.0 c.hold_message.result c.hold_message.ensures.refused
