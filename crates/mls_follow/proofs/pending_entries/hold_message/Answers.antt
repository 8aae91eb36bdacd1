use Rattle.std.proofs.Common.{Ok, Err, rules}
use Rattle.mls_follow.specs.GroupModel.{group_state}
use Rattle.mls_follow.proofs.HeldEntries.{accepted_message, refused_message}
use Rattle.mls_follow.proofs.Timed.{without_time}
use Rattle.mls_follow.proofs.pending_entries.hold_message.Goals as goal

pub returns-in-Ok-take-clause-held : goal.returns-in-Ok-take-clause-held
returns-in-Ok-take-clause-held g c =
    let G = g.C.SignatureCheck.meaning c.args.checker.now in
    accepted_message G (group_state c.args.group.now) c.args.message.now c.as_slice.result.now c.in-Ok-take.field-0 (group_state c.take.new.self)
    (record { encoded = search rules; allowed = search rules; bounded = search rules }) c.requires.proposal (without_time G (group_state c.args.group.now) c.as_slice.result.now (Ok c.in-Ok-take.field-0) (group_state c.take.new.self) (rw c.in-Ok-take.is at c.take.ensures))

pub returns : goal.returns
returns g c =
    let G = g.C.SignatureCheck.meaning c.args.checker.now in record {
      held = tt;
      refused = refused_message G (group_state c.args.group.now) c.args.message.now c.as_slice.result.now c.in-Err.field-0 (group_state c.take.new.self)
          (record { encoded = search rules; allowed = search rules; bounded = search rules }) (without_time G (group_state c.args.group.now) c.as_slice.result.now (Err c.in-Err.field-0) (group_state c.take.new.self) (rw c.in-Err.is at c.take.ensures)) (search rules);
    }
