use Rattle.std.proofs.Common.{subst}
use Rattle.mls_msgs.specs.Message.{message}
use Rattle.mls_msgs.specs.declared.message.Message.TheVariants as messages
use Rattle.mls_apply.proofs.Encodings.{put_back}
use Rattle.mls_follow.specs.State.{EncodesMessage}
use Rattle.mls_follow.specs.GroupModel.{group_state}
use Rattle.mls_follow.proofs.Encoded.{confirmed_exists, reference_exists}
use Rattle.mls_follow.proofs.Taking.{frame_taken}
use Rattle.mls_follow.proofs.group.Group.take.Goals as goal

pub new-frame-requires : goal.new-frame-requires
new-frame-requires g c =
    record { encoding = (subst (λ m. EncodesMessage c.args.self.now.profile m c.args.received.now.bytes.now) c.in-Public.is c.requires.input).encoded }

pub take_frame-requires : goal.take_frame-requires
take_frame-requires g c =
    let encodes = subst (λ m. EncodesMessage c.args.self.now.profile m c.args.received.now.bytes.now) c.in-Public.is c.requires.input in
    record {
      hashed = rw c.new-frame.ensures (confirmed_exists c.in-Public.public (put_back (message (messages.Public c.in-Public.public)) c.args.received.now.bytes.now encodes.encoded));
      referenced = rw c.new-frame.ensures (reference_exists c.args.self.now.profile c.args.self.now.context c.in-Public.public (c.args.received.now.bytes.now, encodes));
      checked = c.requires.checked;
    }

pub returns-in-Public : goal.returns-in-Public
returns-in-Public g c =
    let group = c.args.self.now in
    let encodes = subst (λ m. EncodesMessage group.profile m c.args.received.now.bytes.now) c.in-Public.is c.requires.input in
    frame_taken _ _ (group_state group) group.required group.requires_these c.in-Public.public c.new-frame.result c.new-frame.ensures
    c.late_rule-late.result c.late_rule-late.ensures
    c.take_frame.result (group_state c.take_frame.new.self) c.take_frame.ensures c.args.received.now.bytes.now encodes
