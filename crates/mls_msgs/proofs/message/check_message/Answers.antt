use Rattle.std.proofs.lemmas.Result.{IfOk-weaker}
use Rattle.mls_msgs.proofs.MembersRead.{message_of_passes}
use Rattle.mls_msgs.proofs.message.check_message.Goals as goal

pub returns-then-wire_format-eq1 : goal.returns-then-wire_format-eq1
returns-then-wire_format-eq1 c =
    let header = rw c.new-reader.ensures at c.in_ok-wire_format.ensures in
    IfOk-weaker c.check_frame.result _ _
    (λ v h. message_of_passes c.args.bytes.now c.read_header.new.reader c.in_ok-wire_format.wire_format header (λ e. h)) c.check_frame.ensures

pub returns : goal.returns
returns c =
    let header = rw c.new-reader.ensures at c.in_ok-wire_format.ensures in
    message_of_passes c.args.bytes.now c.read_header.new.reader c.in_ok-wire_format.wire_format header (λ e. absurd (c.if-wire_format-eq1.false e))
