use Rattle.std.proofs.Common.{◌≡◌, true, sym, arith}
use Rattle.mls_msgs.specs.MembersReading.{message_passes}
use Rattle.mls_msgs.specs.MessageParsing.{message_at}
use Rattle.mls_msgs.proofs.MembersRead.{found, message_is_in}
use Rattle.mls_msgs.proofs.Profiles.{message_foreign}
use Rattle.mls_msgs.proofs.message.decode_message_in.Goals as goal

pub returns-else-has_message-clause-decoded : goal.returns-else-has_message-clause-decoded
returns-else-has_message-clause-decoded c =
    message_foreign c.args.profile c.in-Ok.message c.args.bytes.now c.fault_found.result (omega (arith, c.if-bytes-gt-MAX_INPUT.false)) c.in-Ok.ensures (sym c.if-has_message.ensures)

pub fault_found-requires : goal.fault_found-requires
fault_found-requires c =
    found c.check_message.result (message_passes (message_at c.args.bytes.now) ≡ true) c.check_message.ensures
    (λ h. message_is_in c.args.profile c.in-Ok.message c.args.bytes.now c.in-Ok.ensures h (sym c.if-has_message.ensures))
