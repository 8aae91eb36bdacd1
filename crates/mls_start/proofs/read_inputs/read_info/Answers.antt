use Rattle.std.proofs.Common.{rules}
use Rattle.mls_msgs.specs.declared.message.Message.TheVariants as messages
use Rattle.mls_follow.proofs.ReadInProfile.{encodes}
use Rattle.mls_start.proofs.Starting.{unread, other}
use Rattle.mls_start.proofs.read_inputs.read_info.Goals as goal

pub returns-in-Ok-GroupInfo-clause-info : goal.returns-in-Ok-GroupInfo-clause-info
returns-in-Ok-GroupInfo-clause-info c = encodes c.args.profile (messages.GroupInfo c.in-Ok-GroupInfo.info) c.args.bytes.now (rw c.in-Ok-GroupInfo.field-0-is at c.in-Ok-GroupInfo.ensures.decoded)

pub returns-in-Ok : goal.returns-in-Ok
returns-in-Ok c = record {
  info = tt;
  unread = λ tree_bytes. other c.args.profile c.args.bytes.now tree_bytes c.in-Ok.other c.in-Ok.ensures.decoded (search rules);
}

pub returns-in-Err-Wire-clause-unread : goal.returns-in-Err-Wire-clause-unread
returns-in-Err-Wire-clause-unread c = λ tree_bytes. unread c.args.profile c.args.bytes.now tree_bytes c.in-Err-Wire.fault (rw c.in-Err-Wire.field-0-is at c.in-Err-Wire.ensures.decoded)
