use Rattle.std.proofs.Common.{sym, ◌∙◌}
use Rattle.mls_wire.specs.OptionBind.{some_is}
use Rattle.mls_msgs.proofs.MessageLemmas.{body_begins, unread_message}
use Rattle.mls_msgs.proofs.message.message_of.Goals as goal

pub split_at-requires : goal.split_at-requires
split_at-requires c = body_begins c.args.bytes.now c.new-reader.result _ _ c.new-reader.ensures c.in_ok-wire_format.ensures

pub returns-then-is_unread : goal.returns-then-is_unread
returns-then-is_unread c =
    unread_message c.args.bytes.now _ c.new-reader.result c.in_ok-wire_format.wire_format _ c.new-reader.ensures c.in_ok-wire_format.ensures
    (sym c.if-is_unread.ensures) (sym (some_is _ _ c.in_ok-body.ensures) ∙ c.split_at.ensures.back)
