use Rattle.std.proofs.Common.{refl}
use Rattle.std.proofs.lemmas.Result.{err_from_is_err_and}
use Rattle.mls_msgs.specs.PrivateMessage.{private_message}
use Rattle.mls_msgs.specs.PrivateMessageParsing.{private_message_at}
use Rattle.mls_msgs.specs.PrivateMessageExact.{private_message_exact}
use Rattle.mls_msgs.proofs.Bodies.{all_read, none_read, more_left}
use Rattle.mls_msgs.proofs.private_message.read_private.Goals as goal

pub returns-in_err-message : goal.returns-in_err-message
returns-in_err-message c =
    let p = err_from_is_err_and c.from_residual.result c.from_residual.ensures.1 in
    let none = rw c.new-reader.ensures at c.in_err-message.ensures in
    rw p.1 (none_read private_message private_message_at private_message_exact c.args.body.now none)

pub returns-in_err-finish : goal.returns-in_err-finish
returns-in_err-finish c =
    let f = c.from_residual-in_err-finish in
    let p = err_from_is_err_and f.result f.ensures.1 in
    let read = rw c.new-reader.ensures at c.in_ok-message.ensures in
    rw p.1 (more_left private_message private_message_at private_message_exact c.args.body.now c.in_ok-message.message _ read c.in_err-finish.ensures.0)

pub returns : goal.returns
returns c =
    let read = rw c.new-reader.ensures at c.in_ok-message.ensures in (
      c.in_ok-message.message,
      all_read private_message private_message_at private_message_exact c.args.body.now c.in_ok-message.message _ read c.in_ok-finish.ensures,
      (c.as_slice.ensures, refl, refl),
    )
