use Rattle.std.proofs.lemmas.Result.{err_from_is_err_and}
use Rattle.mls_msgs.specs.Welcome.{welcome}
use Rattle.mls_msgs.specs.WelcomeParsing.{welcome_at}
use Rattle.mls_msgs.specs.WelcomeExact.{welcome_exact}
use Rattle.mls_msgs.proofs.Bodies.{all_read, none_read, more_left}
use Rattle.mls_msgs.proofs.welcome.read_welcome.Goals as goal

pub returns-in_err-welcome : goal.returns-in_err-welcome
returns-in_err-welcome c =
    let p = err_from_is_err_and c.from_residual.result c.from_residual.ensures.1 in
    let none = rw c.new-reader.ensures at c.in_err-welcome.ensures in
    rw p.1 (none_read welcome welcome_at welcome_exact c.args.body.now none)

pub returns-in_err-finish : goal.returns-in_err-finish
returns-in_err-finish c =
    let f = c.from_residual-in_err-finish in
    let p = err_from_is_err_and f.result f.ensures.1 in
    let read = rw c.new-reader.ensures at c.in_ok-welcome.ensures in
    rw p.1 (more_left welcome welcome_at welcome_exact c.args.body.now c.in_ok-welcome.welcome _ read c.in_err-finish.ensures.0)

pub returns : goal.returns
returns c =
    let read = rw c.new-reader.ensures at c.in_ok-welcome.ensures in (
      c.in_ok-welcome.welcome,
      all_read welcome welcome_at welcome_exact c.args.body.now c.in_ok-welcome.welcome _ read c.in_ok-finish.ensures,
      (c.into_front.ensures.suite, c.into_front.ensures.references),
    )
