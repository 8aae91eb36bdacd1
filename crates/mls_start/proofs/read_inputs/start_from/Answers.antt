use Rattle.std.proofs.lemmas.Result.{IfOk-weaker}
use Rattle.mls_start.proofs.Starting.{is_started, says_unread}
use Rattle.mls_start.proofs.read_inputs.start_from.Goals as goal

pub returns-in-Ok-clause-started : goal.returns-in-Ok-clause-started
returns-in-Ok-clause-started g c =
    IfOk-weaker c.start_decoded.result _ _ (λ f start. is_started _ _ _ _ _ _ c.in-Ok.ensures.read _ _ start) c.start_decoded.ensures.started

pub returns-in-Ok-clause-refused : goal.returns-in-Ok-clause-refused
returns-in-Ok-clause-refused g c = c.start_decoded.ensures.refused _ _ c.in-Ok.ensures.read

pub returns-in-Err-clause-refused : goal.returns-in-Err-clause-refused
returns-in-Err-clause-refused g c = says_unread _ _ _ _ _ c.in-Err.failure c.in-Err.ensures.unread
