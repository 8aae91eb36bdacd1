use Rattle.std.proofs.lemmas.Result.{IfOk-weaker, IfErr-weaker}
use Rattle.mls_follow.specs.FollowerModel.{state_of}
use Rattle.mls_start.proofs.ResumedWith.{says_not_strict}
use Rattle.mls_start.proofs.start_bytes.resume_from.Goals as goal

pub returns-in-Ok-clause-resumed : goal.returns-in-Ok-clause-resumed
returns-in-Ok-clause-resumed g c =
    IfOk-weaker c.with_rules.result _ _ (λ f added. record { resumed = state_of c.in-Ok.follower; is_resumed = c.in-Ok.ensures.resumed; is_added = added })
    c.with_rules.ensures.added

pub returns-in-Ok-clause-refused : goal.returns-in-Ok-clause-refused
returns-in-Ok-clause-refused g c =
    IfErr-weaker c.with_rules.result _ _ (says_not_strict _ _ _ (state_of c.in-Ok.follower) c.in-Ok.ensures.resumed) c.with_rules.ensures.refused
