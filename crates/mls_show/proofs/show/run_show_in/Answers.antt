use Rattle.std.proofs.lemmas.Result.{IfOk-weaker, IfErr-weaker}
use Rattle.mls_show.proofs.ShowKinds.{shows_whole, stops_whole}
use Rattle.mls_show.proofs.show.run_show_in.Goals as goal

pub returns-in_default-clause-shown : goal.returns-in_default-clause-shown
returns-in_default-clause-shown g c =
    IfOk-weaker c.show_whole.result _ _ (λ verdict h. shows_whole _ _ _ _ _ _ c.in_default.not-Log verdict h) c.show_whole.ensures.shown

pub returns-in_default-clause-effect_on_error : goal.returns-in_default-clause-effect_on_error
returns-in_default-clause-effect_on_error g c =
    IfErr-weaker c.show_whole.result _ _ (λ fault h. stops_whole _ _ _ _ _ _ c.in_default.not-Log fault h) c.show_whole.ensures.effect_on_error

pub returns-in-Log-clause-shown : goal.returns-in-Log-clause-shown
returns-in-Log-clause-shown g c = rw c.in-Log.is c.show_log.ensures.shown

pub returns-in-Log-clause-effect_on_error : goal.returns-in-Log-clause-effect_on_error
returns-in-Log-clause-effect_on_error g c = rw c.in-Log.is c.show_log.ensures.effect_on_error
