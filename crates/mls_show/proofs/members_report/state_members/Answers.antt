use Rattle.std.proofs.Common.{ℕ, List, Err, subst, inr}
use Rattle.std.proofs.lemmas.Result.{IfOk-weaker}
use Rattle.mls_state.specs.StateFile.{DecodesStateFile}
use Rattle.mls_show.proofs.StateReports.{members_reported, refused}
use Rattle.mls_show.proofs.members_report.state_members.Goals as goal

pub returns-in-Ok-clause-report : goal.returns-in-Ok-clause-report
returns-in-Ok-clause-report c =
    let d = rw (c.in-Ok.is, c.as_slice.ensures.value) at c.decode_state_file-decoded.ensures in
    IfOk-weaker c.content_members-report.result _ _ (λ r h. members_reported c.args.bytes.items c.in-Ok.state d.0 d.1 _ _ h) c.content_members-report.ensures.report

pub returns-in-Err-clause-report : goal.returns-in-Err-clause-report
returns-in-Err-clause-report c =
    let d = subst (λ (b : List ℕ). DecodesStateFile b (Err c.in-Err.fault)) c.as_slice.ensures.value (rw c.in-Err.is at c.decode_state_file-decoded.ensures) in
    IfOk-weaker c.no_state_report.result _ _ (λ r h. inr (refused c.args.bytes.items c.in-Err.fault _ _ d h)) c.no_state_report.ensures.report
