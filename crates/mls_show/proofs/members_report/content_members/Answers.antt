use Rattle.std.proofs.Common.{refl, inl, inr}
use Rattle.std.proofs.lemmas.Result.{IfOk-weaker}
use Rattle.mls_show.specs.MembersText.{member_lines}
use Rattle.mls_show.proofs.StateReports.{no_tree-found}
use Rattle.mls_show.proofs.members_report.content_members.Goals as goal

pub returns-in-Ok-clause-report : goal.returns-in-Ok-clause-report
returns-in-Ok-clause-report c = let h = c.in-Ok.ensures in inl (h.0, h.1, h.2, refl)

pub returns-in-Err-clause-report : goal.returns-in-Err-clause-report
returns-in-Err-clause-report c =
    IfOk-weaker c.no_tree_report.result _ _ (λ r h. inr (no_tree-found member_lines c.args.state.now.tree c.in-Err.fault h.0 c.in-Err.ensures, h.1)) c.no_tree_report.ensures.report
