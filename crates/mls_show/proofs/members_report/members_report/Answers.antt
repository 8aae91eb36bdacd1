use Rattle.std.proofs.Common.{sym, ◌∙◌}
use Rattle.std.proofs.lemmas.Result.{IfOk-weaker}
use Rattle.mls_show.proofs.MembersReports.{of_info, of_state, of_tree}
use Rattle.mls_show.proofs.members_report.members_report.Goals as goal

pub returns-then-is_info-clause-report : goal.returns-then-is_info-clause-report
returns-then-is_info-clause-report c =
    let info = rw c.as_slice-start.ensures.value at c.begins_with-is_info.ensures in
    IfOk-weaker c.info_members.result _ _ (λ r h. of_info c.args.bytes.items _ _ (sym info ∙ c.if-is_info.true) h) c.info_members.ensures.report

pub returns-then-is_state-clause-report : goal.returns-then-is_state-clause-report
returns-then-is_state-clause-report c =
    let info = rw c.as_slice-start.ensures.value at c.begins_with-is_info.ensures in
    let state = rw c.as_slice-start.ensures.value at c.begins_with-is_state.ensures in
    IfOk-weaker c.state_members.result _ _ (λ r h. of_state c.args.bytes.items _ _ (sym info ∙ c.if-is_info.false) (sym state ∙ c.if-is_state.true) h) c.state_members.ensures.report

pub returns-clause-report : goal.returns-clause-report
returns-clause-report c =
    let info = rw c.as_slice-start.ensures.value at c.begins_with-is_info.ensures in
    let state = rw c.as_slice-start.ensures.value at c.begins_with-is_state.ensures in
    IfOk-weaker c.tree_members.result _ _ (λ r h. of_tree c.args.bytes.items _ _ (sym info ∙ c.if-is_info.false) (sym state ∙ c.if-is_state.false) h) (rw c.as_slice.ensures.value at c.tree_members.ensures.report)
