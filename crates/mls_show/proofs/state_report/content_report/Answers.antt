use Rattle.std.proofs.Common.{List, ℕ, ◌++◌, ap, refl, ◌∙◌, inl, inr}
use Rattle.std.proofs.lemmas.Result.{IfOk-weaker}
use Rattle.mls_show.specs.StateText.{first_state_lines, last_state_lines}
use Rattle.mls_show.proofs.StateReports.{counts_left, no_tree-found, no_lines}
use Rattle.mls_show.proofs.state_report.content_report.Goals as goal

pub returns-in_ok-text-in-Ok-clause-report : goal.returns-in_ok-text-in-Ok-clause-report
returns-in_ok-text-in-Ok-clause-report c =
    let s = c.args.state.now in
    let h = c.in-Ok.ensures in
    inl (h.0, h.1, c.in_ok-text-in-Ok.ensures ∙ ap (λ (t : List ℕ). first_state_lines s ++ (t ++ last_state_lines s)) (c.as_slice.ensures.value ∙ h.2 ∙ counts_left _), refl)

pub returns-in-Err-clause-report : goal.returns-in-Err-clause-report
returns-in-Err-clause-report c =
    IfOk-weaker c.no_tree_report.result _ _ (λ r h. inr (no_tree-found no_lines c.args.state.now.tree c.in-Err.fault h.0 c.in-Err.ensures, h.1)) c.no_tree_report.ensures.report
