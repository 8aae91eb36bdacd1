use Rattle.std.proofs.Common.{rules}
use Rattle.mls_wire.specs.declared.fault.RunFault.TheVariants.{Write, Memory}
use Rattle.mls_show.specs.Show.{StopsShowing}
use Rattle.mls_show.proofs.LogLines.{Appends-nil}
use Rattle.mls_show.proofs.Outcomes.{IfErr-is, nothing_written}
use Rattle.mls_show.proofs.show.show_whole.Goals as goal

pub returns-in_err-bytes-clause-effect_on_error : goal.returns-in_err-bytes-clause-effect_on_error
returns-in_err-bytes-clause-effect_on_error g c =
    let e = c.in_err-bytes.field-0.0 in
    IfErr-is c.from_residual.result _ e (search rules)
    (nothing_written (StopsShowing c.args.profile c.args.kind _ _ _ _) e c.in_err-bytes.ensures.fault (Appends-nil _) (λ none. none) (λ none. none))

pub returns-in_err-report-clause-effect_on_error : goal.returns-in_err-report-clause-effect_on_error
returns-in_err-report-clause-effect_on_error g c =
    IfErr-is c.from_residual-in_err-report.result _ Memory (search rules) (Appends-nil _)

pub returns-in_err-write_bytes-clause-effect_on_error : goal.returns-in_err-write_bytes-clause-effect_on_error
returns-in_err-write_bytes-clause-effect_on_error g c =
    IfErr-is c.from_residual-in_err-write_bytes.result _ Write (search rules) (record {
      bytes = c.in_ok-bytes.bytes.items;
      text = c.in_ok-report.report.bytes.items;
      verdict = c.in_ok-report.report.verdict;
      read = c.in_ok-bytes.ensures.all;
      report = c.in_ok-report.ensures.report;
      wrote = rw c.as_slice.ensures.value at c.in_err-write_bytes.ensures.effect_on_error;
    })
