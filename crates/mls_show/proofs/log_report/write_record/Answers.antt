use Rattle.std.proofs.Common.{ℕ, List, rules, subst, ap, ◌∙◌, refl}
use Rattle.std.specs.Io.KnownBytes.{Appends}
use Rattle.mls_wire.specs.Devices.{AppendsPrefix}
use Rattle.mls_wire.specs.declared.fault.RunFault.TheVariants.{Write}
use Rattle.mls_show.specs.LogReport.{record_line}
use Rattle.mls_show.proofs.Outcomes.{IfErr-is}
use Rattle.mls_show.proofs.log_report.write_record.Goals as goal

pub returns-in_err-write_bytes-clause-effect_on_error : goal.returns-in_err-write_bytes-clause-effect_on_error
returns-in_err-write_bytes-clause-effect_on_error g c =
    let line = c.as_slice-2.ensures.value ∙ c.in_ok-line.ensures
    ∙ ap (λ (text : List ℕ). record_line c.args.number (record { body = c.args.body.now; text = text; verdict = c.in_ok-report.report.verdict })) c.as_slice.ensures.value in
    IfErr-is c.from_residual-in_err-write_bytes.result _ Write (search rules) (record {
      shown = record { body = c.args.body.now; text = c.in_ok-report.report.bytes.items; verdict = c.in_ok-report.report.verdict };
      body_is = refl;
      is_shown = c.in_ok-report.ensures.report;
      wrote = subst (AppendsPrefix _ _) line c.in_err-write_bytes.ensures.effect_on_error;
    })

pub returns-clause-printed : goal.returns-clause-printed
returns-clause-printed g c =
    let line = c.as_slice-2.ensures.value ∙ c.in_ok-line.ensures
    ∙ ap (λ (text : List ℕ). record_line c.args.number (record { body = c.args.body.now; text = text; verdict = c.in_ok-report.report.verdict })) c.as_slice.ensures.value in
    record {
      shown = record { body = c.args.body.now; text = c.in_ok-report.report.bytes.items; verdict = c.in_ok-report.report.verdict };
      body_is = refl;
      is_shown = c.in_ok-report.ensures.report;
      readable_is = search rules;
      wrote = subst (Appends _ _) line c.in_ok-write_bytes.ensures.all;
    }
