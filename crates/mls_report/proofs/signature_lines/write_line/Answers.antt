use Rattle.std.proofs.Common.{List, ℕ, ◌++◌, ◌∷◌, [], ◌∙◌, sym, ap, append-nil}
use Rattle.mls_report.specs.SignaturesReport.{line_unless, needed_lines}
use Rattle.mls_report.proofs.StartLines.{stops-writing}
use Rattle.mls_report.proofs.signature_lines.write_line.Goals as goal

pub returns-clause-effect_on_error : goal.returns-clause-effect_on_error
returns-clause-effect_on_error g c =
    let R = g.R.SignatureCheck.meaning c.args.receipts.now in
    let line : List ℕ = line_unless R c.args.signature.now in
    stops-writing c.write_text.result (needed_lines R) (c.args.signature.now ∷ []) _ _ _ c.write_text.ensures.effect_on_error c.write_text.ensures.fault
    (c.as_str.ensures.value ∙ c.in_ok-put_line.ensures ∙ ap (λ (front : List ℕ). front ++ line) c.new-text.ensures.bytes ∙ sym (append-nil line))
