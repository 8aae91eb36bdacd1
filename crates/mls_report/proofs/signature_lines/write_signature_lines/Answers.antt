use Rattle.std.proofs.Common.{rules, [], ◌∷◌, ◌++◌, length, ap, refl, arith}
use Rattle.mls_report.specs.SignaturesReport.{needed_lines}
use Rattle.mls_show.proofs.Outcomes.{IfErr-is}
use Rattle.mls_report.proofs.Replaying.{Appends-nil}
use Rattle.mls_report.proofs.StartLines.{needed_lines-both, split-next, stops-next, wrote-both}
use Rattle.mls_report.proofs.signature_lines.write_signature_lines.Goals as goal

pub signatures-init : goal.signatures-init
signatures-init g c = (([], refl, Appends-nil _), c.requires)

pub signatures-preserved : goal.signatures-preserved
signatures-preserved g c =
    let R = g.R.SignatureCheck.meaning c.args.receipts.now in
    let h = c.signatures.invariant.0 in
    let next = rw c.in-Some.is at c.in-Ok.ensures.next in (
      (
        h.0 ++ c.in-Some.signature ∷ [],
        split-next _ h.0 _ c.in-Some.signature _ h.1 next,
        wrote-both (needed_lines R) (needed_lines-both R) _ _ _ h.0 (c.in-Some.signature ∷ []) h.2 c.in_ok-written.ensures.all,
      ),
      search rules,
    )

pub signatures-smaller : goal.signatures-smaller
signatures-smaller g c =
    let next = rw c.in-Some.is at c.in-Ok.ensures.next in
    let lengths = ap length next in
    omega (arith, lengths)

pub returns-in_err-written-clause-effect_on_error : goal.returns-in_err-written-clause-effect_on_error
returns-in_err-written-clause-effect_on_error g c =
    let R = g.R.SignatureCheck.meaning c.args.receipts.now in
    let h = c.signatures.invariant.0 in
    let next = rw c.in-Some.is at c.in-Ok.ensures.next in
    let split = split-next _ h.0 _ c.in-Some.signature _ h.1 next in
    IfErr-is c.from_residual.result _ c.in_err-written.field-0.0 (search rules)
    (stops-next (needed_lines R) (needed_lines-both R) _ h.0 c.in-Some.signature _ split _ _ _ c.in_err-written.field-0.0 h.2 c.in_err-written.ensures.effect_on_error)
