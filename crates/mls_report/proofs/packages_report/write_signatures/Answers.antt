use Rattle.std.proofs.Common.{◌≡◌, ◌∙◌, ◌+◌, List, [], ◌∷◌, ◌++◌, take, drop, rules, sym, ap, subst, take-append-drop}
use Rattle.std.proofs.lemmas.List.{drop_more, take_more}
use Rattle.mls_wire.specs.Devices.{AppendsPrefix}
use Rattle.mls_show.proofs.Outcomes.{OnErr-any}
use Rattle.mls_signatures.specs.declared.signature_to_verify.SignatureToVerify.{SignatureToVerify}
use Rattle.mls_report.proofs.Replaying.{Appends-nil}
use Rattle.mls_report.proofs.StartLines.{listed_lines-both, prefix-behind, prefix-more, wrote-next}
use Rattle.mls_report.specs.PackagesReport.{listed_lines}
use Rattle.mls_report.specs.SignaturesReport.{signature_line}
use Rattle.mls_report.proofs.packages_report.write_signatures.Goals as goal

pub loop-signature-init : goal.loop-signature-init
loop-signature-init g c = (Appends-nil _, c.requires)

pub loop-signature-preserved : goal.loop-signature-preserved
loop-signature-preserved g c =
    let ws : List SignatureToVerify = c.args.signatures.now in
    let i = c.loop-signature.signature-index in
    let w : SignatureToVerify = c.signature-item.result in
    let next : take (i + 1) ws ≡ take i ws ++ w ∷ [] = take_more ws i w c.loop-signature-test.true ∙ ap (λ x. take i ws ++ x ∷ []) (sym c.signature-item.is) in (
      wrote-next _ _ _ (take i ws) (take (i + 1) ws) w next c.loop-signature.invariant.0 c.in_ok-write_signature.ensures.all,
      search rules,
    )

pub returns-in_err-write_signature-clause-effect_on_error : goal.returns-in_err-write_signature-clause-effect_on_error
returns-in_err-write_signature-clause-effect_on_error g c =
    let ws : List SignatureToVerify = c.args.signatures.now in
    let i = c.loop-signature.signature-index in
    let w : SignatureToVerify = c.signature-item.result in
    let cut : drop i ws ≡ w ∷ drop (i + 1) ws = drop_more ws i w c.loop-signature-test.true ∙ ap (λ x. x ∷ drop (i + 1) ws) (sym c.signature-item.is) in
    let split : ws ≡ take i ws ++ (w ∷ drop (i + 1) ws) = sym (take-append-drop i ws) ∙ ap (λ rest. take i ws ++ rest) cut in
    let lines : listed_lines ws ≡ listed_lines (take i ws) ++ (signature_line w ++ listed_lines (drop (i + 1) ws)) =
    ap listed_lines split ∙ listed_lines-both (take i ws) (w ∷ drop (i + 1) ws) in
    OnErr-any c.from_residual.result
    (subst (AppendsPrefix _ _) (sym lines)
    (prefix-behind _ _ _ (listed_lines (take i ws)) (signature_line w ++ listed_lines (drop (i + 1) ws)) c.loop-signature.invariant.0
    (prefix-more _ _ (signature_line w) (listed_lines (drop (i + 1) ws)) c.in_err-write_signature.ensures.effect_on_error)))
