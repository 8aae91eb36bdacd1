use Rattle.std.proofs.Common.{◌≡◌, ◌∙◌, ◌+◌, ℕ, List, [], ◌∷◌, ◌++◌, take, drop, rules, refl, sym, ap, append_assoc, take-append-drop}
use Rattle.std.specs.Prelude.{if◌then◌else◌}
use Rattle.std.proofs.lemmas.List.{drop_more, take_all, take_more}
use Rattle.mls_wire.specs.declared.fault.RunFault.TheVariants.{Memory}
use Rattle.mls_report.proofs.Replaying.{Appends-nil}
use Rattle.mls_report.specs.PackagesReport.{signature_listing}
use Rattle.mls_show.specs.declared.verdict.Verdict.TheVariants.{No}
use Rattle.mls_cli.specs.ProgramCheckersInternal.{checker_verify}
use Rattle.mls_cli.proofs.Packages.{fails, fails_in_text, listing_after, listing_verdict, moved, nothing_yet, one_more, part_at_file, reports, stops_before, stops_in_lines}
use Rattle.mls_cli.proofs.packages_execution.execute_package_signatures.Goals as goal

pub loop-name-init : goal.loop-name-init
loop-name-init g c = ((nothing_yet _ _ _ _ _, refl), c.requires)

pub loop-name-preserved : goal.loop-name-preserved
loop-name-preserved g c =
    let F = g.F.Files.opener c.args.files.now in
    let G = checker_verify c.args.receipts.now in
    let names : List (List ℕ) = c.args.names.now in
    let i = c.loop-name.name-index in
    let name : List ℕ = c.name-item.result in
    let h = c.loop-name.invariant.0 in
    let printed = c.in_ok-is_readable.ensures.printed in
    let next : take (i + 1) names ≡ take i names ++ name ∷ [] = take_more names i name c.loop-name-test.true ∙ ap (λ x. take i names ++ x ∷ []) (sym c.name-item.is) in
    let more = one_more F G c.args.rules signature_listing (take i names) _ _ c.loop-name.all h.0 name c.in_ok-finding.finding c.in_ok-finding.ensures.found
    c.in_ok-number.number c.in_ok-number.ensures.next _ printed.0 in
    let verdict = c.verdict_after-verdict.ensures ∙ ap (λ v. if c.in_ok-is_readable.is_readable then v else No) h.1
    ∙ sym (listing_after h.0.found c.in_ok-finding.finding c.in_ok-is_readable.is_readable printed.1) in (
      moved F G c.args.rules signature_listing (take i names ++ name ∷ []) (take (i + 1) names) _ _ c.in_ok-number.number (λ found. c.verdict_after-verdict.result ≡ listing_verdict found)
          (sym next) (more, verdict),
      search rules,
    )

pub returns-in_err-number-clause-executed : goal.returns-in_err-number-clause-executed
returns-in_err-number-clause-executed g c =
    let F = g.F.Files.opener c.args.files.now in
    let G = checker_verify c.args.receipts.now in
    let names : List (List ℕ) = c.args.names.now in
    let i = c.loop-name.name-index in
    let name : List ℕ = c.name-item.result in
    let h = c.loop-name.invariant.0 in
    let cut : drop i names ≡ name ∷ drop (i + 1) names = drop_more names i name c.loop-name-test.true ∙ ap (λ x. x ∷ drop (i + 1) names) (sym c.name-item.is) in
    let split : names ≡ take i names ++ name ∷ drop (i + 1) names = sym (take-append-drop i names) ∙ ap (λ rest. take i names ++ rest) cut in
    fails F G c.args.rules signature_listing names _ _ c.from_residual.result Memory (search rules)
    (stops_before F G c.args.rules signature_listing (take i names) _ _ c.loop-name.all h.0 names name (drop (i + 1) names) split)

pub returns-in_err-finding-clause-executed : goal.returns-in_err-finding-clause-executed
returns-in_err-finding-clause-executed g c =
    let F = g.F.Files.opener c.args.files.now in
    let G = checker_verify c.args.receipts.now in
    let names : List (List ℕ) = c.args.names.now in
    let i = c.loop-name.name-index in
    let name : List ℕ = c.name-item.result in
    let h = c.loop-name.invariant.0 in
    let cut : drop i names ≡ name ∷ drop (i + 1) names = drop_more names i name c.loop-name-test.true ∙ ap (λ x. x ∷ drop (i + 1) names) (sym c.name-item.is) in
    let split : names ≡ take i names ++ name ∷ drop (i + 1) names = sym (take-append-drop i names) ∙ ap (λ rest. take i names ++ rest) cut in
    fails F G c.args.rules signature_listing names _ _ c.from_residual-in_err-finding.result c.in_err-finding.field-0.0 (search rules)
    (part_at_file F G c.args.rules signature_listing (take i names) _ _ c.loop-name.all h.0 names name (drop (i + 1) names) split
    c.in_err-finding.field-0.0 c.in_err-finding.ensures.fault c.in_err-finding.ensures.unread)

pub returns-in_err-is_readable-clause-executed : goal.returns-in_err-is_readable-clause-executed
returns-in_err-is_readable-clause-executed g c =
    let F = g.F.Files.opener c.args.files.now in
    let G = checker_verify c.args.receipts.now in
    let names : List (List ℕ) = c.args.names.now in
    let i = c.loop-name.name-index in
    let name : List ℕ = c.name-item.result in
    let h = c.loop-name.invariant.0 in
    let cut : drop i names ≡ name ∷ drop (i + 1) names = drop_more names i name c.loop-name-test.true ∙ ap (λ x. x ∷ drop (i + 1) names) (sym c.name-item.is) in
    let split : names ≡ take i names ++ name ∷ drop (i + 1) names = sym (take-append-drop i names) ∙ ap (λ rest. take i names ++ rest) cut in
    fails_in_text F G c.args.rules signature_listing names _ _ c.from_residual-in_err-is_readable.result c.in_err-is_readable.field-0.0 (search rules) c.in_err-is_readable.ensures.fault
    (stops_in_lines F G c.args.rules signature_listing (take i names) _ _ c.loop-name.all h.0 name c.in_ok-finding.finding c.in_ok-finding.ensures.found
    c.in_ok-number.number c.in_ok-number.ensures.next names (drop (i + 1) names) _ (split ∙ sym (append_assoc (take i names) (name ∷ []) (drop (i + 1) names)))
    c.in_err-is_readable.ensures.effect_on_error)

pub returns-clause-executed : goal.returns-clause-executed
returns-clause-executed g c =
    let F = g.F.Files.opener c.args.files.now in
    let G = checker_verify c.args.receipts.now in
    let names : List (List ℕ) = c.args.names.now in
    let h = moved F G c.args.rules signature_listing (take c.loop-name.name-index names) names _ _ c.loop-name.all (λ found. c.loop-name.verdict ≡ listing_verdict found)
    (take_all c.loop-name.name-index names c.loop-name-test.false) c.loop-name.invariant.0 in
    record {
      printed = reports F G c.args.rules signature_listing names _ _ c.loop-name.all h.0 _ c.loop-name.verdict (Appends-nil _) h.1;
      part = tt;
    }
