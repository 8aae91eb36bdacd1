use Rattle.std.proofs.Common.{◌≡◌, ◌∙◌, ◌+◌, ℕ, List, [], ◌∷◌, ◌++◌, length, take, drop, rules, refl, sym, ap, subst, append_assoc, arith, take-append-drop}
use Rattle.std.specs.Prelude.{if◌then◌else◌}
use Rattle.std.specs.Io.KnownBytes.{Appends}
use Rattle.std.proofs.lemmas.List.{drop_more, take_all, take_more}
use Rattle.std.proofs.lemmas.Result.{IfOk-weaker}
use Rattle.mls_wire.specs.Devices.{AppendsPrefix}
use Rattle.mls_wire.specs.declared.fault.RunFault.TheVariants.{Memory}
use Rattle.mls_report.specs.PackagesReport.{count_line, count_verdict, good_count, validation}
use Rattle.mls_cli.specs.ProgramCheckersInternal.{checker_verify}
use Rattle.mls_cli.proofs.Packages.{ends, failing, fails, fails_in_text, good_is_low, moved, nothing_yet, one_more, one_more_good, part_at_file, reports, stops_at_end, stops_before, stops_in_lines}
use Rattle.mls_cli.proofs.packages_execution.execute_packages.Goals as goal

pub loop-name-init : goal.loop-name-init
loop-name-init g c = ((nothing_yet _ _ _ _ _, refl), c.requires)

pub good_after-good-requires : goal.good_after-good-requires
good_after-good-requires g c =
    let h = c.loop-name.invariant.0 in
    let low = good_is_low h.0.found in
    omega (arith, h.1, low, h.0.count, c.in_ok-number.ensures.next)

pub loop-name-preserved : goal.loop-name-preserved
loop-name-preserved g c =
    let F = g.F.Files.opener c.args.files.now in
    let G = checker_verify c.args.checker.now in
    let names : List (List ℕ) = c.args.names.now in
    let i = c.loop-name.name-index in
    let name : List ℕ = c.name-item.result in
    let h = c.loop-name.invariant.0 in
    let printed = c.in_ok-is_good.ensures.printed in
    let next : take (i + 1) names ≡ take i names ++ name ∷ [] = take_more names i name c.loop-name-test.true ∙ ap (λ x. take i names ++ x ∷ []) (sym c.name-item.is) in
    let more = one_more F G c.args.rules validation (take i names) _ _ c.loop-name.all h.0 name c.in_ok-finding.finding c.in_ok-finding.ensures.found
    c.in_ok-number.number c.in_ok-number.ensures.next _ printed.0 in
    let good = c.good_after-good.ensures ∙ ap (λ n. n + (if c.in_ok-is_good.is_good then 1 else 0)) h.1
    ∙ sym (one_more_good h.0.found c.in_ok-finding.finding c.in_ok-is_good.is_good printed.1) in (
      moved F G c.args.rules validation (take i names ++ name ∷ []) (take (i + 1) names) _ _ c.in_ok-number.number (λ found. c.good_after-good.result ≡ good_count found)
          (sym next) (more, good),
      search rules,
    )

pub returns-in_err-number-clause-executed : goal.returns-in_err-number-clause-executed
returns-in_err-number-clause-executed g c =
    let F = g.F.Files.opener c.args.files.now in
    let G = checker_verify c.args.checker.now in
    let names : List (List ℕ) = c.args.names.now in
    let i = c.loop-name.name-index in
    let name : List ℕ = c.name-item.result in
    let h = c.loop-name.invariant.0 in
    let cut : drop i names ≡ name ∷ drop (i + 1) names = drop_more names i name c.loop-name-test.true ∙ ap (λ x. x ∷ drop (i + 1) names) (sym c.name-item.is) in
    let split : names ≡ take i names ++ name ∷ drop (i + 1) names = sym (take-append-drop i names) ∙ ap (λ rest. take i names ++ rest) cut in
    fails F G c.args.rules validation names _ _ c.from_residual.result Memory (search rules)
    (stops_before F G c.args.rules validation (take i names) _ _ c.loop-name.all h.0 names name (drop (i + 1) names) split)

pub returns-in_err-finding-clause-executed : goal.returns-in_err-finding-clause-executed
returns-in_err-finding-clause-executed g c =
    let F = g.F.Files.opener c.args.files.now in
    let G = checker_verify c.args.checker.now in
    let names : List (List ℕ) = c.args.names.now in
    let i = c.loop-name.name-index in
    let name : List ℕ = c.name-item.result in
    let h = c.loop-name.invariant.0 in
    let cut : drop i names ≡ name ∷ drop (i + 1) names = drop_more names i name c.loop-name-test.true ∙ ap (λ x. x ∷ drop (i + 1) names) (sym c.name-item.is) in
    let split : names ≡ take i names ++ name ∷ drop (i + 1) names = sym (take-append-drop i names) ∙ ap (λ rest. take i names ++ rest) cut in
    fails F G c.args.rules validation names _ _ c.from_residual-in_err-finding.result c.in_err-finding.field-0.0 (search rules)
    (part_at_file F G c.args.rules validation (take i names) _ _ c.loop-name.all h.0 names name (drop (i + 1) names) split
    c.in_err-finding.field-0.0 c.in_err-finding.ensures.fault c.in_err-finding.ensures.unread)

pub returns-in_err-is_good-clause-executed : goal.returns-in_err-is_good-clause-executed
returns-in_err-is_good-clause-executed g c =
    let F = g.F.Files.opener c.args.files.now in
    let G = checker_verify c.args.checker.now in
    let names : List (List ℕ) = c.args.names.now in
    let i = c.loop-name.name-index in
    let name : List ℕ = c.name-item.result in
    let h = c.loop-name.invariant.0 in
    let cut : drop i names ≡ name ∷ drop (i + 1) names = drop_more names i name c.loop-name-test.true ∙ ap (λ x. x ∷ drop (i + 1) names) (sym c.name-item.is) in
    let split : names ≡ take i names ++ name ∷ drop (i + 1) names = sym (take-append-drop i names) ∙ ap (λ rest. take i names ++ rest) cut in
    fails_in_text F G c.args.rules validation names _ _ c.from_residual-in_err-is_good.result c.in_err-is_good.field-0.0 (search rules) c.in_err-is_good.ensures.fault
    (stops_in_lines F G c.args.rules validation (take i names) _ _ c.loop-name.all h.0 name c.in_ok-finding.finding c.in_ok-finding.ensures.found
    c.in_ok-number.number c.in_ok-number.ensures.next names (drop (i + 1) names) _ (split ∙ sym (append_assoc (take i names) (name ∷ []) (drop (i + 1) names)))
    c.in_err-is_good.ensures.effect_on_error)

pub returns-clause-executed : goal.returns-clause-executed
returns-clause-executed g c =
    let F = g.F.Files.opener c.args.files.now in
    let G = checker_verify c.args.checker.now in
    let names : List (List ℕ) = c.args.names.now in
    let all = c.loop-name.all in
    let good = c.loop-name.good in
    let h = moved F G c.args.rules validation (take c.loop-name.name-index names) names _ _ all (λ found. good ≡ good_count found)
    (take_all c.loop-name.name-index names c.loop-name-test.false) c.loop-name.invariant.0 in
    let line : count_line good all ≡ count_line (good_count h.0.found) (length h.0.found) = ap (λ n. count_line n all) h.1 ∙ ap (λ n. count_line (good_count h.0.found) n) h.0.count in
    let verdict : count_verdict good all ≡ count_verdict (good_count h.0.found) (length h.0.found) = ap (λ n. count_verdict n all) h.1 ∙ ap (λ n. count_verdict (good_count h.0.found) n) h.0.count in
    ends F G c.args.rules validation names _ _ c.report_package_count.result
    (IfOk-weaker c.report_package_count.result _ _ (λ v p. reports F G c.args.rules validation names _ _ all h.0 _ v (subst (Appends _ _) line p.0) (p.1 ∙ verdict)) c.report_package_count.ensures.printed)
    c.report_package_count.ensures.fault
    (failing c.report_package_count.result (λ p. stops_at_end F G c.args.rules validation names _ _ all h.0 _ (subst (AppendsPrefix _ _) line p)) c.report_package_count.ensures.effect_on_error)
