use Rattle.std.proofs.Common.{◌≡◌, ◌∙◌, sym, rules, tests}
use Rattle.std.proofs.lemmas.Iterator.{YieldsList-from_slice}
use Rattle.std.proofs.lemmas.Iterator.Search.{position_from_yields_List}
use Rattle.mls_check.proofs.Lines.{is_end, found_end, line_found, line_missing}
use Rattle.mls_check.proofs.receipts.split_line.Goals as goal

pub returns-in-Some-clause-line : goal.returns-in-Some-clause-line
returns-in-Some-clause-line c =
    let found : c.position.result ≡ found_end c.args.bytes.now = position_from_yields_List is_end _ _ c.position.result c.position.ensures.ran (YieldsList-from_slice c.args.bytes.now (cc)) (λ x b q k. search (rules, tests)) in
    line_found c.args.bytes.now c.in-Some.end (sym c.in-Some.is ∙ found)

pub returns-in-None-clause-line : goal.returns-in-None-clause-line
returns-in-None-clause-line c =
    let found : c.position.result ≡ found_end c.args.bytes.now = position_from_yields_List is_end _ _ c.position.result c.position.ensures.ran (YieldsList-from_slice c.args.bytes.now (cc)) (λ x b q k. search (rules, tests)) in
    line_missing c.args.bytes.now c.requires (sym c.in-None.is ∙ found)
