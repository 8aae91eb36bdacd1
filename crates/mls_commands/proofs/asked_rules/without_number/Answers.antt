use Rattle.std.proofs.Common.{sym, ap, ◌∙◌, is_some}
use Rattle.std.proofs.lemmas.Bool.{true≢false}
use Rattle.mls_commands.proofs.AllowedRules.{member-strict}
use Rattle.mls_commands.proofs.asked_rules.without_number.Goals as goal

pub returns-clause-refused : goal.returns-clause-refused
returns-clause-refused c none rules without =
    let has_one = c.without.ensures.is_strict_rule ∙ member-strict c.args.asked _ without.is_member in
    absurd (true≢false (sym has_one ∙ ap is_some none))
