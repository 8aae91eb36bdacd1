use Rattle.std.proofs.Common.{◌∙◌, sym}
use Rattle.mls_apply.proofs.PathKeys.{new_keys, no_new_keys}
use Rattle.mls_apply.proofs.path_rules.has_new_keys.Goals as goal

pub returns-then-not-branch : goal.returns-then-not-branch
returns-then-not-branch c = no_new_keys c.args.path.now c.args.tree.now.tree (sym c.if-not-branch.true ∙ c.in_ok-has_distinct_keys.ensures)

pub returns : goal.returns
returns c =
    new_keys c.args.path.now c.args.tree.now.tree c.uses_keys.result c.uses_keys.ensures (sym c.if-not-branch.false ∙ c.in_ok-has_distinct_keys.ensures)
