use Rattle.std.proofs.Common.{◌∙◌, sym}
use Rattle.mls_tree.proofs.Entering.{without-at, without-none}
use Rattle.mls_tree.proofs.unmerged_leaves.leave.Goals as goal

pub returns-in-Some : goal.returns-in-Some
returns-in-Some c = c.remove.ensures.leaves ∙ sym (without-at c.args.number c.args.list.now c.in-Some.at (sym c.position.ensures ∙ c.in-Some.is))

pub returns-in_default : goal.returns-in_default
returns-in_default c = sym (without-none c.args.number c.args.list.now (sym c.position.ensures ∙ c.in_default.is))
