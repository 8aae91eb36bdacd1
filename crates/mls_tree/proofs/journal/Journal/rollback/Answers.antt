use Rattle.std.proofs.Common.{◌∙◌, refl}
use Rattle.mls_tree.proofs.TakenBack.{undone-step}
use Rattle.mls_tree.proofs.journal.Journal.rollback.Goals as goal

pub loop-former-init : goal.loop-former-init
loop-former-init c = refl

pub loop-former-preserved : goal.loop-former-preserved
loop-former-preserved c =
    undone-step c.loop-former.tree.tree c.rollback.new.tree.tree c.loop-former.self.formers.items c.pop.new.self.items c.in-Some.former c.in-Some.ensures.items c.rollback.ensures.tree
    ∙ c.loop-former.invariant
