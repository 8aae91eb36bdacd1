use Rattle.std.proofs.Common.{rules}
use Rattle.mls_tree.specs.PublicTreeModel.{plain}
use Rattle.mls_follow.proofs.Starting.{unset, unsigned}
use Rattle.mls_follow.proofs.start.check_signer.Goals as goal

pub returns-in_default-clause-refused : goal.returns-in_default-clause-refused
returns-in_default-clause-refused g c = λ asked. unset asked _ c.args.info.now (plain c.args.tree.now) (search rules)

pub returns-then-not-branch-clause-refused : goal.returns-then-not-branch-clause-refused
returns-then-not-branch-clause-refused g c = λ asked. unsigned asked _ c.args.info.now (plain c.args.tree.now) c.in-Some.signer.now (search rules) (search rules)
