use Rattle.mls_tree.specs.PublicTreeModel.{plain}
use Rattle.mls_follow.proofs.Starting.{tree_fails}
use Rattle.mls_follow.proofs.start.validated_requirements.Goals as goal

pub returns-in-Err-clause-refused : goal.returns-in-Err-clause-refused
returns-in-Err-clause-refused g c =
    rw c.from.ensures (λ asked. tree_fails asked _ c.args.info.now (plain c.group_requirements.new.tree) c.in-Err.fault c.in-Err.ensures.refused)
