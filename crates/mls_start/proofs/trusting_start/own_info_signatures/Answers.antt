use Rattle.std.proofs.lemmas.Result.{IfOk-weaker}
use Rattle.mls_tree.specs.PublicTreeModel.{plain}
use Rattle.mls_start.proofs.StartLists.{info-own}
use Rattle.mls_start.proofs.trusting_start.own_info_signatures.Goals as goal

pub returns-in-Ok : goal.returns-in-Ok
returns-in-Ok c =
    IfOk-weaker c.info_signatures-signatures.result _ _ (λ v is. info-own c.args.info.now (plain c.in-Ok.tree) v.items is c.in-Ok.ensures.tree) c.info_signatures-signatures.ensures
