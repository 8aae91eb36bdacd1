use Rattle.std.proofs.Common.{ap, length}
use Rattle.std.proofs.lemmas.Result.{err_from_is_err_and}
use Rattle.mls_nodes.proofs.RestOfTree.{rest_ends, rest_blank, rest_trailing}
use Rattle.mls_nodes.proofs.ratchet_tree.reader.check_end.Goals as goal

pub returns-then-progress-clause-fault : goal.returns-then-progress-clause-fault
returns-then-progress-clause-fault c =
    rest_blank c.args.progress.node_index c.args.progress.is_last_non_blank c.args.after.now c.args.body.now (ap length c.requires) c.if-not-progress.true

pub returns-else-progress-clause-fault : goal.returns-else-progress-clause-fault
returns-else-progress-clause-fault c =
    rest_blank c.args.progress.node_index c.args.progress.is_last_non_blank c.args.after.now c.args.body.now (ap length c.requires) c.if-not-progress.true

pub returns-in_err-finish-clause-fault : goal.returns-in_err-finish-clause-fault
returns-in_err-finish-clause-fault c =
    let p = err_from_is_err_and c.from_residual.result c.from_residual.ensures.1 in
    rw (p.1) (rest_trailing c.args.progress.node_index c.args.progress.is_last_non_blank c.args.after.now c.args.body.now (ap length c.requires) c.in_err-finish.ensures.0)

pub returns-clause-end : goal.returns-clause-end
returns-clause-end c =
    rest_ends c.args.progress.node_index c.args.progress.is_last_non_blank c.args.after.now c.args.body.now (ap length c.requires) c.if-not-progress.false c.args.progress.bounded c.in_ok-finish.ensures
