use Rattle.std.proofs.Common.{refl}
use Rattle.std.proofs.lemmas.Result.{err_from_is_err_and}
use Rattle.mls_nodes.proofs.RestOfTree.{rest_whole, no_vector}
use Rattle.mls_nodes.proofs.ratchet_tree.reader.RatchetTreeReader.new.Goals as goal

pub returns-in_err-body-clause-starts : goal.returns-in_err-body-clause-starts
returns-in_err-body-clause-starts c =
    let p = err_from_is_err_and c.from_residual.result c.from_residual.ensures.1 in
    rw (p.1) (λ nodes e le. no_vector c.args.bytes.now (c.in_err-body.ensures.vector le) nodes e)

pub returns-clause-starts : goal.returns-clause-starts
returns-clause-starts c =
    (c.in_ok-body.ensures.vector.0, refl, rest_whole c.args.bytes.now c.in_ok-body.body c.in_ok-body.after c.in_ok-body.ensures.vector.1)
