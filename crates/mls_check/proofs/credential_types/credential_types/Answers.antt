use Rattle.std.proofs.Common.{arith}
use Rattle.mls_check.proofs.Used.{TypeSeen-all}
use Rattle.mls_check.proofs.credential_types.credential_types.Goals as goal

pub returns-clause-basic : goal.returns-clause-basic
returns-clause-basic c = TypeSeen-all c.args.tree.now.tree 1 c.loop-index.index c.loop-index.types.basic c.loop-index.invariant.basic (omega (arith, c.leaf_count-index-end.ensures, c.loop-index-test.false))

pub returns-clause-x509 : goal.returns-clause-x509
returns-clause-x509 c = TypeSeen-all c.args.tree.now.tree 2 c.loop-index.index c.loop-index.types.x509 c.loop-index.invariant.x509 (omega (arith, c.leaf_count-index-end.ensures, c.loop-index-test.false))
