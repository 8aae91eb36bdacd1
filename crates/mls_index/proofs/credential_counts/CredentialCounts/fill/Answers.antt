use Rattle.std.proofs.Common.{refl, arith}
use Rattle.mls_index.proofs.Counting.{filled-more, filled-all}
use Rattle.mls_index.proofs.credential_counts.CredentialCounts.fill.Goals as goal

pub loop-index-preserved : goal.loop-index-preserved
loop-index-preserved c =
    filled-more c.args.tree.now.tree c.loop-index.index c.loop-index.self _ c.at.result c.at.ensures c.in_ok-push.ensures.pushed refl c.loop-index.invariant

pub returns : goal.returns
returns c =
    filled-all c.args.tree.now.tree c.loop-index.index c.loop-index.self (omega (arith, c.leaf_count-index-end.ensures, c.loop-index-test.false, c.loop-index.auto.index-end)) c.loop-index.invariant
