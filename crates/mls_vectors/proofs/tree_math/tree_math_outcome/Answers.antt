use Rattle.std.proofs.Common.{inr, arith}
use Rattle.mls_vectors.proofs.Columns.{leaves_low, leaves_some}
use Rattle.mls_vectors.proofs.tree_math.tree_math_outcome.Goals as goal

pub node_index_outcome-requires-clause-low : goal.node_index_outcome-requires-clause-low
node_index_outcome-requires-clause-low c = let s = c.in-Some.ensures.some in omega (arith, s.1, leaves_low s.0)

pub node_index_outcome-requires-clause-some : goal.node_index_outcome-requires-clause-some
node_index_outcome-requires-clause-some c = let s = c.in-Some.ensures.some in omega (arith, s.1, leaves_some s.0)

pub returns-in-Some : goal.returns-in-Some
returns-in-Some c =
    let s = c.in-Some.ensures.some in
    inr (record { tree = s.0; size = s.2; outcome = c.node_index_outcome.ensures s.0 s.1 })
