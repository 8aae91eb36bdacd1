use Rattle.std.proofs.Common.{arith}
use Rattle.mls_index.proofs.Counting.{but-changed}
use Rattle.mls_index.specs.CredentialCountsInternal.{HasCapacityFor}
use Rattle.mls_index.proofs.credential_counts.CredentialCounts.stage.Goals as goal

pub returns-clause-counts : goal.returns-clause-counts
returns-clause-counts c = λ t h same.
    let new = c.args.tree.now.tree in
    let ready = c.make_room.new.self in
    let capacity : HasCapacityFor new ready = omega (arith, c.in_ok-make_room.ensures.capacity, c.leaf_count.ensures) in
    c.in_ok-insert_all.ensures.counts capacity (but-changed c.args.node_indices.now t new ready same (c.in_ok-make_room.ensures.same t (c.revert.ensures t h)).counted)
