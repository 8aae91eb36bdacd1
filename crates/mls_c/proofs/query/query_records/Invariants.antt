use Rattle.std.proofs.Common.{◌≡◌, ◌++◌, length}
use Rattle.mls_follow.specs.FollowerModel.{state_of}
use Rattle.mls_start.specs.SignaturesLeft.{signatures_left}
use Rattle.mls_c.specs.Queries.{query_records}
use Rattle.mls_c.proofs.query.query_records.Given as goal

-- the records so far, and those of the signatures that are left, are all
abbrev pub invariant-signatures : goal.invariant-signatures
invariant-signatures g l =
    let G = g.C.SignatureCheck.meaning l.checker in
    query_records G (signatures_left (state_of l.follower) l.fn.left) ≡ l.records.items ++ query_records G (signatures_left (state_of l.follower) l.left)

abbrev pub decreases-signatures : goal.decreases-signatures
decreases-signatures g l = length (signatures_left (state_of l.follower) l.left)
