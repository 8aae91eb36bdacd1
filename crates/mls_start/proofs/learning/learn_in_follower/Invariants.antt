use Rattle.std.proofs.Common.{◌≡◌, ℕ, ◌*◌, length, drop}
use Rattle.mls_follow.specs.FollowerModel.{checker_of, state_of}
use Rattle.mls_start.specs.ReceiptBytes.{with_receipts, having_learnt}
use Rattle.mls_start.proofs.learning.learn_in_follower.Given as goal

-- what is still to be learnt makes all that was to be learnt, and the first receipts have been learnt
abbrev pub invariant-receipts : goal.invariant-receipts
invariant-receipts g l =
    let G = g.C.SignatureCheck.meaning in
    (having_learnt (G (checker_of l.follower)) l.rest ≡ having_learnt (G (checker_of l.fn.follower)) l.receipts)
    × (state_of l.follower ≡ state_of l.fn.follower)
    × (count : ℕ) × (G (checker_of l.follower) ≡ with_receipts count (G (checker_of l.fn.follower)) l.receipts)
    × (l.rest ≡ drop (32 * count) l.receipts)

abbrev pub decreases-receipts : goal.decreases-receipts
decreases-receipts g l = length l.rest
