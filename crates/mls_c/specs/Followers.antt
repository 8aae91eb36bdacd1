-- What contracts read of the follower of a handle. Used by contracts.
use Rattle.std.specs.Prelude.{ℕ, ◌≡◌, ◌%◌, List, [], length}
use Rattle.mls_check.specs.Receipts.{listed}
use Rattle.mls_check.specs.Signatures.{VerifyFn}
use Rattle.mls_follow.specs.FollowerModel.{state_of, checker_of}
use Rattle.mls_follow.specs.State.{State}
use Rattle.mls_start.specs.ReceiptBytes.{receipt_size, having_learnt}
use Rattle.mls_c.specs.declared.group_follower.GroupFollower.{GroupFollower}

-- `state_in f` is the state of a follower.
abbrev pub state_in : GroupFollower → State
state_in f = state_of f.follower

-- `meaning_in f` accepts the signatures whose receipts the follower has learnt.
abbrev pub meaning_in : GroupFollower → VerifyFn
meaning_in f = listed (checker_of f.follower)

-- `AreWhole receipts`: the bytes are receipts of 32 bytes each.
abbrev pub AreWhole : List ℕ → Type 0
AreWhole receipts = length receipts % receipt_size ≡ 0

-- `good_by receipts` accepts the signatures with a receipt in the bytes.
abbrev pub good_by : List ℕ → VerifyFn
good_by receipts = having_learnt (listed []) receipts
