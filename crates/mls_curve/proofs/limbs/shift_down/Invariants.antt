use Rattle.std.proofs.Common.{◌≡◌, ℕ, ◌+◌, ◌*◌, ◌^◌, ◌<◌, ◌≤◌, get_or}
use Rattle.mls_curve.specs.Limbs.{limb_weight, value_below}
use Rattle.mls_curve.proofs.limbs.shift_down.Given as goal

abbrev pub invariant-loop-place : goal.invariant-loop-place
invariant-loop-place l =
    (l.place ≤ l.len)
    × (value_below l.limbs l.len * 2 ^ 64 + l.carry * limb_weight l.place + value_below l.fn.limbs l.place
    ≡ value_below l.fn.limbs l.len + l.highest * limb_weight l.len + value_below l.fn.limbs l.place * 2 ^ 64)
    × ((k : ℕ) → k < l.place → get_or l.limbs k 0 ≡ get_or l.fn.limbs k 0)

abbrev pub decreases-loop-place : goal.decreases-loop-place
decreases-loop-place l = l.place
