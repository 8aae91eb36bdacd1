use Rattle.std.proofs.Common.{◌≡◌, ℕ, ◌+◌, ◌*◌, ◌<◌, ◌≤◌, get_or}
use Rattle.mls_curve.specs.Limbs.{limb_weight, value_below}
use Rattle.mls_curve.proofs.limbs.subtract_product.Given as goal

abbrev pub invariant-loop-i : goal.invariant-loop-i
invariant-loop-i l =
    (value_below l.sum l.i + value_below l.limbs l.i * l.by ≡ value_below l.fn.sum l.i + l.borrow * limb_weight l.i) × ((k : ℕ) → l.i ≤ k → get_or l.sum k 0 ≡ get_or l.fn.sum k 0) × (value_below l.sum l.i < limb_weight l.i) × (l.borrow ≤ l.by)
