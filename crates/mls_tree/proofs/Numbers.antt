-- How many leaves a height has.
use Rattle.std.proofs.Common.{◌≡◌, ℕ, zero, suc, ◌*◌, ◌^◌, ◌%◌, ◌<◌, ◌≤◌, refl, arith}
use Rattle.std.proofs.Math.Nat.{two-pow-succ, pow-le-pow_right}
use Rattle.mls_tree.specs.TreeInternal.{leaves_at}

pub leaves_at-pow : (h : ℕ) → leaves_at h ≡ 2 ^ h
leaves_at-pow zero = refl
leaves_at-pow (suc h) = omega (arith, leaves_at-pow h, two-pow-succ h)

pub leaves_at-positive : (h : ℕ) → 0 < leaves_at h
leaves_at-positive zero = omega arith
leaves_at-positive (suc h) = omega (arith, leaves_at-positive h)

pub leaves_at-le : (h k : ℕ) → h ≤ k → leaves_at h ≤ leaves_at k
leaves_at-le h k l = let p : 2 ^ h ≤ 2 ^ k = pow-le-pow_right (omega arith) l in omega (arith, leaves_at-pow h, leaves_at-pow k)

pub leaves_at-low : (h : ℕ) → h ≤ 20 → leaves_at h ≤ 1048576
leaves_at-low h l = let p : 2 ^ h ≤ 2 ^ 20 = pow-le-pow_right (omega arith) l in omega (arith, leaves_at-pow h)

-- `1 << h`
pub shifted : (h : ℕ) → h ≤ 20 → 1 * 2 ^ h % 4294967296 ≡ leaves_at h
shifted h l = omega (arith, leaves_at-pow h, leaves_at-low h l)

-- only the greatest height has the greatest number of leaves
pub leaves_at-full : (h : ℕ) → h ≤ 20 → (h ≡ 20 → ⊥) → leaves_at h ≡ 1048576 → ⊥
leaves_at-full h l n e = let a : leaves_at h ≤ leaves_at 19 = leaves_at-le h 19 (omega arith) in omega (arith, e)
