-- Sizes of the numbers of the curves, and an inverse of the weight of their limbs.
use Rattle.std.specs.Prelude.{◌≡◌, ℕ, ◌*◌, ◌^◌, ◌<◌, ◌≤◌, ◌%◌}
use Rattle.std.proofs.Common.{refl}
use lib.Dec.{lit<, lit≤}
use Rattle.mls_curve.specs.declared.curve.Curve.{Curve}
use Rattle.mls_curve.specs.declared.curve.Curve.TheVariants.{P256, P384, P521}
use Rattle.mls_curve.specs.Curves.{coordinate_length, prime}
use Rattle.mls_curve.specs.CurvesInternal.{limb_count}
use Rattle.mls_curve.specs.Limbs.{limb_weight}

pub coordinate_fits : (curve : Curve) → coordinate_length curve ≤ 8 * limb_count curve
unfolding coordinate_length limb_count
coordinate_fits P256 = lit≤ tt
coordinate_fits P384 = lit≤ tt
coordinate_fits P521 = lit≤ tt

pub prime_fits : (curve : Curve) → prime curve < limb_weight (limb_count curve)
unfolding prime limb_weight limb_count
prime_fits P256 = lit< tt
prime_fits P384 = lit< tt
prime_fits P521 = lit< tt

pub prime_from_3 : (curve : Curve) → 3 ≤ prime curve
unfolding prime
prime_from_3 P256 = lit≤ tt
prime_from_3 P384 = lit≤ tt
prime_from_3 P521 = lit≤ tt

-- `weight_inverse curve` is the inverse, modulo the prime, of the square of the limbs' weight
pub weight_inverse : Curve → ℕ
weight_inverse P256 = 0x5fffffffffffffffb0000000ffffffff8000000070000000cfffffff7
weight_inverse P384 = 0xfffffc63ffffff12000000e00000018100000141000000a10000000bffffffb60000034100000449fffffff5fffffa08
weight_inverse P521 = 2 ^ 411

pub weight_inverts : (curve : Curve) → limb_weight (limb_count curve) * limb_weight (limb_count curve) * weight_inverse curve % prime curve ≡ 1
unfolding limb_weight limb_count prime weight_inverse
weight_inverts P256 = refl
weight_inverts P384 = refl
weight_inverts P521 = refl
