-- How the numbers of the curves are held in limbs. Internal: no public contract uses this.
use Rattle.std.specs.Prelude.{ℕ}
use Rattle.mls_curve.specs.declared.curve.Curve.{Curve}
use Rattle.mls_curve.specs.declared.curve.Curve.TheVariants.{P256, P384, P521}

-- `limb_count curve` is the number of limbs of a coordinate.
unfoldable pub limb_count : Curve → ℕ
limb_count P256 = 4
limb_count P384 = 6
limb_count P521 = 9
