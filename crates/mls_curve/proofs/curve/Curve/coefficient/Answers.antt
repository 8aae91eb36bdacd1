use Rattle.std.proofs.Common.{refl}
use Rattle.mls_curve.specs.Curves.{coefficient}
use Rattle.mls_curve.specs.CurvesInternal.{limb_count}
use Rattle.mls_curve.specs.Limbs.{limb_weight, value_below}
use Rattle.mls_curve.proofs.curve.Curve.coefficient.Goals as goal

pub returns-in-P256 : goal.returns-in-P256
unfolding value_below limb_weight limb_count coefficient
returns-in-P256 c = rw c.in-P256.is refl

pub returns-in-P384 : goal.returns-in-P384
unfolding value_below limb_weight limb_count coefficient
returns-in-P384 c = rw c.in-P384.is refl

pub returns-in-P521 : goal.returns-in-P521
unfolding value_below limb_weight limb_count coefficient
returns-in-P521 c = rw c.in-P521.is refl
