use Rattle.std.proofs.Common.{refl}
use Rattle.mls_curve.specs.Curves.{prime}
use Rattle.mls_curve.specs.CurvesInternal.{limb_count}
use Rattle.mls_curve.specs.Limbs.{limb_weight}
use Rattle.mls_curve.proofs.curve.Curve.inverse.Goals as goal

pub returns-in-P256 : goal.returns-in-P256
unfolding limb_weight limb_count prime
returns-in-P256 c = rw c.in-P256.is refl

pub returns-in-P384 : goal.returns-in-P384
unfolding limb_weight limb_count prime
returns-in-P384 c = rw c.in-P384.is refl

pub returns-in-P521 : goal.returns-in-P521
unfolding limb_weight limb_count prime
returns-in-P521 c = rw c.in-P521.is refl
