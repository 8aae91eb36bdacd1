use Rattle.std.proofs.Common.{◌≡◌, [], ◌∷◌, refl}
use Rattle.mls_curve.specs.declared.curve.Curve.{Curve}
use Rattle.mls_curve.specs.declared.curve.Curve.TheVariants.{P256, P384, P521}
use Rattle.mls_curve.specs.Curves.{coefficient, prime}
use Rattle.mls_curve.specs.CurvesInternal.{limb_count}
use Rattle.mls_curve.specs.Limbs.{limb_weight, value_below}
use Rattle.mls_curve.proofs.CurveLemmas.{prime_from_3, weight_inverse, weight_inverts}
use Rattle.mls_curve.proofs.PointLemmas.{point_by_equation}
use Rattle.mls_curve.proofs.ResidueLemmas.{equation_by_quotients, quotient_limit}
use Rattle.mls_curve.proofs.equation.is_point.Goals as goal

three_is : (curve : Curve) → value_below (3 ∷ 0 ∷ 0 ∷ 0 ∷ 0 ∷ 0 ∷ 0 ∷ 0 ∷ 0 ∷ []) (limb_count curve) ≡ 3
unfolding value_below limb_weight limb_count
three_is P256 = refl
three_is P384 = refl
three_is P521 = refl

pub negated-requires : goal.negated-requires
negated-requires c = rw (three_is c.args.curve) (prime_from_3 c.args.curve)

pub is_multiple-requires : goal.is_multiple-requires
is_multiple-requires c =
    quotient_limit _ _ _ _ _ _ c.product-factor.ensures.fits (c.is_below.ensures.0 c.if-not-is_below.false) c.product-summand.ensures.fits c.product-sum.ensures.quotient

pub returns : goal.returns
returns c =
    let curve = c.args.curve in
    let x = value_below c.args.x.now (limb_count curve) in
    let y = value_below c.args.y.now (limb_count curve) in
    let minus_three = rw (three_is curve) at c.negated.ensures in
    let summand = rw c.coefficient.ensures at c.product-summand.ensures.quotient in
    let equation =
    equation_by_quotients (prime curve) _ (weight_inverse curve) x y _ _ (coefficient curve) _ _ _ (prime_from_3 curve) minus_three c.negated-2.ensures (weight_inverts curve) c.product-factor.ensures.quotient summand c.product-sum.ensures.quotient in
    point_by_equation curve x y c.is_multiple.result (c.is_below.ensures.0 c.if-not-is_below.false) (c.is_below-else-not-is_below.ensures.0 c.if-not-is_below-2.false) (
      λ t. equation.0 (c.is_multiple.ensures.0 t),
      λ e. c.is_multiple.ensures.1 (equation.1 e),
    )
