use Rattle.std.proofs.Common.{arith}
use Rattle.mls_curve.proofs.CurveLemmas.{prime_fits, prime_from_3}
use Rattle.mls_curve.proofs.LimbLemmas.{value_of_zeros}
use Rattle.mls_curve.proofs.ResidueLemmas.{negated_is}
use Rattle.mls_curve.proofs.residue.negated.Goals as goal

pub returns : goal.returns
returns c =
    let curve = c.args.curve in
    let n = c.limb_count-len.ensures.count in
    let one = rw n at c.subtract_product.ensures.value in
    let two = rw n at c.subtract_product-2.ensures.value in
    negated_is _ _ _ _ _ _ _ _ _ c.complement.ensures (omega (arith, prime_from_3 curve)) (prime_fits curve) c.requires (value_of_zeros 9 _) (rw n at c.subtract_product-2.ensures.fits) one c.subtract_product.ensures.limit two c.subtract_product-2.ensures.limit
