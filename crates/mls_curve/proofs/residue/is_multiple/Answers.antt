use Rattle.std.proofs.Common.{◌<◌, ◌∙◌, arith, inl, inr}
use Rattle.mls_curve.specs.Curves.{prime}
use Rattle.mls_curve.proofs.CurveLemmas.{prime_fits, prime_from_3}
use Rattle.mls_curve.proofs.LimbLemmas.{value_below-lt, value_of_zeros}
use Rattle.mls_curve.proofs.ResidueLemmas.{is_modulus, modulus_carries, multiple_if, multiple_only_if}
use Rattle.mls_curve.proofs.residue.is_multiple.Goals as goal

pub returns-then-are_equal : goal.returns-then-are_equal
returns-then-are_equal c =
    let curve = c.args.curve in
    let pos : 0 < prime curve = omega (arith, prime_from_3 curve) in
    let n = c.limb_count-len.ensures.count in
    let none = rw n at (c.are_equal.ensures.0 c.if-are_equal.true ∙ value_of_zeros 9 _) in
    let small = value_below-lt c.args.limbs.now _ c.fits-limbs in
    let sum = rw n at c.add_product.ensures.value in
    let same = is_modulus _ _ _ _ _ _ c.complement.ensures (prime_fits curve) small sum none in
    (λ _. multiple_if _ _ pos (inl same), λ _. c.if-are_equal.true)

pub returns-else-are_equal : goal.returns-else-are_equal
returns-else-are_equal c =
    let curve = c.args.curve in
    let pos : 0 < prime curve = omega (arith, prime_from_3 curve) in
    let n = c.limb_count-len.ensures.count in
    let sum = rw n at c.add_product.ensures.value in
    let limit = rw n at c.add_product.ensures.limit in
    let zero = value_of_zeros 9 c.limb_count-len.result in
    let first = rw (zero, n) at c.are_equal.ensures in
    let second = rw (zero, n) at c.are_equal-else-are_equal.ensures in (
      λ t. multiple_if _ _ pos (inr (second.0 t)),
      λ h.
          elim (multiple_only_if _ _ c.requires h) [
            | inl same ↦ absurd (let t = first.1 (modulus_carries _ _ _ _ _ _ c.complement.ensures limit sum same) in cc)
            | inr none ↦ second.1 none
          ],
    )
