use Rattle.std.proofs.Common.{◌<◌, ◌^◌, length, refl, ◌∙◌, arith, get_or-set_other}
use borrow.Author.Rules.{rules}
use lib.Bits.{and_mask}
use Rattle.mls_curve.proofs.LimbLemmas.{borrow_limit, borrowed, limit_step, value_below-zero, value_below-suc, value_below-set, limb_weight-zero, limb_weight-suc, subtract_product_step}
use Rattle.mls_curve.proofs.limbs.subtract_product.Goals as goal

pub loop-i-init : goal.loop-i-init
loop-i-init c = (
  rw (value_below-zero c.args.sum.now, value_below-zero c.args.limbs.now, limb_weight-zero) (omega arith),
  λ k h. refl,
  rw (value_below-zero c.args.sum.now, limb_weight-zero) (omega arith),
  omega arith,
)

pub loop-i-preserved : goal.loop-i-preserved
loop-i-preserved c =
    let l = c.loop-i in
    let within : l.i < length l.sum = search rules in
    let same = l.invariant.1 l.i (omega arith) in
    let sub = c.overflowing_sub-rest.ensures in
    let value = rw (and_mask _ 64) at sub.value in
    let less = rw (and_mask _ 64) at sub.overflow in
    let fits : c.overflowing_sub-rest.result.0 < 2 ^ 64 = search rules in
    let rest = borrowed _ _ _ _ fits (omega arith) (search rules) value less in (
      rw (c.from.ensures, value_below-set l.sum l.i _ within, value_below-suc c.args.sum.now l.i, value_below-suc c.args.limbs.now l.i, limb_weight-suc, ← same) (subtract_product_step _ _ _ _ _ _ _ _ _ _ l.invariant.0 rest),
      λ k h. get_or-set_other l.sum l.i k _ 0 (λ e. omega arith) ∙ l.invariant.1 k (omega arith),
      rw (value_below-set l.sum l.i _ within, limb_weight-suc) (limit_step _ _ _ l.invariant.2 fits),
      rw c.from.ensures (borrow_limit _ _ _ _ _ (search rules) l.invariant.3 less),
    )
