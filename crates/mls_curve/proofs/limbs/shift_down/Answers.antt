use Rattle.std.proofs.Common.{◌≡◌, ◌+◌, ◌-◌, ◌*◌, ◌<◌, length, refl, ◌∙◌, ap, arith, get_or-set_other}
use borrow.Author.Rules.{rules}
use Rattle.mls_curve.proofs.LimbLemmas.{limb_weight-zero, shift_down_step, value_below-zero}
use Rattle.mls_curve.proofs.limbs.shift_down.Goals as goal

pub loop-place-init : goal.loop-place-init
loop-place-init c = (omega arith, omega arith, λ k h. refl)

pub loop-place-preserved : goal.loop-place-preserved
loop-place-preserved c =
    let l = c.loop-place in
    let i = l.place - 1 in
    let e : l.place ≡ i + 1 = omega arith in
    let within : i < length l.limbs = search rules in (
      omega arith,
      shift_down_step l.limbs c.args.limbs.now i c.args.len _ _ (omega arith) within (l.invariant.2 i (omega arith)) (rw e at l.invariant.1),
      λ k h. get_or-set_other l.limbs i k _ 0 (λ e. omega arith) ∙ l.invariant.2 k (omega arith),
    )

pub returns : goal.returns
returns c =
    let l = c.loop-place in
    let end : l.place ≡ 0 = omega arith in
    omega (arith, rw end at l.invariant.1, value_below-zero c.args.limbs.now, ap (λ t. l.carry * t) limb_weight-zero)
