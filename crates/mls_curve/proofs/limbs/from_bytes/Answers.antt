use Rattle.std.proofs.Common.{◌≡◌, ◌∙◌, ℕ, ◌<◌, ◌≤◌, ◌+◌, ◌*◌, ◌%◌, ◌^◌, arith, sym, refl, length, get_or}
use borrow.Author.Rules.{rules}
use Rattle.mls_curve.specs.Limbs.{value_below}
use Rattle.mls_curve.proofs.ByteLemmas.{big_endian_drop, big_endian_end, more_eight, more_one, no_carry, power_none}
use Rattle.mls_curve.proofs.LimbLemmas.{value_of_zeros}
use Rattle.mls_curve.proofs.limbs.from_bytes.Goals as goal

pub loop-i-init : goal.loop-i-init
loop-i-init c =
    let none = value_of_zeros 9 c.args.len in
    (omega arith, rw none (omega (arith, power_none)), rw none refl)

pub loop-i-smaller : goal.loop-i-smaller
loop-i-smaller c = omega arith

pub loop-i-preserved : goal.loop-i-preserved
loop-i-preserved c =
    let bytes = c.args.bytes.now in
    let l = c.loop-i in
    let v : ℕ = value_below l.limbs c.args.len in
    let byte : ℕ = get_or bytes l.i 0 in
    let h : l.i < length bytes % 8 = c.loop-i-test.true in
    let below : v * 256 + byte < 256 ^ (l.i + 1) = more_one v byte l.i (c.type_inv.bytes l.i).fits l.invariant.1 in
    let number : value_below c.multiply.new.limbs c.args.len ≡ v * 256 + byte =
    no_carry (l.i + 1) c.args.len _ _ _ (omega (arith, c.requires.bytes)) below (rw c.from.ensures at c.multiply.ensures) in
    rw number (omega arith, below, sym (big_endian_drop bytes l.i v (omega arith)) ∙ l.invariant.2)

pub loop-i-2-init : goal.loop-i-2-init
loop-i-2-init c = (omega arith, omega arith, c.loop-i.invariant.1, c.loop-i.invariant.2)

pub limb_from_bytes-requires : goal.limb_from_bytes-requires
limb_from_bytes-requires c = omega (arith, c.loop-i-2.invariant.0, c.loop-i-2.invariant.1)

pub loop-i-2-preserved : goal.loop-i-2-preserved
loop-i-2-preserved c =
    let bytes = c.args.bytes.now in
    let l = c.loop-i-2 in
    let v : ℕ = value_below l.limbs c.args.len in
    let room : l.i + 8 ≤ length bytes = omega arith in
    let below : v * 2 ^ 64 + c.limb_from_bytes.result < 256 ^ (l.i + 8) = more_eight v _ l.i (search rules) l.invariant.2 in
    let number : value_below c.shift_up.new.limbs c.args.len ≡ v * 2 ^ 64 + c.limb_from_bytes.result =
    no_carry (l.i + 8) c.args.len _ _ _ (omega (arith, c.requires.bytes)) below c.shift_up.ensures in
    rw number (omega arith, omega arith, below, sym (c.limb_from_bytes.ensures v) ∙ l.invariant.3)

pub returns : goal.returns
returns c =
    let l = c.loop-i-2 in
    sym (big_endian_end c.args.bytes.now l.i _ (omega arith)) ∙ l.invariant.3
