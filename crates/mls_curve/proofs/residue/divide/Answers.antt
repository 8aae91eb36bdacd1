use Rattle.std.proofs.Common.{◌≤◌, arith}
use lib.Bits.{and_mask}
use Rattle.mls_curve.proofs.LimbLemmas.{limb_weight_below, lowest_of}
use Rattle.mls_curve.proofs.ResidueLemmas.{divide_step}
use Rattle.mls_curve.proofs.residue.divide.Goals as goal

pub returns-clause-quotient : goal.returns-clause-quotient
returns-clause-quotient c =
    let n = c.limb_count-len.ensures.count in
    let least = rw n at c.limb_count-len.ensures.least in
    let first = lowest_of c.args.limbs.now _ least (c.fits-limbs 0) in
    let times = rw (← first) at c.from.ensures in
    let borrow : c.from-2.result ≤ c.from.result = omega (arith, c.from.ensures, c.from-2.ensures, c.subtract_product-borrow.ensures.limit) in
    let rest = rw (n, ← c.from.ensures, ← c.from-2.ensures) at c.subtract_product-borrow.ensures.value in
    let moved = rw (and_mask _ 64, n) at c.shift_down.ensures in
    divide_step _ _ _ _ _ _ _ _ _ _ _ _ c.complement.ensures (limb_weight_below _ least) c.inverse.ensures times borrow rest moved c.shift_down.type_inv

pub returns-clause-limit : goal.returns-clause-limit
returns-clause-limit c =
    omega (arith, c.requires, c.from.ensures)
