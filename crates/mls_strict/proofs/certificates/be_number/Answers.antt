use Rattle.std.proofs.Common.{◌∙◌, ◌<◌, length, arith, sym}
use Rattle.mls_strict.proofs.DerElements.{number-end, number-more, three_bytes}
use Rattle.mls_strict.proofs.certificates.be_number.Goals as goal

pub overflow_mul-number : goal.overflow_mul-number
overflow_mul-number c =
    let below = three_bytes c.loop-digit.number c.loop-digit.digit-index c.loop-digit.invariant.below (omega arith) in omega (arith, below)

pub loop-digit-preserved : goal.loop-digit-preserved
loop-digit-preserved c =
    let digits = c.args.digits.now in
    let i = c.loop-digit.digit-index in
    let within : i < length digits = c.loop-digit-test.true in
    let more = number-more digits i c.loop-digit.number within c.loop-digit.invariant.below (c.type_inv.digits i).fits in
    record {
      below = rw c.from.ensures more.0;
      same = rw c.from.ensures (more.1 ∙ c.loop-digit.invariant.same);
    }

pub returns : goal.returns
returns c = sym (number-end c.args.digits.now c.loop-digit.digit-index c.loop-digit.number (omega arith)) ∙ c.loop-digit.invariant.same
