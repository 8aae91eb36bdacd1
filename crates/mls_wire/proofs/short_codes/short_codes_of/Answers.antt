use Rattle.std.proofs.Common.{[], ◌∷◌, Err, refl, arith, length, length-append, ap}
use Rattle.std.proofs.lemmas.Result.{err_from_is_err_and}
use Rattle.std.specs.Int.{w16}
use Rattle.mls_wire.specs.Parsing.{number_at}
use Rattle.mls_wire.specs.ListLoops.{items_go_on, items_fault, items_end}
use Rattle.mls_wire.proofs.ShortLists.{short16, two_bytes}
use Rattle.mls_wire.proofs.short_codes.short_codes_of.Goals as goal

pub returns-in_err-code : goal.returns-in_err-code
returns-in_err-code c =
    let p = err_from_is_err_and c.from_residual.result c.from_residual.ensures.1 in
    let t = c.loop-body-test.ensures in
    rw (p.1, p.2) (items_fault (number_at w16) short16
    c.loop-body.codes c.loop-body.body _ _ (Err c.in_err-code.field-0.0) _ (λ e. let bad = t.1 e in absurd cc) c.in_err-code.ensures c.loop-body.invariant.so_far)

pub loop-body-smaller : goal.loop-body-smaller
loop-body-smaller c = short16 c.loop-body.body c.in_ok-code.code c.read.new.reader c.in_ok-code.ensures

pub loop-body-preserved : goal.loop-body-preserved
loop-body-preserved c =
    let t = c.loop-body-test.ensures in
    record {
      so_far = rw c.push.ensures (items_go_on (number_at w16) short16
          c.loop-body.codes c.loop-body.body c.in_ok-code.code c.read.new.reader _ (λ e. let bad = t.1 e in absurd cc) c.in_ok-code.ensures c.loop-body.invariant.so_far);
      capacity = omega (arith, c.loop-body.invariant.capacity, two_bytes c.loop-body.body c.in_ok-code.code c.read.new.reader c.in_ok-code.ensures, ap length c.push.ensures, length-append c.loop-body.codes (c.in_ok-code.code ∷ []));
    }

pub returns : goal.returns
returns c =
    let t = c.loop-body-test.ensures in
    items_end (number_at w16) short16 c.loop-body.codes c.loop-body.body _ (t.0 refl) c.loop-body.invariant.so_far
