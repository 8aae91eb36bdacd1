use Rattle.std.proofs.Common.{refl}
use Rattle.std.proofs.lemmas.Result.{err_from_is_err_and}
use Rattle.mls_wire.specs.StoredItems.{one_more_counted, no_more, all_counted}
use Rattle.mls_wire.proofs.encoded_items.count_items.Goals as goal

pub returns-in_err-skip : goal.returns-in_err-skip
returns-in_err-skip g c =
    let t = c.loop-body-test.ensures in
    let p = err_from_is_err_and c.from_residual.result c.from_residual.ensures.1 in
    rw p.1 (no_more g.T.Decode.encoding g.T.Decode.reading g.met.T.Decode.exact g.met.T.Decode.long
    c.args.body c.loop-body.body c.loop-body.count (λ e. let bad = t.1 e in absurd cc) c.in_err-skip.ensures c.loop-body.invariant)

pub loop-body-preserved : goal.loop-body-preserved
loop-body-preserved g c =
    let t = c.loop-body-test.ensures in
    one_more_counted g.T.Decode.encoding g.T.Decode.reading g.met.T.Decode.exact g.met.T.Decode.long
    c.args.body c.loop-body.body c.skip.new.reader c.loop-body.count c.in_ok-skip.ensures.0
    (λ e. let bad = t.1 e in absurd cc) c.in_ok-skip.ensures.1 c.loop-body.invariant

pub returns : goal.returns
returns g c =
    let t = c.loop-body-test.ensures in
    all_counted g.T.Decode.encoding g.T.Decode.reading g.met.T.Decode.exact g.met.T.Decode.long
    c.args.body c.loop-body.body c.loop-body.count (t.0 refl) c.loop-body.invariant
