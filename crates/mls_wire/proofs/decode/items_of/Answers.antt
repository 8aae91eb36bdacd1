use Rattle.std.proofs.Common.{Err, refl}
use Rattle.std.proofs.lemmas.Result.{err_from_is_err_and}
use Rattle.mls_wire.specs.ListLoops.{shortens, items_go_on, items_fault, items_end}
use Rattle.mls_wire.proofs.decode.items_of.Goals as goal

pub returns-in_err-item : goal.returns-in_err-item
returns-in_err-item g c =
    let p = err_from_is_err_and c.from_residual.result c.from_residual.ensures.1 in
    let t = c.loop-body-test.ensures in
    rw (p.1, p.2) (items_fault g.T.Decode.reading (shortens g.T.Decode.encoding g.T.Decode.reading g.met.T.Decode.exact g.met.T.Decode.long)
    c.loop-body.items.items c.loop-body.body _ _ (Err c.in_err-item.field-0.0) _ (λ e. let bad = t.1 e in absurd cc) c.in_err-item.ensures c.loop-body.invariant)

pub loop-body-preserved : goal.loop-body-preserved
loop-body-preserved g c =
    let t = c.loop-body-test.ensures in
    rw (c.in_ok-push.ensures.items, c.reserve_alike.ensures) (items_go_on g.T.Decode.reading (shortens g.T.Decode.encoding g.T.Decode.reading g.met.T.Decode.exact g.met.T.Decode.long)
    c.loop-body.items.items c.loop-body.body c.in_ok-item.item c.read.new.reader _ (λ e. let bad = t.1 e in absurd cc) c.in_ok-item.ensures c.loop-body.invariant)

pub returns : goal.returns
returns g c =
    let t = c.loop-body-test.ensures in
    rw c.shrink_to_fit.ensures.items (items_end g.T.Decode.reading (shortens g.T.Decode.encoding g.T.Decode.reading g.met.T.Decode.exact g.met.T.Decode.long)
    c.loop-body.items.items c.loop-body.body _ (t.0 refl) c.loop-body.invariant)
