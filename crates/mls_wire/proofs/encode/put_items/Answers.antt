use Rattle.std.proofs.Common.{◌∙◌, refl}
use Rattle.std.proofs.lemmas.Result.{err_from_is_err_and}
use Rattle.mls_wire.specs.WriteSequences.{items_push, items_fails, items_all, nothing_put}
use Rattle.mls_wire.proofs.encode.put_items.Goals as goal

pub loop-value-init : goal.loop-value-init
loop-value-init g c = record { kept = refl; more = nothing_put g.T.Decode.encoding c.args.draft.now.more }

pub returns-in_err-put : goal.returns-in_err-put
returns-in_err-put g c =
    let p = err_from_is_err_and c.from_residual.result c.from_residual.ensures.1 in
    rw (p.1, p.2) (items_fails g.T.Decode.encoding c.in_err-put.field-0.0 c.args.values.now c.loop-value.value-index c.value-item.result c.args.draft.now c.loop-value.draft c.put.new.draft
    c.loop-value-test.true c.value-item.is c.loop-value.invariant.kept c.in_err-put.ensures)

pub loop-value-preserved : goal.loop-value-preserved
loop-value-preserved g c = record {
  kept = c.in_ok-put.ensures.1 ∙ c.loop-value.invariant.kept;
  more = items_push g.T.Decode.encoding c.args.values.now c.loop-value.value-index c.value-item.result c.args.draft.now.more c.loop-value.draft.more _ c.loop-value-test.true c.value-item.is
      c.loop-value.invariant.more c.in_ok-put.ensures.0;
}

pub returns : goal.returns
returns g c = (items_all g.T.Decode.encoding c.args.values.now c.loop-value.value-index c.args.draft.now.more c.loop-value.draft.more c.loop-value-test.false c.loop-value.invariant.more, c.loop-value.invariant.kept)
