use Rattle.std.proofs.Common.{◌∙◌, ap, Some, ℕ}
use Rattle.mls_wire.specs.EncodedSizes.{size_nothing, size_added, size_refused, size_all}
use Rattle.mls_wire.proofs.size.size_of_items.Goals as goal

pub loop-value-init : goal.loop-value-init
loop-value-init g c = record { size = size_nothing g.T.Decode.encoding }

pub returns-in_err-size : goal.returns-in_err-size
returns-in_err-size g c = c.from_residual.ensures ∙ size_refused g.T.Decode.encoding c.args.values.now c.loop-value.value-index c.value-item.result c.loop-value-test.true c.value-item.is c.in_err-size.ensures

pub loop-value-preserved : goal.loop-value-preserved
loop-value-preserved g c = record {
  size = ap (λ (n : ℕ). Some n) c.saturating_add-total.ensures
      ∙ size_added g.T.Decode.encoding c.args.values.now c.loop-value.value-index c.value-item.result c.loop-value.total c.in_ok-size.field-0 c.loop-value-test.true c.value-item.is c.loop-value.invariant.size c.in_ok-size.ensures;
}

pub returns : goal.returns
returns g c = size_all g.T.Decode.encoding c.args.values.now c.loop-value.value-index c.loop-value.total c.loop-value-test.false c.loop-value.invariant.size
