use Rattle.std.proofs.Common.{◌≡◌, take, Some}
use Rattle.mls_wire.specs.Encoding.{items}
use Rattle.mls_wire.specs.SaturatingSizes.{size}
use Rattle.mls_wire.proofs.size.size_of_items.Given as goal

abbrev pub invariant-loop-value : goal.invariant-loop-value
invariant-loop-value g l = record {
  size : Some l.total ≡ size (items g.T.Decode.encoding (take l.value-index l.values));
}
