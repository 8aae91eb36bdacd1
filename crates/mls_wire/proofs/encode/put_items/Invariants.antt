use Rattle.std.proofs.Common.{◌≡◌, take, Some}
use Rattle.mls_wire.specs.Encoding.{items}
use Rattle.mls_wire.specs.WriteContracts.{after}
use Rattle.mls_wire.proofs.encode.put_items.Given as goal

abbrev pub invariant-loop-value : goal.invariant-loop-value
invariant-loop-value g l = record {
  kept : l.draft.kept ≡ l.initial.draft.kept;
  more : after l.initial.draft.more (items g.T.Decode.encoding (take l.value-index l.values)) ≡ Some l.draft.more;
}
