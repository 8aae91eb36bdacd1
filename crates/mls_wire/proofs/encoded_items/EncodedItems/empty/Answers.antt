use Rattle.mls_wire.specs.StoredItems.{empty_is_some, none_stored}
use Rattle.mls_wire.proofs.encoded_items.EncodedItems.empty.Goals as goal

pub invariant_of-result : goal.invariant_of-result
invariant_of-result g c = empty_is_some g.T.Decode.reading c.empty.result c.empty.ensures

pub returns : goal.returns
returns g c = none_stored g.T.Decode.reading c.empty.result c.empty.ensures
