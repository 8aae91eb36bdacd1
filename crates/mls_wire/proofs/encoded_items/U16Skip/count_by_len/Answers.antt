use Rattle.mls_wire.proofs.CountedCodes.{pairs_counted}
use Rattle.mls_wire.proofs.encoded_items.U16Skip.count_by_len.Goals as goal

pub returns : goal.returns
returns c = pairs_counted c.pairs.result c.args.body.now c.pairs.ensures
