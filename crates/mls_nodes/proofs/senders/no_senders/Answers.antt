use Rattle.std.proofs.Common.{[], arith}
use Rattle.mls_wire.specs.EncodedSizes.{fits_all, no_size}
use Rattle.mls_nodes.specs.Layout.{external_sender}
use Rattle.mls_nodes.proofs.senders.no_senders.Goals as goal

pub unreachable-requires : goal.unreachable-requires
unreachable-requires c = c.in-Err.ensures.1 (rw c.new.ensures.items (fits_all external_sender [] 0 0 (omega arith) (no_size external_sender) (omega arith)))
