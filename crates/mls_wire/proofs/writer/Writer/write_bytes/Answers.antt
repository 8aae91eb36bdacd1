use Rattle.mls_wire.specs.WriteSequences.{after_some}
use Rattle.mls_wire.proofs.writer.Writer.write_bytes.Goals as goal

pub returns : goal.returns
returns c = rw (← c.self.view_is, c.in_ok-extend_from_slice.ensures.items) (after_some _ _)
