use Rattle.std.proofs.Common.{refl}
use Rattle.mls_wire.proofs.reader.Reader.finish.Goals as goal

pub returns-else-at_end : goal.returns-else-at_end
returns-else-at_end c = (λ e. let t = c.at_end.ensures.1 e in absurd cc, rw (← c.fault.ensures.kind, ← c.fault.ensures.offset) refl)
