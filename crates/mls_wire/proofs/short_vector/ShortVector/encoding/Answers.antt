use Rattle.std.proofs.Common.{◌∙◌, ap, sym}
use Rattle.mls_wire.specs.Encoding.{vector}
use Rattle.mls_wire.proofs.ShortVectors.{short_encoding}
use Rattle.mls_wire.proofs.short_vector.ShortVector.encoding.Goals as goal

pub returns : goal.returns
returns c = rw c.from.ensures (ap vector (sym c.self.view_is) ∙ short_encoding c.self.inside.array c.self.invariant)
