use Rattle.std.proofs.Common.{◌∙◌, ap, sym}
use Rattle.mls_wire.specs.Encoding.{vector}
use Rattle.mls_tree.proofs.Padding.{short-vector}
use Rattle.mls_tree.proofs.hash_value.HashValue.short_encoding.Goals as goal

pub returns-then-len-lt-MAX_BYTES-clause-value : goal.returns-then-len-lt-MAX_BYTES-clause-value
returns-then-len-lt-MAX_BYTES-clause-value c = ap vector (sym c.self.view_is) ∙ short-vector c.self.inside.array c.self.invariant c.if-len-lt-MAX_BYTES.true
