use Rattle.std.proofs.Common.{ℕ, List, Some, sym, ap, ◌∙◌, arith}
use Rattle.std.specs.Int.{w32}
use Rattle.mls_wire.specs.IntegersExact.{number_made}
use Rattle.mls_wire.proofs.Pieces.{WritesPiece-same}
use Rattle.mls_wire.proofs.writer.Writer.write_u32.Goals as goal

pub returns : goal.returns
returns c = WritesPiece-same _ _ _ _ c.write_bytes.result (ap (λ (x : List ℕ). Some x) c.to_be_bytes.ensures ∙ sym (number_made w32 c.args.n (omega arith))) c.write_bytes.ensures
