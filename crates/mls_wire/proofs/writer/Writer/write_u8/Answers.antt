use Rattle.std.proofs.Common.{sym, arith}
use Rattle.mls_wire.specs.IntegersExact.{byte_made}
use Rattle.mls_wire.proofs.Pieces.{WritesPiece-same}
use Rattle.mls_wire.proofs.writer.Writer.write_u8.Goals as goal

pub returns : goal.returns
returns c = WritesPiece-same _ _ _ _ c.write_bytes.result (sym (byte_made c.args.n (omega arith))) c.write_bytes.ensures
