use Rattle.std.proofs.Common.{sym, refl, arith, ◌∙◌}
use Rattle.std.specs.Int.{w16, w32}
use Rattle.mls_wire.specs.IntegersExact.{number_made, byte_made}
use Rattle.mls_wire.specs.LengthsExact.{form_1, form_2, form_4, no_length}
use Rattle.mls_wire.proofs.Pieces.{WritesPiece-same}
use Rattle.mls_wire.proofs.writer.Writer.write_len.Goals as goal

pub returns-then-n-lt64 : goal.returns-then-n-lt64
returns-then-n-lt64 c = WritesPiece-same _ _ _ _ c.write_u8.result (byte_made c.args.n (omega arith) ∙ sym (form_1 c.args.n c.if-n-lt64.true)) c.write_u8.ensures

pub returns-then-n-lt16384 : goal.returns-then-n-lt16384
returns-then-n-lt16384 c = WritesPiece-same _ _ _ _ c.write_u16.result (number_made w16 _ (omega arith) ∙ sym (form_2 c.args.n _ c.if-n-lt64.false c.if-n-lt16384.true refl)) c.write_u16.ensures

pub returns-then-n-lt1073741824 : goal.returns-then-n-lt1073741824
returns-then-n-lt1073741824 c = WritesPiece-same _ _ _ _ c.write_u32.result (number_made w32 _ (omega arith) ∙ sym (form_4 c.args.n _ c.if-n-lt16384.false c.if-n-lt1073741824.true refl)) c.write_u32.ensures

pub returns-else-n-lt1073741824 : goal.returns-else-n-lt1073741824
returns-else-n-lt1073741824 c = (no_length c.args.n c.if-n-lt1073741824.false, refl, c.too_long.ensures)
