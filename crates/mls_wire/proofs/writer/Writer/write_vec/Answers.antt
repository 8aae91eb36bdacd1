use Rattle.std.proofs.Common.{ap, length}
use Rattle.std.proofs.lemmas.Result.{err_from_is_err_and}
use Rattle.mls_wire.proofs.Pieces.{vector_first, vector_second, vector_undone}
use Rattle.mls_wire.proofs.writer.Writer.write_vec.Goals as goal

pub returns-in_err-write_len : goal.returns-in_err-write_len
returns-in_err-write_len c =
    let p = err_from_is_err_and c.from_residual.result c.from_residual.ensures.1 in
    rw (p.1, p.2) (vector_first c.args.body.now c.args.self.now c.write_len.new.self c.in_err-write_len.field-0.0 c.in_err-write_len.ensures)

pub returns-in-Ok : goal.returns-in-Ok
returns-in-Ok c = vector_second c.args.body.now c.args.self.now c.write_len.new.self _ c.in_ok-write_len.ensures c.in-Ok.ensures

pub returns-in-Err : goal.returns-in-Err
returns-in-Err c = vector_undone c.args.body.now c.args.self.now c.write_len.new.self _ _ _ c.in-Err.fault (ap length c.bytes-start.ensures) c.in_ok-write_len.ensures c.in-Err.ensures c.truncate.ensures
