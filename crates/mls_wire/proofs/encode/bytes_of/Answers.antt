use Rattle.std.proofs.Common.{◌∙◌, ap, sym}
use Rattle.std.proofs.lemmas.Result.{err_from_is_err_and}
use Rattle.mls_wire.specs.WriteContracts.{after}
use Rattle.mls_wire.specs.WriteSequences.{after_nil}
use Rattle.mls_wire.proofs.Sized.{made_piece}
use Rattle.mls_wire.proofs.encode.bytes_of.Goals as goal

pub returns-in_err-write : goal.returns-in_err-write
returns-in_err-write g c =
    let p = err_from_is_err_and c.from_residual.result c.from_residual.ensures.1 in
    rw (p.1, p.2) (made_piece c.in_err-write.field-0.0 (g.T.Decode.encoding c.args.value.now) c.new-writer.result c.write.new.self c.new-writer.ensures c.in_err-write.ensures)

pub returns : goal.returns
returns g c =
    rw c.into_bytes.ensures (after_nil _ c.write.new.self (ap (λ x. after x (g.T.Decode.encoding c.args.value.now)) (sym c.new-writer.ensures) ∙ c.in_ok-write.ensures))
