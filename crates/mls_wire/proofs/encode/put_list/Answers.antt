use Rattle.std.proofs.Common.{refl}
use Rattle.std.proofs.lemmas.Result.{err_from_is_err_and}
use Rattle.mls_wire.specs.EncodedSizes.{list_none}
use Rattle.mls_wire.proofs.Sized.{length_refused, items_behind}
use Rattle.mls_wire.proofs.encode.put_list.Goals as goal

pub returns-in_default : goal.returns-in_default
returns-in_default g c = (list_none g.T.Decode.encoding c.args.values.now c.in_default.ensures, refl, c.too_long.ensures)

pub returns-in_err-put_len : goal.returns-in_err-put_len
returns-in_err-put_len g c =
    let p = err_from_is_err_and c.from_residual.result c.from_residual.ensures.1 in
    rw (p.1, p.2) (length_refused g.T.Decode.encoding c.in_err-put_len.field-0.0 c.args.values.now c.in-Some.body c.args.draft.now c.put_len.new.self c.in-Some.ensures c.in_err-put_len.ensures)

pub returns : goal.returns
returns g c =
    items_behind g.T.Decode.encoding c.put_items.result c.args.values.now c.in-Some.body c.args.draft.now c.put_len.new.self c.put_items.new.draft
    c.in-Some.ensures c.in_ok-put_len.ensures.0 c.in_ok-put_len.ensures.1 c.put_items.ensures
