use Rattle.std.proofs.Common.{◌∙◌, ap, sym}
use Rattle.mls_wire.specs.SaturatingSizes.{size}
use Rattle.mls_wire.specs.EncodedSizes.{list_sized, list_none, no_size_of}
use Rattle.mls_wire.proofs.size.size_of_list.Goals as goal

pub returns-in_err-size_of_items : goal.returns-in_err-size_of_items
returns-in_err-size_of_items g c = c.from_residual.ensures ∙ no_size_of _ (list_none g.T.Decode.encoding c.args.values.now c.in_err-size_of_items.ensures)

pub returns : goal.returns
returns g c =
    let a = list_sized g.T.Decode.encoding c.args.values.now c.in_ok-size_of_items.field-0 c.in_ok-size_of_items.ensures in
    c.size_of_vector.ensures a.0 a.2 ∙ ap size (sym a.3)
