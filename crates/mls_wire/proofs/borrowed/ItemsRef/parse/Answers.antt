use Rattle.std.proofs.Common.{refl, sym, ◌∙◌}
use Rattle.std.proofs.lemmas.Result.{err_from_is_err_and}
use Rattle.mls_wire.specs.ListsExact.{list_uneven}
use Rattle.mls_wire.specs.StoredItems.{no_list, no_items, all_items, counted_are_some, at_any_offset, stored_of}
use Rattle.mls_wire.proofs.borrowed.ItemsRef.parse.Goals as goal

pub returns-in_err-body : goal.returns-in_err-body
returns-in_err-body g c =
    let p = err_from_is_err_and c.from_residual.result c.from_residual.ensures.1 in
    rw p.1 (no_list g.T.Decode.reading c.args.reader.now c.in_err-body.ensures.0)

pub returns-then-is_uneven : goal.returns-then-is_uneven
returns-then-is_uneven g c =
    list_uneven g.T.Decode.encoding g.T.Decode.reading g.met.T.Decode.exact c.args.reader.now c.in_ok-body.body _
    c.in_ok-body.ensures
    (λ xs t e l. c.is_uneven.ensures c.if-is_uneven.true xs t e (l ∙ sym c.len.ensures))

pub returns-in_err-count_items : goal.returns-in_err-count_items
returns-in_err-count_items g c =
    let f = c.from_residual-in_err-count_items in
    let p = err_from_is_err_and f.result f.ensures.1 in
    let none = rw c.fork.ensures at c.in_err-count_items.ensures in
    rw p.1 (no_items g.T.Decode.reading c.args.reader.now c.next_sub.new.self c.in_ok-body.body c.in_ok-body.ensures none)

pub new-requires : goal.new-requires
new-requires g c =
    let counted = rw c.fork.ensures at c.in_ok-count_items.ensures in
    let all = counted_are_some g.T.Decode.reading c.in_ok-body.body c.in_ok-count_items.field-0 counted in
    rw (c.left.ensures, at_any_offset g.T.Decode.encoding g.T.Decode.reading g.met.T.Decode.exact g.met.T.Decode.long c.in_ok-body.body all.0 all.1) refl

pub returns : goal.returns
returns g c =
    let counted = rw c.fork.ensures at c.in_ok-count_items.ensures in
    let all = counted_are_some g.T.Decode.reading c.in_ok-body.body c.in_ok-count_items.field-0 counted in
    rw (c.new.ensures, c.left.ensures, stored_of g.T.Decode.reading c.in_ok-body.body.left all.0 (at_any_offset g.T.Decode.encoding g.T.Decode.reading g.met.T.Decode.exact g.met.T.Decode.long c.in_ok-body.body all.0 all.1))
    (all_items g.T.Decode.reading c.args.reader.now c.next_sub.new.self c.in_ok-body.body all.0 c.in_ok-body.ensures all.1)
