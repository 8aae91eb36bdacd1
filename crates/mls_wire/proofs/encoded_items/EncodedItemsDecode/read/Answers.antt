use Rattle.std.proofs.Common.{refl}
use Rattle.std.proofs.lemmas.Result.{err_from_is_err_and}
use Rattle.mls_wire.specs.StoredItems.{no_body, none_in_body, some_in_body, body_within, counted_are_some, at_any_offset, stored_of}
use Rattle.mls_wire.proofs.encoded_items.EncodedItemsDecode.read.Goals as goal

pub returns-in_err-body : goal.returns-in_err-body
returns-in_err-body g c =
    let p = err_from_is_err_and c.from_residual.result c.from_residual.ensures.1 in
    let none = rw c.fork-ahead.ensures at c.in_err-body.ensures in
    rw (p.1, p.2) (no_body g.T.Decode.reading c.args.reader.now c.read_sub.new.self c.in_err-body.field-0.0 none, refl)

pub returns-in_err-count_items : goal.returns-in_err-count_items
returns-in_err-count_items g c =
    let f = c.from_residual-in_err-count_items in
    let p = err_from_is_err_and f.result f.ensures.1 in
    let body = rw c.fork-ahead.ensures at c.in_ok-body.ensures in
    let none = rw c.fork.ensures at c.in_err-count_items.ensures in
    rw (p.1, p.2) (none_in_body g.T.Decode.reading c.args.reader.now c.read_sub.new.self c.in_ok-body.body body none, refl)

pub returns-in_err-body-2 : goal.returns-in_err-body-2
returns-in_err-body-2 g c =
    let f = c.from_residual-in_err-body-2 in
    let p = err_from_is_err_and f.result f.ensures.1 in
    let body = rw c.fork-ahead.ensures at c.in_ok-body.ensures in
    let full = c.in_err-body-2.ensures.short (rw c.left.ensures (body_within c.args.reader.now c.read_sub.new.self c.in_ok-body.body body)) in
    rw (p.1, p.2, full) refl

pub invariant_of-result : goal.invariant_of-result
invariant_of-result g c =
    let body = rw c.fork-ahead.ensures at c.in_ok-body.ensures in
    let counted = rw c.fork.ensures at c.in_ok-count_items.ensures in
    let all = counted_are_some g.T.Decode.reading c.in_ok-body.body c.in_ok-count_items.field-0 counted in
    let same = c.in_ok-body-2.ensures.short (rw c.left.ensures (body_within c.args.reader.now c.read_sub.new.self c.in_ok-body.body body)) in
    rw (same, c.left.ensures, at_any_offset g.T.Decode.encoding g.T.Decode.reading g.met.T.Decode.exact g.met.T.Decode.long c.in_ok-body.body all.0 all.1) refl

pub returns : goal.returns
returns g c =
    let body = rw c.fork-ahead.ensures at c.in_ok-body.ensures in
    let counted = rw c.fork.ensures at c.in_ok-count_items.ensures in
    let all = counted_are_some g.T.Decode.reading c.in_ok-body.body c.in_ok-count_items.field-0 counted in
    let same = c.in_ok-body-2.ensures.short (rw c.left.ensures (body_within c.args.reader.now c.read_sub.new.self c.in_ok-body.body body)) in
    rw (same, c.left.ensures, stored_of g.T.Decode.reading c.in_ok-body.body.left all.0 (at_any_offset g.T.Decode.encoding g.T.Decode.reading g.met.T.Decode.exact g.met.T.Decode.long c.in_ok-body.body all.0 all.1))
    (some_in_body g.T.Decode.reading c.args.reader.now c.read_sub.new.self c.in_ok-body.body all.0 body all.1)
