use Rattle.std.proofs.Common.{map}
use Rattle.std.proofs.lemmas.Result.{err_from_is_err_and}
use Rattle.mls_wire.specs.Encoding.{optional}
use Rattle.mls_wire.proofs.Sized.{length_refused, items_behind}
use Rattle.mls_nodes.specs.NodeValues.{entry_value}
use Rattle.mls_nodes.specs.Layout.{node}
use Rattle.mls_nodes.proofs.ratchet_tree.encode.put_vector.Goals as goal

pub returns-in_err-put_len : goal.returns-in_err-put_len
returns-in_err-put_len c =
    let p = err_from_is_err_and c.from_residual.result c.from_residual.ensures.1 in
    rw (p.1, p.2) (length_refused (optional node) c.in_err-put_len.field-0.0 (map entry_value c.args.entries.now) c.args.body c.args.draft.now c.put_len.new.self c.requires c.in_err-put_len.ensures)

pub returns : goal.returns
returns c =
    items_behind (optional node) c.put_entries.result (map entry_value c.args.entries.now) c.args.body c.args.draft.now c.put_len.new.self c.put_entries.new.draft
    c.requires c.in_ok-put_len.ensures.0 c.in_ok-put_len.ensures.1 c.put_entries.ensures
