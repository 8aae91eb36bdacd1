use Rattle.std.proofs.Common.{◌∙◌, map}
use Rattle.std.proofs.lemmas.Result.{err_from_is_err_and}
use Rattle.mls_wire.specs.Encoding.{optional}
use Rattle.mls_nodes.specs.NodeValues.{entry_value}
use Rattle.mls_nodes.specs.Layout.{node}
use Rattle.mls_nodes.proofs.Drafted.{drafted, list_there}
use Rattle.mls_nodes.proofs.ratchet_tree.encode.bytes_of_entries.Goals as goal

pub returns-in_err-with_capacity : goal.returns-in_err-with_capacity
returns-in_err-with_capacity c =
    let f = c.from_residual-in_err-with_capacity in
    let p = err_from_is_err_and f.result f.ensures.1 in
    rw (p.1, p.2) (list_there (optional node) (map entry_value c.args.entries.now) c.in_ok-body.body c.in_ok-body.ensures.0 c.in_ok-body.ensures.1)

pub returns : goal.returns
returns c =
    drafted _ c.after-draft.result c.put_vector.new.draft _ (c.after-draft.ensures.kept ∙ c.in_ok-with_capacity.ensures.items) c.after-draft.ensures.more c.in_ok-put_vector.ensures c.finish.ensures
