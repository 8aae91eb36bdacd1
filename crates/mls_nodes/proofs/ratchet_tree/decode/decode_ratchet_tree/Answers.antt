use Rattle.std.proofs.Common.{arith, map}
use Rattle.std.proofs.lemmas.Result.{err_from_is_err_and}
use Rattle.std.proofs.lemmas.List.{length-map}
use Rattle.mls_nodes.specs.NodeValues.{entry_value}
use Rattle.mls_nodes.proofs.Entries.{is_filled, tree_again, tree_few}
use Rattle.mls_nodes.proofs.RestOfTree.{decode_fault}
use Rattle.mls_nodes.proofs.ratchet_tree.decode.decode_ratchet_tree.Goals as goal

pub returns-in_err-read_tree-clause-encoded : goal.returns-in_err-read_tree-clause-encoded
returns-in_err-read_tree-clause-encoded c =
    let p = err_from_is_err_and c.from_residual.result c.from_residual.ensures.1 in
    rw (p.1, p.2) (decode_fault c.in_err-read_tree.field-0.0 c.args.bytes.now c.in_err-read_tree.ensures.entries)

pub append_blanks-requires : goal.append_blanks-requires
append_blanks-requires c =
    let nodes = map entry_value c.in_ok-read_tree.field-0.items in
    let read = tree_again c.args.bytes.now nodes c.in_ok-read_tree.ensures.entries.0 in
    omega (arith, length-map c.in_ok-read_tree.field-0.items entry_value, tree_few c.args.bytes.now nodes read)

pub returns-clause-encoded : goal.returns-clause-encoded
returns-clause-encoded c =
    let nodes = map entry_value c.in_ok-read_tree.field-0.items in
    let read = tree_again c.args.bytes.now nodes c.in_ok-read_tree.ensures.entries.0 in
    is_filled c.args.bytes.now c.in_ok-read_tree.field-0.items c.append_blanks.result read c.in_ok-read_tree.ensures.entries.1 c.append_blanks.ensures.full c.append_blanks.ensures.memory
