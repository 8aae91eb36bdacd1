use Rattle.std.proofs.Common.{map, sym}
use Rattle.std.proofs.lemmas.Bool.{eqb-true, eqb-false}
use Rattle.std.proofs.lemmas.Result.{err_from_is_err_and}
use Rattle.mls_nodes.specs.NodeValues.{entry_value}
use Rattle.mls_nodes.proofs.Trimming.{none_at_all, some_at_all, misjudged, unwritten}
use Rattle.mls_nodes.proofs.ratchet_tree.encode.encode_trimmed.Goals as goal

pub returns-then-is_empty : goal.returns-then-is_empty
returns-then-is_empty c = none_at_all c.args.entries.now (eqb-true _ _ (sym c.if-is_empty.ensures))

pub returns-in_err-check_node_kinds : goal.returns-in_err-check_node_kinds
returns-in_err-check_node_kinds c =
    let p = err_from_is_err_and c.from_residual.result c.from_residual.ensures.1 in
    rw (p.1, p.2) (misjudged c.in_err-check_node_kinds.field-0.0 (map entry_value c.args.entries.now) (some_at_all c.args.entries.now (eqb-false _ _ (sym c.if-is_empty.ensures))) c.in_err-check_node_kinds.ensures)

pub returns-in_err-bytes_of_entries : goal.returns-in_err-bytes_of_entries
returns-in_err-bytes_of_entries c =
    let p = err_from_is_err_and c.from_residual-in_err-bytes_of_entries.result c.from_residual-in_err-bytes_of_entries.ensures.1 in
    rw (p.1, p.2) (unwritten c.in_err-bytes_of_entries.field-0.0 (map entry_value c.args.entries.now) (some_at_all c.args.entries.now (eqb-false _ _ (sym c.if-is_empty.ensures))) c.in_ok-check_node_kinds.ensures c.in_err-bytes_of_entries.ensures)

pub returns : goal.returns
returns c = (some_at_all c.args.entries.now (eqb-false _ _ (sym c.if-is_empty.ensures)), c.in_ok-check_node_kinds.ensures, c.in_ok-bytes_of_entries.ensures)
