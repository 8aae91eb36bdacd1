use Rattle.mls_show.proofs.StateReports.{from_encoding, no_tree-unencoded}
use Rattle.mls_show.proofs.state_report.state_tree_lines.Goals as goal

pub returns-in-Ok : goal.returns-in-Ok
returns-in-Ok g c = from_encoding g.L.NodeLines.line c.args.body.now c.in-Ok.bytes.items _ c.in-Ok.ensures (rw c.as_slice.ensures.value at c.tree_lines.ensures)

pub returns-in-Err-Wire : goal.returns-in-Err-Wire
returns-in-Err-Wire g c = no_tree-unencoded c.args.body.now (rw c.in-Err-Wire.field-0-is at c.in-Err-Wire.ensures).0
