use Rattle.std.proofs.Common.{◌≡◌, ◌≤◌, length}
use Rattle.mls_show.proofs.TreeLines.{LinesSoFar}
use Rattle.mls_show.proofs.node_lines.put_entries.Given as goal

-- the lines so far, and the entries still to be read
abbrev pub invariant-entries : goal.invariant-entries
invariant-entries g l = record {
  so_far : LinesSoFar g.L.NodeLines.line l.initial.out.items l.out.items l.members l.node_index l.initial.reader.rest l.reader.rest;
  same : l.reader.node_index ≡ l.node_index;
  few : l.members ≤ l.node_index;
  bound : l.node_index ≤ 2097151;
}

abbrev pub decreases-entries : goal.decreases-entries
decreases-entries g l = length l.reader.unread
