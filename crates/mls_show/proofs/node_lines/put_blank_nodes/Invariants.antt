use Rattle.std.proofs.Common.{◌≡◌, ◌++◌, ◌-◌, replicate, None}
use Rattle.mls_show.specs.TreeText.{lines_by}
use Rattle.mls_show.proofs.node_lines.put_blank_nodes.Given as goal

-- the lines so far, and those of the blank nodes still to come
abbrev pub invariant-blanks : goal.invariant-blanks
invariant-blanks g l = l.out.items ++ lines_by g.L.NodeLines.line l.node_index (replicate (l.end - l.node_index) None) ≡ l.initial.out.items ++ lines_by g.L.NodeLines.line l.first (replicate (l.end - l.first) None)
