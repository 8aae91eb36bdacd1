use Rattle.mls_show.proofs.TreeLines.{blank_more}
use Rattle.mls_show.proofs.node_lines.put_blank_nodes.Goals as goal

pub blanks-preserved : goal.blanks-preserved
blanks-preserved g c =
    blank_more g.L.NodeLines.line c.blanks.out.items c.put_line.new.out.items c.blanks.node_index c.args.end _ c.blanks-test.true c.in_ok-put_line.ensures c.blanks.invariant
