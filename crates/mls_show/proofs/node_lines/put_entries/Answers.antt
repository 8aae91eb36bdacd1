use Rattle.mls_show.proofs.TreeLines.{entry_more}
use Rattle.mls_show.proofs.node_lines.put_entries.Goals as goal

pub entries-preserved-in_ok-put_line : goal.entries-preserved-in_ok-put_line
entries-preserved-in_ok-put_line g c =
    let d = entry_more g.L.NodeLines.line c.args.out.now.items c.entries.out.items c.put_line.new.out.items c.entries.members c.leaf_node_count-members.result c.entries.node_index c.node_index-node_index.result
    c.args.reader.now.rest c.entries.reader c.next_entry.new.self c.in_ok-entry.field-0 c.in-Some.entry c.entries.invariant.so_far c.entries.invariant.same c.entries.invariant.few
    c.in_ok-entry.ensures c.in-Some.is c.in_ok-put_line.ensures c.leaf_node_count-members.ensures.count c.leaf_node_count-members.ensures.bound c.node_index-node_index.ensures.value in
    record { so_far = d.0; same = d.1; few = d.2; bound = c.node_index-node_index.ensures.bound }

pub entries-preserved-in_ok-put_line-2 : goal.entries-preserved-in_ok-put_line-2
entries-preserved-in_ok-put_line-2 g c =
    let d = entry_more g.L.NodeLines.line c.args.out.now.items c.entries.out.items c.put_line.new.out.items c.entries.members c.leaf_node_count-members.result c.entries.node_index c.node_index-node_index.result
    c.args.reader.now.rest c.entries.reader c.next_entry.new.self c.in_ok-entry.field-0 c.in-Some.entry c.entries.invariant.so_far c.entries.invariant.same c.entries.invariant.few
    c.in_ok-entry.ensures c.in-Some.is c.in_ok-put_line.ensures c.leaf_node_count-members.ensures.count c.leaf_node_count-members.ensures.bound c.node_index-node_index.ensures.value in
    record { so_far = d.0; same = d.1; few = d.2; bound = c.node_index-node_index.ensures.bound }

pub entries-preserved : goal.entries-preserved
entries-preserved g c =
    let d = entry_more g.L.NodeLines.line c.args.out.now.items c.entries.out.items c.put_line.new.out.items c.entries.members c.leaf_node_count-members.result c.entries.node_index c.node_index-node_index.result
    c.args.reader.now.rest c.entries.reader c.next_entry.new.self c.in_ok-entry.field-0 c.in-Some.entry c.entries.invariant.so_far c.entries.invariant.same c.entries.invariant.few
    c.in_ok-entry.ensures c.in-Some.is c.in_ok-put_line.ensures c.leaf_node_count-members.ensures.count c.leaf_node_count-members.ensures.bound c.node_index-node_index.ensures.value in
    record { so_far = d.0; same = d.1; few = d.2; bound = c.node_index-node_index.ensures.bound }
