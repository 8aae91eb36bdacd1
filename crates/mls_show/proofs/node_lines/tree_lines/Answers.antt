use Rattle.std.proofs.Common.{◌+◌, ◌/◌, arith, refl}
use Rattle.mls_show.proofs.TreeLines.{full_bounds, whole_text}
use Rattle.mls_show.proofs.node_lines.tree_lines.Goals as goal

pub put_blank_nodes-requires : goal.put_blank_nodes-requires
put_blank_nodes-requires g c =
    (full_bounds c.node_index-count.result c.full_size_of-size.result c.node_index-count.ensures.bound c.full_size_of-size.ensures).0

pub overflow_add-size : goal.overflow_add-size
overflow_add-size g c =
    let bounds = full_bounds c.node_index-count.result c.full_size_of-size.result c.node_index-count.ensures.bound c.full_size_of-size.ensures in
    omega (arith, bounds.1)

pub returns : goal.returns
returns g c =
    whole_text g.L.NodeLines.line c.args.bytes.now c.new-out.result.items c.put_entries.new.out.items c.put_blank_nodes.new.out.items c.put_counts.new.out.items c.in_ok-reader.reader c.put_entries.new.reader
    c.in_ok-members.members c.node_index-count.result c.full_size_of-size.result ((c.full_size_of-size.result + 1) / 2) c.new-out.ensures.items c.in_ok-reader.ensures.starts c.in_ok-members.ensures
    c.node_index-count.ensures.value c.full_size_of-size.ensures c.in_ok-put_blank_nodes.ensures refl c.in_ok-put_counts.ensures
