use Rattle.mls_index.proofs.KeyTables.{settling-first}
use Rattle.mls_index.proofs.key_table.KeyTable.accept.Goals as goal

pub returns : goal.returns
returns c = λ t h covers same.
    let kind = c.args.kind in
    let new = c.args.tree.now.tree in
    c.leave_others.ensures kind new (c.settle.ensures (settling-first kind new t c.args.node_indices.now c.args.self.now h covers same))
