use Rattle.std.proofs.Common.{◌≡◌, sym, subst, arith}
use Rattle.mls_index.specs.EntryTableInternal.{ListsFirst, number_at}
use Rattle.mls_index.proofs.Tables.{listed-all}
use Rattle.mls_index.proofs.entry_table.KeyList.fill.Goals as goal

pub loop-node_index-preserved : goal.loop-node_index-preserved
loop-node_index-preserved c =
    c.in_ok-append.ensures (number_at c.args.choice c.args.kind c.args.tree.now.tree) (sym c.number_at.ensures) c.loop-node_index.invariant

pub returns : goal.returns
returns c =
    let last : c.loop-node_index.node_index ≡ c.node_index_count-node_index-end.result = omega arith in
    listed-all c.args.choice c.args.kind c.args.tree.now.tree c.node_index_count-node_index-end.result c.loop-node_index.self c.node_index_count-node_index-end.ensures.count
    (subst (λ n. ListsFirst (number_at c.args.choice c.args.kind c.args.tree.now.tree) n c.loop-node_index.self) last c.loop-node_index.invariant)
