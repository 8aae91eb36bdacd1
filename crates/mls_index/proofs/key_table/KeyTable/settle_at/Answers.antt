use Rattle.mls_index.proofs.KeyTables.{settling-more}
use Rattle.mls_index.proofs.key_table.KeyTable.settle_at.Goals as goal

pub returns : goal.returns
returns c = λ rest h.
    let k = c.args.self.now in
    let numbers = c.entered_at-numbers.result in
    let entered = c.entered_at-numbers.ensures.prefix in
    let entered' = c.entered_at-numbers.ensures.fingerprint h.covers in
    settling-more c.args.kind c.args.tree.now.tree k _ c.args.node_index numbers.prefix numbers.fingerprint entered entered' (c.settle_at.ensures entered)
    (c.settle_at-2.ensures entered') c.entered_at-numbers.ensures.numbers rest h
