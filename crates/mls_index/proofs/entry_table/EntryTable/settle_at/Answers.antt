use Rattle.std.proofs.Common.{◌<◌, ◌∙◌, length, refl, sym, ap, arith}
use Rattle.std.proofs.lemmas.List.{length-set}
use Rattle.mls_index.specs.EntryTable.{base_at}
use Rattle.mls_index.proofs.Tables.{settled-beyond, settled-stored}
use Rattle.mls_index.proofs.entry_table.EntryTable.settle_at.Goals as goal

pub returns-then-index-len : goal.returns-then-index-len
returns-then-index-len c = λ h. settled-beyond c.args.self.now c.args.node_index c.args.number (omega (arith, c.len.ensures, c.if-index-len.true)) h

pub returns : goal.returns
unfolding base_at
returns c = λ h.
    let k = c.args.self.now in
    let low : c.args.node_index < length k.numbers = omega (arith, c.len.ensures, c.if-index-len.false) in
    settled-stored k _ c.args.node_index c.get-left.result c.args.number (sym c.get-left.ensures) c.leave_entry.ensures c.set.ensures low
    (ap length c.set.ensures ∙ length-set k.numbers c.args.node_index c.args.number) refl
