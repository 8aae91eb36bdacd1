use Rattle.std.proofs.Common.{◌∙◌, sym, arith}
use Rattle.mls_index.specs.EntryTable.{has_entry}
use Rattle.mls_index.proofs.Tables.{entered-same, entered-beyond}
use Rattle.mls_index.proofs.entry_table.EntryTable.contains.Goals as goal

pub returns-then-index-len : goal.returns-then-index-len
returns-then-index-len c = sym (entered-beyond c.args.self.now c.args.number c.args.node_index (omega (arith, c.len.ensures, c.if-index-len.true)))

pub returns : goal.returns
unfolding has_entry
returns c = c.contains.ensures ∙ sym (entered-same c.args.self.now c.args.number c.args.node_index (omega (arith, c.len.ensures, c.if-index-len.false)))
