use Rattle.std.proofs.Common.{◌∙◌, sym, subst}
use Rattle.std.proofs.lemmas.Bool.{false≢true}
use Rattle.mls_index.specs.EntryTableInternal.{HasLeft}
use Rattle.mls_index.proofs.Entries.{removed}
use Rattle.mls_index.proofs.Tables.{left-gone}
use Rattle.mls_index.proofs.entry_table.leave_entry.Goals as goal

pub returns-then-not-is_number : goal.returns-then-not-is_number
returns-then-not-is_number c =
    let s = c.args.entries.now in
    let n = c.remove.new.self in
    subst (λ o. HasLeft o c.args.now c.args.node_index s n) (sym c.in-Some.is)
    (left-gone c.in-Some.number c.args.now c.args.node_index s n (λ e. false≢true (sym c.if-not-is_number.true ∙ c.is_number.ensures.1 e))
    (removed s n c.in-Some.number c.args.node_index c.remove.ensures.updates))
