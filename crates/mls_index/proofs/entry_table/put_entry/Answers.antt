use Rattle.std.proofs.Common.{sym, subst}
use Rattle.mls_index.specs.EntryTableInternal.{HasListed}
use Rattle.mls_index.proofs.Tables.{list-some}
use Rattle.mls_index.proofs.entry_table.put_entry.Goals as goal

pub returns : goal.returns
returns c =
    let es = c.args.entries.now.items in
    let fs = c.push.new.self.items in
    subst (λ o. HasListed o c.args.node_index es fs) (sym c.in-Some.is) (list-some c.in-Some.number c.args.node_index es fs c.in_ok-push.ensures.items)
