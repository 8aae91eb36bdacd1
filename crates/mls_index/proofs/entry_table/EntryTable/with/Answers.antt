use Rattle.std.proofs.Common.{◌∙◌, List, ℕ, refl, subst}
use Rattle.std.proofs.IntoIterSteps.{All-taken}
use Rattle.std.specs.BTreeSet.{IsFromIterResult}
use Rattle.mls_index.specs.EntryTable.{entry_cmp}
use Rattle.mls_index.specs.EntryTableInternal.{number_at}
use Rattle.mls_index.proofs.Entries.{from_list}
use Rattle.mls_index.proofs.Tables.{table-made}
use Rattle.mls_index.proofs.entry_table.EntryTable.with.Goals as goal

pub returns : goal.returns
returns c =
    let x = number_at c.args.choice c.args.kind c.args.tree.now.tree in
    let list = c.in_ok-entries.field-0 in
    let h = c.in_ok-entries-2.ensures.ran in
    let entries = c.in_ok-entries-2.entries in
    let made = subst (λ (es : List (ℕ × ℕ)). IsFromIterResult entry_cmp es entries) (All-taken h.0 h.1 ((h.3.2 tt).0, (h.3.0, h.3.1, (h.3.2 tt).1)) ∙ h.2.0) h.4 in
    table-made x list _ c.in_ok-entries.ensures refl c.new.ensures.items (from_list list.entries.items entries made)
