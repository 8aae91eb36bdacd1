use Rattle.std.proofs.Common.{◌≡◌, [], rules, sym, subst}
use Rattle.mls_index.proofs.Apart.{AreApart, apart-distinct}
use Rattle.mls_index.proofs.entry_table.EntryTable.has_distinct_numbers.Goals as goal

pub returns : goal.returns
returns c =
    let none : c.loop-entry.entry-iterator ≡ [] = search rules in
    λ _. apart-distinct c.args.self.now.entries c.iter-entry-items.ensures.ordered (c.loop-entry.invariant (subst (AreApart c.loop-entry.last) (sym none) tt))
