use Rattle.std.proofs.Common.{◌≡◌, ◌∙◌, [], eqb, rules, sym, ap}
use Rattle.std.proofs.lemmas.Bool.{false≢true}
use Rattle.mls_index.proofs.Apart.{other_first}
use Rattle.mls_index.proofs.Entries.{equal, if_not, no_first, own}
use Rattle.mls_index.proofs.entry_table.EntryTable.has_other.Goals as goal

pub returns-then-entry-number : goal.returns-then-entry-number
returns-then-entry-number c = λ no distinct p has.
    other_first c.args.self.now.entries c.args.number c.args.node_index c.in-Some.entry.now c.next.new.self c.range.ensures.ordered
    (sym c.in-Some.ensures.steps ∙ c.range.ensures.between tt) (λ _. equal c.in-Some.entry.now.1 c.args.node_index (if_not (eqb c.in-Some.entry.now.1 c.args.node_index) no)) distinct p has

pub returns-else-entry-number : goal.returns-else-entry-number
returns-else-entry-number c = λ no distinct p has.
    other_first c.args.self.now.entries c.args.number c.args.node_index c.in-Some.entry.now c.next.new.self c.range.ensures.ordered
    (sym c.in-Some.ensures.steps ∙ c.range.ensures.between tt)
    (λ same. absurd (false≢true (sym no ∙ ap (λ n. eqb n c.args.number) same ∙ own c.args.number))) distinct p has

pub returns-in-None : goal.returns-in-None
returns-in-None c = λ no distinct p has.
    let none : c.range.result ≡ [] = search rules in
    absurd (no_first c.args.self.now.entries c.args.number (sym (c.range.ensures.between tt) ∙ none) p has)
