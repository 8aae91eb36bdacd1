use Rattle.std.proofs.Common.{◌∙◌, refl, sym}
use Rattle.std.proofs.lemmas.List.{nil_from_length}
use Rattle.mls_index.proofs.Entries.{removed}
use Rattle.mls_index.proofs.Tables.{between-less, between-same, between-last}
use Rattle.mls_index.proofs.entry_table.EntryTable.revert.Goals as goal

pub loop-number-preserved : goal.loop-number-preserved
loop-number-preserved c =
    let gone = removed c.loop-number.self.entries c.remove.new.self c.in-Some.number c.in-Some.node_index c.remove.ensures.updates in
    record {
      between = λ x h.
          between-less x c.loop-number.self _ c.in-Some.number c.in-Some.node_index c.in-Some.ensures.items gone refl (c.loop-number.invariant.between x h);
      only = λ b p has. c.loop-number.invariant.only b p (gone.only b p has);
    }

pub returns-clause-index : goal.returns-clause-index
returns-clause-index c = λ x h.
    let old = nil_from_length c.loop-number.self.came.items (sym c.loop-number.self.came.ok.0 ∙ c.in_default.ensures.cases.0) in
    let new = nil_from_length c.pop.new.self.items (sym c.pop.new.self.ok.0 ∙ c.in_default.ensures.cases.1) in
    between-last x _ new (between-same x c.loop-number.self _ (λ b p. refl) refl (new ∙ sym old) (c.loop-number.invariant.between x h))
