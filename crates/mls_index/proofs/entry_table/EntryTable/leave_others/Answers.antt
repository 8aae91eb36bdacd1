use Rattle.std.proofs.Common.{◌∙◌, Some, refl, sym, subst}
use Rattle.std.proofs.lemmas.List.{nil_from_length}
use Rattle.mls_index.specs.EntryTable.{base_at}
use Rattle.mls_index.specs.EntryTableInternal.{HasLeft}
use Rattle.mls_index.proofs.Tables.{base-same, settled-came, settled-last, table-equal}
use Rattle.mls_index.proofs.entry_table.EntryTable.leave_others.Goals as goal

pub loop-number-preserved : goal.loop-number-preserved
loop-number-preserved c =
    let k = c.loop-number.self in
    record {
      settled = λ h.
          settled-came k _ c.in-Some.number c.in-Some.node_index c.in-Some.ensures.items
          (subst (λ o. HasLeft (Some c.in-Some.number) o c.in-Some.node_index k.entries c.leave_entry.new.entries) (c.stored_at-now.ensures ∙ base-same k _ refl c.in-Some.node_index) c.leave_entry.ensures)
          refl (c.loop-number.invariant.settled h);
      base = λ p. base-same k _ refl p ∙ c.loop-number.invariant.base p;
      only = λ b p has. c.loop-number.invariant.only b p (c.leave_entry.ensures.only b p has);
    }

pub returns-clause-index : goal.returns-clause-index
returns-clause-index c = λ h.
    let k = c.loop-number.self in
    let old = nil_from_length k.came.items (sym k.came.ok.0 ∙ c.in_default.ensures.cases.0) in
    let new = nil_from_length c.pop.new.self.items (sym c.pop.new.self.ok.0 ∙ c.in_default.ensures.cases.1) in
    table-equal (base_at k) (base_at c.args.self.now) _ c.loop-number.invariant.base (settled-last k _ refl refl old new (c.loop-number.invariant.settled h))
