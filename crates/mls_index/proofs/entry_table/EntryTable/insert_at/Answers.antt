use Rattle.std.proofs.Common.{◌∙◌, length, inl, inr, sym, ap, arith}
use Rattle.std.proofs.lemmas.Result.{on_ok_weaker}
use Rattle.mls_index.specs.EntryTable.{has_entry}
use Rattle.mls_index.proofs.Tables.{between-base, entered-kept, entered-from}
use Rattle.mls_index.proofs.entry_table.EntryTable.insert_at.Goals as goal

pub returns-in_err-make_room-clause-index_base : goal.returns-in_err-make_room-clause-index_base
returns-in_err-make_room-clause-index_base c = λ x h.
    between-base x c.args.self.now c.make_room.new.self c.make_room.ensures.entries c.make_room.ensures.came c.make_room.ensures.base h

pub returns-in_err-make_room-clause-adds_only : goal.returns-in_err-make_room-clause-adds_only
returns-in_err-make_room-clause-adds_only c = λ b p has. inl (ap (λ s. has_entry s b p) (sym c.make_room.ensures.entries) ∙ has)

pub returns-in_err-make_room-clause-remaining : goal.returns-in_err-make_room-clause-remaining
returns-in_err-make_room-clause-remaining c =
    entered-kept c.args.self.now c.make_room.new.self (λ b p had. ap (λ s. has_entry s b p) c.make_room.ensures.entries ∙ had) c.make_room.ensures.long

pub returns-clause-index_base : goal.returns-clause-index_base
returns-clause-index_base c = λ x h.
    c.insert_entry.ensures.index_base x
    (between-base x c.args.self.now c.make_room.new.self c.make_room.ensures.entries c.make_room.ensures.came c.make_room.ensures.base h)

pub returns-clause-adds_only : goal.returns-clause-adds_only
returns-clause-adds_only c = λ b p has. elim (c.insert_entry.ensures.adds_only b p has) [
  | inl old ↦ inl (ap (λ s. has_entry s b p) (sym c.make_room.ensures.entries) ∙ old)
  | inr new ↦ inr new
]

pub returns-clause-remaining : goal.returns-clause-remaining
returns-clause-remaining c =
    entered-kept c.args.self.now c.insert_entry.new.self
    (λ b p had. c.insert_entry.ensures.remaining b p (ap (λ s. has_entry s b p) c.make_room.ensures.entries ∙ had))
    (omega (arith, c.make_room.ensures.long, ap length c.insert_entry.ensures.numbers))

pub returns-clause-here : goal.returns-clause-here
returns-clause-here c =
    on_ok_weaker c.insert_entry.result
    (λ here. entered-from c.insert_entry.new.self c.args.number c.args.node_index
    (omega (arith, c.in_ok-make_room.ensures.capacity, ap length c.insert_entry.ensures.numbers)) here)
    c.insert_entry.ensures.here
