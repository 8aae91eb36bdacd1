use Rattle.std.proofs.Common.{◌∙◌, ◌∷◌, ◌++◌, [], inl, sym, ap, refl, false}
use Rattle.mls_index.proofs.Entries.{staged, unchanged, contained, if_old, if_new}
use Rattle.mls_index.proofs.Tables.{between-same, between-more}
use Rattle.mls_index.proofs.entry_table.EntryTable.insert_entry.Goals as goal

pub returns-in_err-try_reserve-clause-index_base : goal.returns-in_err-try_reserve-clause-index_base
returns-in_err-try_reserve-clause-index_base c = λ x h. between-same x c.args.self.now _ (λ b p. refl) refl c.try_reserve.ensures.items h

pub returns-in_err-added-clause-index_base : goal.returns-in_err-added-clause-index_base
returns-in_err-added-clause-index_base c = λ x h.
    between-same x c.args.self.now _ (unchanged c.args.self.now.entries c.insert.new.self c.in_err-added.ensures.err) refl c.try_reserve.ensures.items h

pub returns-in_err-added-clause-adds_only : goal.returns-in_err-added-clause-adds_only
returns-in_err-added-clause-adds_only c = λ b q has. inl (sym (unchanged c.args.self.now.entries c.insert.new.self c.in_err-added.ensures.err b q) ∙ has)

pub returns-in_err-added-clause-remaining : goal.returns-in_err-added-clause-remaining
returns-in_err-added-clause-remaining c = λ b q had. unchanged c.args.self.now.entries c.insert.new.self c.in_err-added.ensures.err b q ∙ had

pub returns-then-not-added-clause-index_base : goal.returns-then-not-added-clause-index_base
returns-then-not-added-clause-index_base c = λ x h.
    between-same x c.args.self.now _ (unchanged c.args.self.now.entries c.insert.new.self (if_old c.in_ok-added.added _ c.if-not-added.true c.in_ok-added.ensures.unchanged)) refl
    c.try_reserve.ensures.items h

pub returns-then-not-added-clause-adds_only : goal.returns-then-not-added-clause-adds_only
returns-then-not-added-clause-adds_only c =
    (staged c.args.self.now.entries c.insert.new.self c.args.number c.args.node_index c.in_ok-added.ensures.updates).only

pub returns-then-not-added-clause-remaining : goal.returns-then-not-added-clause-remaining
returns-then-not-added-clause-remaining c =
    (staged c.args.self.now.entries c.insert.new.self c.args.number c.args.node_index c.in_ok-added.ensures.updates).remaining

pub returns-then-not-added-clause-here : goal.returns-then-not-added-clause-here
returns-then-not-added-clause-here c =
    (staged c.args.self.now.entries c.insert.new.self c.args.number c.args.node_index c.in_ok-added.ensures.updates).here

pub returns-clause-index_base : goal.returns-clause-index_base
returns-clause-index_base c = λ x h.
    let s = c.args.self.now.entries in
    let b = c.args.number in
    let p = c.args.node_index in
    between-more x c.args.self.now _ b p (contained s b p false (if_new c.in_ok-added.added _ c.if-not-added.false c.in_ok-added.ensures.added))
    (staged s c.insert.new.self b p c.in_ok-added.ensures.updates)
    (c.push_reserved.ensures.items ∙ ap (λ es. es ++ (b, p) ∷ []) c.try_reserve.ensures.items) refl h

pub returns-clause-adds_only : goal.returns-clause-adds_only
returns-clause-adds_only c = (staged c.args.self.now.entries c.insert.new.self c.args.number c.args.node_index c.in_ok-added.ensures.updates).only

pub returns-clause-remaining : goal.returns-clause-remaining
returns-clause-remaining c = (staged c.args.self.now.entries c.insert.new.self c.args.number c.args.node_index c.in_ok-added.ensures.updates).remaining

pub returns-clause-here : goal.returns-clause-here
returns-clause-here c = (staged c.args.self.now.entries c.insert.new.self c.args.number c.args.node_index c.in_ok-added.ensures.updates).here
