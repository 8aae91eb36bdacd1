use Rattle.std.proofs.Common.{◌∙◌, ◌+◌, sym, ap, refl, Bool}
use Rattle.std.proofs.lemmas.Result.{err_from_is_err_and}
use Rattle.mls_nodes.specs.NodeValues.{entry_value}
use Rattle.mls_nodes.specs.ParsingInternal.{rest_at, reader_model}
use Rattle.mls_nodes.specs.RatchetTreeReading.{with_first}
use Rattle.mls_nodes.proofs.RestOfTree.{rest_crowded, rest_more, entry_encoded, entry_fault}
use Rattle.mls_nodes.proofs.ratchet_tree.reader.read_next.Goals as goal

pub returns-then-progress-ge-MAX_ENTRIES-clause-entry : goal.returns-then-progress-ge-MAX_ENTRIES-clause-entry
returns-then-progress-ge-MAX_ENTRIES-clause-entry c =
    rest_crowded c.args.progress.now.node_index c.args.progress.now.is_last_non_blank c.args.after.now c.args.body.now c.if-progress-ge-MAX_ENTRIES.true (λ e. let bad = c.if-at_end.ensures.1 e in absurd cc)

pub returns-in_err-entry-clause-entry : goal.returns-in_err-entry-clause-entry
returns-in_err-entry-clause-entry c =
    let p = err_from_is_err_and c.from_residual-in_err-entry.result c.from_residual-in_err-entry.ensures.1 in
    rw (p.1, p.2) (entry_fault c.in_err-entry.field-0.0 c.args.progress.now.node_index c.args.progress.now.is_last_non_blank c.args.after.now c.args.body.now c.read_entry.new.reader
    (reader_model c.args.progress.now c.args.after.now c.args.body.now) (reader_model c.args.progress.now c.args.after.now c.read_entry.new.reader)
    (λ e. let bad = c.if-at_end.ensures.1 e in absurd cc) c.in_err-entry.ensures refl)

pub returns-clause-entry : goal.returns-clause-entry
returns-clause-entry c =
    let more = rest_more c.args.progress.now.node_index c.args.progress.now.is_last_non_blank c.args.after.now c.args.body.now c.in_ok-entry.entry c.read_entry.new.reader
    (λ e. let bad = c.if-at_end.ensures.1 e in absurd cc) c.in_ok-entry.ensures in (
      more.0
          ∙ ap (λ (b : Bool). with_first (entry_value c.in_ok-entry.entry) (rest_at (c.args.progress.now.node_index + 1) b c.args.after.now c.read_entry.new.reader)) (sym c.is_some.ensures),
      refl,
      more.1,
      (entry_encoded c.args.progress.now.node_index c.args.body.now (entry_value c.in_ok-entry.entry) c.read_entry.new.reader c.in_ok-entry.ensures).0,
    )

pub returns-clause-end : goal.returns-clause-end
returns-clause-end c = (entry_encoded c.args.progress.now.node_index c.args.body.now (entry_value c.in_ok-entry.entry) c.read_entry.new.reader c.in_ok-entry.ensures).1
