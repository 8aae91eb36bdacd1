use Rattle.std.proofs.Common.{◌∙◌, map, refl, arith}
use Rattle.std.proofs.lemmas.Result.{err_from_is_err_and}
use Rattle.std.proofs.lemmas.List.{length-map}
use Rattle.mls_wire.specs.Encoding.{optional}
use Rattle.mls_wire.specs.WriteSequences.{items_push, items_fails, items_all, nothing_put}
use Rattle.mls_nodes.specs.NodeValues.{entry_value}
use Rattle.mls_nodes.specs.Layout.{node}
use Rattle.mls_nodes.proofs.Trimming.{entry_at}
use Rattle.mls_nodes.proofs.ratchet_tree.encode.put_entries.Goals as goal

pub loop-entry-init : goal.loop-entry-init
loop-entry-init c = record { kept = refl; more = nothing_put (optional node) c.args.draft.now.more }

pub returns-in_err-put_entry : goal.returns-in_err-put_entry
returns-in_err-put_entry c =
    let p = err_from_is_err_and c.from_residual.result c.from_residual.ensures.1 in
    rw (p.1, p.2) (items_fails (optional node) c.in_err-put_entry.field-0.0 (map entry_value c.args.entries.now) c.loop-entry.entry-index (entry_value c.entry-item.result)
    c.args.draft.now c.loop-entry.draft c.put_entry.new.draft
    (omega (arith, length-map c.args.entries.now entry_value)) (entry_at c.args.entries.now c.loop-entry.entry-index c.entry-item.result c.loop-entry-test.true c.entry-item.is)
    c.loop-entry.invariant.kept c.in_err-put_entry.ensures)

pub loop-entry-preserved : goal.loop-entry-preserved
loop-entry-preserved c = record {
  kept = c.in_ok-put_entry.ensures.1 ∙ c.loop-entry.invariant.kept;
  more = items_push (optional node) (map entry_value c.args.entries.now) c.loop-entry.entry-index (entry_value c.entry-item.result) c.args.draft.now.more c.loop-entry.draft.more _
      (omega (arith, length-map c.args.entries.now entry_value)) (entry_at c.args.entries.now c.loop-entry.entry-index c.entry-item.result c.loop-entry-test.true c.entry-item.is) c.loop-entry.invariant.more c.in_ok-put_entry.ensures.0;
}

pub returns : goal.returns
returns c = (
  items_all (optional node) (map entry_value c.args.entries.now) c.loop-entry.entry-index c.args.draft.now.more c.loop-entry.draft.more
      (omega (arith, length-map c.args.entries.now entry_value)) c.loop-entry.invariant.more,
  c.loop-entry.invariant.kept,
)
