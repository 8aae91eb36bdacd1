use Rattle.std.proofs.Common.{◌∙◌, ap, map, Some, ℕ, arith}
use Rattle.std.proofs.lemmas.List.{length-map}
use Rattle.mls_wire.specs.Encoding.{optional}
use Rattle.mls_wire.specs.EncodedSizes.{size_nothing, size_added, size_refused, size_all}
use Rattle.mls_nodes.specs.NodeValues.{entry_value}
use Rattle.mls_nodes.specs.Layout.{node}
use Rattle.mls_nodes.proofs.Trimming.{entry_at}
use Rattle.mls_nodes.proofs.ratchet_tree.encode.size_of_entries.Goals as goal

pub loop-entry-init : goal.loop-entry-init
loop-entry-init c = record { size = size_nothing (optional node) }

pub returns-in_err-size_of_entry : goal.returns-in_err-size_of_entry
returns-in_err-size_of_entry c =
    c.from_residual.ensures
    ∙ size_refused (optional node) (map entry_value c.args.entries.now) c.loop-entry.entry-index (entry_value c.entry-item.result)
    (omega (arith, length-map c.args.entries.now entry_value)) (entry_at c.args.entries.now c.loop-entry.entry-index c.entry-item.result c.loop-entry-test.true c.entry-item.is) c.in_err-size_of_entry.ensures

pub loop-entry-preserved : goal.loop-entry-preserved
loop-entry-preserved c = record {
  size = ap (λ (n : ℕ). Some n) c.saturating_add-total.ensures
      ∙ size_added (optional node) (map entry_value c.args.entries.now) c.loop-entry.entry-index (entry_value c.entry-item.result) c.loop-entry.total c.in_ok-size_of_entry.field-0
      (omega (arith, length-map c.args.entries.now entry_value)) (entry_at c.args.entries.now c.loop-entry.entry-index c.entry-item.result c.loop-entry-test.true c.entry-item.is)
      c.loop-entry.invariant.size c.in_ok-size_of_entry.ensures;
}

pub returns : goal.returns
returns c = size_all (optional node) (map entry_value c.args.entries.now) c.loop-entry.entry-index c.loop-entry.total (omega (arith, length-map c.args.entries.now entry_value)) c.loop-entry.invariant.size
