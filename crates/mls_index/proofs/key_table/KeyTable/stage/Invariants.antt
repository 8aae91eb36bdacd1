use Rattle.std.proofs.Common.{length}
use Rattle.mls_tree.specs.Tree.{Tree}
use Rattle.mls_index.specs.KeyTable.{AddsNumbers, HasBaseOf}
use Rattle.mls_index.specs.KeyTableInternal.{ContainsKeysBut}
use Rattle.mls_index.proofs.key_table.KeyTable.stage.Given as goal

abbrev pub invariant-loop-node_index : goal.invariant-loop-node_index
invariant-loop-node_index l = record {
  between : (t : Tree) → HasBaseOf l.kind t l.initial.self → HasBaseOf l.kind t l.self;
  covers : ContainsKeysBut l.node_indices l.kind l.tree.tree l.initial.self → ContainsKeysBut l.rest l.kind l.tree.tree l.self;
  numbers : AddsNumbers l.kind l.tree.tree l.initial.self l.self;
}

abbrev pub decreases-loop-node_index : goal.decreases-loop-node_index
decreases-loop-node_index l = length l.rest
