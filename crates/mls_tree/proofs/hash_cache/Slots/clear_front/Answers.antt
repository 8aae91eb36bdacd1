use Rattle.std.proofs.Common.{ap, ◌∙◌, arith, length, None}
use Rattle.std.specs.Prelude.{slice_set}
use Rattle.std.specs.List.{range_with_len}
use Rattle.mls_tree.proofs.Emptying.{length-emptied}
use Rattle.mls_tree.proofs.EmptyFronts.{emptied-more}
use Rattle.mls_tree.proofs.hash_cache.Slots.clear_front.Goals as goal

pub clear-requires : goal.clear-requires
clear-requires c =
    omega (arith, c.requires, c.loop-node_index-test.true, ap length c.loop-node_index.invariant.slots, length-emptied c.args.self.now.hashes.items (range_with_len 0 c.loop-node_index.node_index))

pub loop-node_index-preserved : goal.loop-node_index-preserved
loop-node_index-preserved c = record {
  slots = c.clear.ensures.slots ∙ ap (λ cs. slice_set cs c.loop-node_index.node_index None) c.loop-node_index.invariant.slots ∙ emptied-more c.args.self.now.hashes.items c.loop-node_index.node_index;
  kind = c.clear.ensures.kind ∙ c.loop-node_index.invariant.kind;
}
