use Rattle.std.proofs.Common.{ap, ◌∙◌, ◌*◌, ◌+◌, ◌-◌, arith, None}
use Rattle.std.specs.Prelude.{slice_set}
use Rattle.mls_tree.proofs.Emptying.{cleared-none, cleared-here, cleared-left, cleared-right}
use Rattle.mls_tree.proofs.hash_cache.Slots.+clear_from.Goals as goal
use Rattle.mls_tree.proofs.hash_cache.Slots.+clear_from.Goals.{then-node_index-root, else-node_index-root+then-node_index-root-2, else-node_index-root+else-node_index-root-2}

pub returns-then-level-eq0-clause-slots : goal.returns-then-level-eq0-clause-slots
returns-then-level-eq0-clause-slots t c = cleared-none c.args.first c.args.node_index c.args.level c.args.self.now.hashes.items c.if-level-eq0.true

pub returns-clause-slots : goal.returns-clause-slots
returns-clause-slots t c =
    let half = c.leaves_of.result in
    let old = c.args.self.now.hashes.items in
    let new = c.clear.new.self.hashes.items in
    let deep = c.if-level-eq0.false in
    elim c.if-node_index-root.branch [
      | then-node_index-root w ↦
          cleared-left c.args.first half c.args.level c.args.node_index deep c.leaves_of.ensures.value old w.clear_from.new.self.hashes.items new (omega (arith, w.if-node_index-root.true))
          w.clear_from.ensures.slots (c.clear.ensures.slots ∙ ap (λ s. slice_set s.hashes.items (2 * (c.args.first + half) - 1) None) w.self-is)
      | else-node_index-root+then-node_index-root-2 w ↦
          cleared-right c.args.first half c.args.level c.args.node_index deep c.leaves_of.ensures.value old w.clear_from-then-node_index-root-2.new.self.hashes.items new (omega (arith, w.if-node_index-root-2.true))
          w.clear_from-then-node_index-root-2.ensures.slots (c.clear.ensures.slots ∙ ap (λ s. slice_set s.hashes.items (2 * (c.args.first + half) - 1) None) w.self-is)
      | else-node_index-root+else-node_index-root-2 w ↦
          cleared-here c.args.first half c.args.level c.args.node_index deep c.leaves_of.ensures.value old old new
          (omega (arith, w.if-node_index-root.false, w.if-node_index-root-2.false, c.leaves_of.ensures.positive))
          (c.clear.ensures.slots ∙ ap (λ s. slice_set s.hashes.items (2 * (c.args.first + half) - 1) None) w.self-is)
    ]
