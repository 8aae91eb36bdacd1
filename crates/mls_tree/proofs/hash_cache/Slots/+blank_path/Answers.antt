use Rattle.std.proofs.Common.{ap, ◌∙◌, ◌*◌, ◌+◌, ◌-◌, None}
use Rattle.std.specs.Prelude.{slice_set}
use Rattle.mls_tree.proofs.Emptying.{emptied-left, emptied-right, emptied-none}
use Rattle.mls_tree.proofs.hash_cache.Slots.+blank_path.Goals as goal
use Rattle.mls_tree.proofs.hash_cache.Slots.+blank_path.Goals.{then-leaf-middle, else-leaf-middle}

pub returns-then-level-eq0-clause-slots : goal.returns-then-level-eq0-clause-slots
returns-then-level-eq0-clause-slots t c = emptied-none c.args.first c.args.leaf c.args.level c.args.self.now.hashes.items c.if-level-eq0.true

pub returns-clause-slots : goal.returns-clause-slots
returns-clause-slots t c =
    elim c.if-leaf-middle.branch [
      | then-leaf-middle w ↦
          emptied-left c.args.first c.leaves_of.result c.args.level c.args.leaf c.if-level-eq0.false c.leaves_of.ensures.value c.args.self.now.hashes.items w.blank_path.new.self.hashes.items _
          w.if-leaf-middle.true w.blank_path.ensures.slots (c.clear.ensures.slots ∙ ap (λ s. slice_set s.hashes.items (2 * (c.args.first + c.leaves_of.result) - 1) None) w.self-is)
      | else-leaf-middle w ↦
          emptied-right c.args.first c.leaves_of.result c.args.level c.args.leaf c.if-level-eq0.false c.leaves_of.ensures.value c.args.self.now.hashes.items w.blank_path-else-leaf-middle.new.self.hashes.items _
          w.if-leaf-middle.false w.blank_path-else-leaf-middle.ensures.slots (c.clear.ensures.slots ∙ ap (λ s. slice_set s.hashes.items (2 * (c.args.first + c.leaves_of.result) - 1) None) w.self-is)
    ]
