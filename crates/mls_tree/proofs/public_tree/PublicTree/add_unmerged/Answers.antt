use Rattle.std.proofs.Common.{sym}
use Rattle.mls_tree.specs.CacheModel.{kind_in, slots_in}
use Rattle.mls_tree.specs.TreeOperations.{with_unmerged}
use Rattle.mls_tree.proofs.KeptSlots.{of_height, of_kind, slots-change_above}
use Rattle.mls_tree.proofs.KeptCounts.{counts-change_above}
use Rattle.mls_tree.proofs.public_tree.PublicTree.add_unmerged.Goals as goal

pub empty_path-requires-clause-long : goal.empty_path-requires-clause-long
empty_path-requires-clause-long c = of_height c.self.inside.slots c.self.inside.tree.tree c.height-level.result c.self.inside.tree.shape.perfect c.height-level.ensures.value c.self.invariant.0

pub invariant_of-self-2 : goal.invariant_of-self-2
invariant_of-self-2 c =
    let old = c.self.inside.slots in
    let new = c.empty_path.new.slots in
    let t = c.self.inside.tree in
    let u = c.add_unmerged.new.self.tree in (
      of_kind old new u c.empty_path.ensures.kind
          (slots-change_above (kind_in old) t.tree u (slots_in old) (slots_in new) (with_unmerged c.args.index) c.args.index c.in_ok-add_unmerged.ensures.changed
          (c.empty_path.ensures.slots t.tree t.shape.perfect (sym c.height-level.ensures.value)) c.self.invariant.0),
      c.recount.ensures,
    )

pub recount-requires : goal.recount-requires
recount-requires c =
    counts-change_above c.self.inside.counts c.self.inside.tree.tree c.add_unmerged.new.self.tree (with_unmerged c.args.index) c.args.index c.in_ok-add_unmerged.ensures.changed c.self.invariant.1
