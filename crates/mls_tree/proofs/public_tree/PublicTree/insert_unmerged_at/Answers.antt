use Rattle.std.proofs.Common.{sym, refl, ◌/◌}
use Rattle.mls_tree.specs.CacheModel.{kind_in, slots_in}
use Rattle.mls_tree.proofs.KeptSlots.{of_height, of_kind, slots-if_put_parent}
use Rattle.mls_tree.proofs.KeptCounts.{counts-if_put_parent}
use Rattle.mls_tree.proofs.public_tree.PublicTree.insert_unmerged_at.Goals as goal

pub empty_parents-requires-clause-long : goal.empty_parents-requires-clause-long
empty_parents-requires-clause-long c = of_height c.self.inside.slots c.self.inside.tree.tree c.height-level.result c.self.inside.tree.shape.perfect c.height-level.ensures.value c.self.invariant.0

pub invariant_of-self : goal.invariant_of-self
invariant_of-self c =
    let old = c.self.inside.slots in
    let new = c.empty_parents.new.slots in
    let t = c.self.inside.tree in
    let u = c.insert_unmerged_at-changed.new.self.tree in (
      of_kind old new u c.empty_parents.ensures.kind
          (slots-if_put_parent (kind_in old) t.tree u (slots_in old) (slots_in new) c.insert_unmerged_at-changed.result c.args.node_index _ c.insert_unmerged_at-changed.ensures.in_lists c.insert_unmerged_at-changed.ensures.unchanged_on_error
          (c.empty_parents.ensures.slots t.tree t.shape.perfect (sym c.height-level.ensures.value)) c.self.invariant.0),
      c.recount.ensures,
    )

pub recount-requires : goal.recount-requires
recount-requires c =
    counts-if_put_parent c.self.inside.counts c.self.inside.tree.tree c.insert_unmerged_at-changed.new.self.tree c.insert_unmerged_at-changed.result c.args.node_index (c.args.node_index / 2) _ refl c.insert_unmerged_at-changed.ensures.in_lists c.insert_unmerged_at-changed.ensures.unchanged_on_error c.self.invariant.1
