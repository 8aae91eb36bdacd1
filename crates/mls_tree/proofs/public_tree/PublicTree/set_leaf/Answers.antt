use Rattle.std.proofs.Common.{sym, arith}
use Rattle.mls_tree.specs.CacheModel.{kind_in, slots_in}
use Rattle.mls_tree.specs.Tree.{leaf_count}
use Rattle.mls_tree.proofs.LeafCounts.{leaves-at, taken-inside}
use Rattle.mls_tree.proofs.KeptSlots.{of_height, of_kind, slots-put_leaf}
use Rattle.mls_tree.proofs.KeptCounts.{counts-put_leaf}
use Rattle.mls_tree.proofs.public_tree.PublicTree.set_leaf.Goals as goal

pub empty_leaf-requires-clause-inside : goal.empty_leaf-requires-clause-inside
empty_leaf-requires-clause-inside c =
    let t = c.self.inside.tree in
    let low = taken-inside c.set_leaf.result c.in_ok-set_leaf.field-0 (leaf_count t.tree) c.args.index c.in_ok-set_leaf.was c.set_leaf.ensures.no_such_node.1 in
    omega (arith, leaves-at t c.height-level.result c.height-level.ensures.value)

pub empty_leaf-requires-clause-long : goal.empty_leaf-requires-clause-long
empty_leaf-requires-clause-long c = of_height c.self.inside.slots c.self.inside.tree.tree c.height-level.result c.self.inside.tree.shape.perfect c.height-level.ensures.value c.self.invariant.0

pub invariant_of-self-2 : goal.invariant_of-self-2
invariant_of-self-2 c =
    let old = c.self.inside.slots in
    let new = c.empty_leaf.new.slots in
    let t = c.self.inside.tree in
    let u = c.set_leaf.new.self.tree in
    let low = taken-inside c.set_leaf.result c.in_ok-set_leaf.field-0 (leaf_count t.tree) c.args.index c.in_ok-set_leaf.was c.set_leaf.ensures.no_such_node.1 in (
      of_kind old new u c.empty_leaf.ensures.kind
          (slots-put_leaf (kind_in old) t.tree u (slots_in old) (slots_in new) c.args.index _ c.in_ok-set_leaf.ensures.changed low
          (c.empty_leaf.ensures.slots t.tree t.shape.perfect (sym c.height-level.ensures.value)) c.self.invariant.0),
      c.recount.ensures,
    )

pub recount-requires : goal.recount-requires
recount-requires c =
    counts-put_leaf c.self.inside.counts c.self.inside.tree.tree c.set_leaf.new.self.tree c.args.index _ c.in_ok-set_leaf.ensures.changed c.self.invariant.1
