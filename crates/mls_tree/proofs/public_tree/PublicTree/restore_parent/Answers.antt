use Rattle.std.proofs.Common.{sym, refl, ap, ◌∙◌, ◌/◌}
use Rattle.std.specs.Prelude.{option_map}
use Rattle.mls_tree.specs.PublicTreeModel.{KeptTree}
use Rattle.mls_tree.specs.TreeOperations.{put_parent}
use Rattle.mls_tree.specs.CacheModel.{kind_in, slots_in}
use Rattle.mls_tree.proofs.KeptSlots.{of_height, of_kind, slots-put_parent}
use Rattle.mls_tree.proofs.KeptCounts.{counts-put_parent}
use Rattle.mls_tree.proofs.TakenBack.{parent-put_back}
use Rattle.mls_tree.proofs.public_tree.PublicTree.restore_parent.Goals as goal

pub empty_parents-requires-clause-long : goal.empty_parents-requires-clause-long
empty_parents-requires-clause-long c = of_height c.self.inside.slots c.self.inside.tree.tree c.height-level.result c.self.inside.tree.shape.perfect c.height-level.ensures.value c.self.invariant.0

pub invariant_of-self : goal.invariant_of-self
invariant_of-self c =
    let old = c.self.inside.slots in
    let new = c.empty_parents.new.slots in
    let t = c.self.inside.tree in
    let u = c.put_parent.new.self in
    let put = parent-put_back c.put_parent.result t u c.args.node_index _ c.put_parent.ensures.changed c.put_parent.ensures.unchanged_on_error c.put_parent.ensures.no_such_node.0 in (
      of_kind old new u.tree c.empty_parents.ensures.kind
          (slots-put_parent (kind_in old) t.tree u.tree (slots_in old) (slots_in new) c.args.node_index _ put
          (c.empty_parents.ensures.slots t.tree t.shape.perfect (sym c.height-level.ensures.value)) c.self.invariant.0),
      c.recount.ensures,
    )

pub recount-requires : goal.recount-requires
recount-requires c =
    let t = c.self.inside.tree in
    let u = c.put_parent.new.self in
    let put = parent-put_back c.put_parent.result t u c.args.node_index _ c.put_parent.ensures.changed c.put_parent.ensures.unchanged_on_error c.put_parent.ensures.no_such_node.0 in
    counts-put_parent c.self.inside.counts t.tree u.tree c.args.node_index (c.args.node_index / 2) _ refl put c.self.invariant.1

pub returns : goal.returns
returns c =
    let t = c.self.inside.tree in
    let u = c.put_parent.new.self in
    record {
      put =
          parent-put_back c.put_parent.result t u c.args.node_index _ c.put_parent.ensures.changed c.put_parent.ensures.unchanged_on_error c.put_parent.ensures.no_such_node.0
          ∙ ap (λ (v : KeptTree). put_parent 0 v.tree c.args.node_index (option_map (λ b. b.value) c.args.parent)) c.self.view_is;
    }
