use Rattle.std.proofs.Common.{ap, sym, subst, ◌∙◌, ◌*◌, ◌-◌, take}
use Rattle.mls_tree.specs.Tree.{leaf_count}
use Rattle.mls_tree.specs.PublicTreeModel.{KeptTree}
use Rattle.mls_tree.proofs.FrontSlots.{front-extended}
use Rattle.mls_tree.specs.HashCache.{extended}
use Rattle.mls_tree.specs.CacheModel.{kind_in, slots_in}
use Rattle.mls_tree.specs.CountsModel.{AreBesideIn}
use Rattle.mls_tree.proofs.KeptSlots.{of_kind, slots-extend}
use Rattle.mls_tree.proofs.public_tree.PublicTree.extend.Goals as goal

pub invariant_of-self-2 : goal.invariant_of-self-2
invariant_of-self-2 c =
    let old = c.self.inside.slots in
    let new = c.double.new.slots in
    let t = c.self.inside.tree in
    let u = c.extend.new.self.tree in (
      of_kind old new u (c.double.ensures.kind ∙ c.reserve_double.ensures.kind)
          (slots-extend (kind_in old) t.tree u (slots_in old) (slots_in new) t.shape.perfect c.in_ok-extend.ensures.changed
          (c.double.ensures.slots ∙ (λ i. extended (c.reserve_double.ensures.kind i) (c.reserve_double.ensures.slots i))) c.self.invariant.0),
      c.recount.ensures,
    )

pub returns-clause-front : goal.returns-clause-front
returns-clause-front c =
    let old = c.self.inside.slots in
    let t = c.self.inside.tree.tree in
    ap (take (2 * leaf_count c.args.self.now.tree - 1)) (c.double.ensures.slots ∙ (λ i. extended (c.reserve_double.ensures.kind i) (c.reserve_double.ensures.slots i)))
    ∙ ap (λ (v : KeptTree). take (2 * leaf_count v.tree - 1) (extended (kind_in old) (slots_in old))) (sym c.self.view_is)
    ∙ front-extended (kind_in old) t (slots_in old) c.self.invariant.0
    ∙ ap (λ (v : KeptTree). v.slots) c.self.view_is

pub double_counts-requires : goal.double_counts-requires
double_counts-requires c = c.in_ok-reserve_counts.ensures.capacity

pub recount-requires : goal.recount-requires
recount-requires c =
    let t = c.self.inside.tree in
    subst (λ v. AreBesideIn c.double_counts.new.counts v 0) (sym c.in_ok-extend.ensures.changed)
    (c.double_counts.ensures t.tree t.shape.perfect (c.reserve_counts.ensures.counts t.tree c.self.invariant.1))
