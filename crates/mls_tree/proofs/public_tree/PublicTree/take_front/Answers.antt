use Rattle.std.proofs.Common.{◌≡◌, ◌<◌, ◌*◌, ◌-◌, take, sym, ap, ◌∙◌, subst, arith}
use Rattle.mls_tree.specs.Tree.{height, leaf_count}
use Rattle.mls_tree.specs.TreeOperations.{blank_tree}
use Rattle.mls_tree.specs.PublicTreeModel.{KeptTree}
use Rattle.mls_tree.specs.CacheModel.{kind_in, slots_in}
use Rattle.mls_tree.specs.CountsModel.{AreCountsIn, AreBesideIn, AreFrontOf}
use Rattle.mls_tree.proofs.KeptSlots.{of_height, of_kind, slots-front}
use Rattle.mls_tree.proofs.KeptCounts.{counts-front, counts-no_more}
use Rattle.mls_tree.proofs.LeafCounts.{leaves-at}
use Rattle.mls_tree.proofs.FrontSlots.{slots-rest, more-than}
use Rattle.mls_tree.proofs.Kept.{height-blank_tree, IsPerfect-blank_tree, leaf_count-blank_tree}
use Rattle.mls_tree.proofs.public_tree.PublicTree.take_front.Goals as goal

pub clone_front-requires : goal.clone_front-requires
clone_front-requires c =
    let t = c.self.inside.tree in
    more-than c.self.inside.slots t.tree (2 * c.leaves_of-leaves.result - 1) c.args.level t.shape.perfect (omega (arith, c.requires, ap (λ (v : KeptTree). height v.tree) c.self.view_is))
    (omega (arith, c.leaves_of-leaves.ensures.value, c.leaves_of-leaves.ensures.positive)) c.self.invariant.0

pub empty_front-requires-clause-few : goal.empty_front-requires-clause-few
empty_front-requires-clause-few c =
    let t = c.self.inside.tree in
    more-than c.self.inside.slots t.tree (2 * c.leaves_of-leaves.result - 1) c.args.level t.shape.perfect (omega (arith, c.requires, ap (λ (v : KeptTree). height v.tree) c.self.view_is))
    (omega (arith, c.leaves_of-leaves.ensures.value, c.leaves_of-leaves.ensures.positive)) c.self.invariant.0

pub empty_front-requires-clause-long : goal.empty_front-requires-clause-long
empty_front-requires-clause-long c = let t = c.self.inside.tree in of_height c.self.inside.slots t.tree c.height-height.result t.shape.perfect c.height-height.ensures.value c.self.invariant.0

pub exchange_front-rest-requires : goal.exchange_front-rest-requires
exchange_front-rest-requires c =
    let k = c.args.level in
    let t = c.self.inside.tree in
    counts-no_more c.in_ok-blank.blank c.replace-former.result (blank_tree k) t.tree (IsPerfect-blank_tree k) t.shape.perfect
    (omega (arith, c.requires, ap (λ (v : KeptTree). height v.tree) c.self.view_is, height-blank_tree k)) (c.in_ok-blank.ensures k (leaf_count-blank_tree k ∙ sym c.leaves_of-leaves.ensures.value))
    (subst (λ o. AreCountsIn o t.tree) (sym c.replace-former.ensures.value) c.self.invariant.1)

pub recount-requires : goal.recount-requires
recount-requires c =
    let k = c.args.level in
    let t = c.self.inside.tree in
    subst (λ v. AreBesideIn c.exchange_front-rest.result.0 v 0) (sym c.in_ok-front.ensures.blank)
    (c.exchange_front-rest.ensures.whole (blank_tree k) t.tree (IsPerfect-blank_tree k) t.shape.perfect
    (omega (arith, c.requires, ap (λ (v : KeptTree). height v.tree) c.self.view_is, height-blank_tree k)) (c.in_ok-blank.ensures k (leaf_count-blank_tree k ∙ sym c.leaves_of-leaves.ensures.value))
    (subst (λ o. AreCountsIn o t.tree) (sym c.replace-former.ensures.value) c.self.invariant.1))

pub invariant_of-result : goal.invariant_of-result
invariant_of-result c =
    let old = c.self.inside.slots in
    let new = c.in_ok-slots.slots in
    let t = c.self.inside.tree in
    let f = c.in_ok-front.front in
    let at = c.in_ok-front.ensures.front in
    let blank = leaf_count-blank_tree c.args.level in
    let count : c.leaves_of-leaves.result ≡ leaf_count f.tree = c.leaves_of-leaves.ensures.value ∙ sym (leaves-at f c.args.level (sym c.in_ok-front.ensures.level)) in (
      of_kind old new f.tree c.in_ok-slots.ensures.0
          (slots-front (kind_in old) c.args.level t.tree f.tree (slots_in old) (slots_in new) at (c.in_ok-slots.ensures.1 ∙ ap (λ k. take (2 * k - 1) (slots_in old)) count) c.self.invariant.0),
      c.exchange_front-rest.ensures.front (blank_tree c.args.level) f.tree (leaves-at f c.args.level (sym c.in_ok-front.ensures.level) ∙ sym blank) (c.in_ok-blank.ensures c.args.level (blank ∙ sym c.leaves_of-leaves.ensures.value))
          (subst (λ o. AreFrontOf o f.tree) (sym c.replace-former.ensures.value) (counts-front c.self.inside.counts t.tree f.tree c.args.level at c.self.invariant.1)),
    )

pub invariant_of-self-2 : goal.invariant_of-self-2
invariant_of-self-2 c =
    let old = c.self.inside.slots in
    let new = c.empty_front.new.slots in
    let t = c.self.inside.tree in
    let f = c.in_ok-front.front in
    let w = c.take_front.new.self in
    let e = c.in_ok-front.ensures in
    let low : height f.tree < height w.tree = omega (arith, c.requires, e.level, e.rest_height, ap (λ (v : KeptTree). height v.tree) c.self.view_is) in
    let count : c.leaves_of-leaves.result ≡ leaf_count f.tree = c.leaves_of-leaves.ensures.value ∙ sym (leaves-at f c.args.level (sym e.level)) in (
      of_kind old new w.tree c.empty_front.ensures.kind
          (slots-rest (kind_in old) t.tree f.tree w.tree (slots_in old) (slots_in new) (2 * c.leaves_of-leaves.result - 1) f.shape.perfect w.shape.perfect (omega arith) e.rest
          (omega (arith, c.leaves_of-leaves.ensures.positive)) (c.empty_front.ensures.slots w.tree w.shape.perfect (e.rest_height ∙ sym c.height-height.ensures.value)) c.self.invariant.0),
      c.recount.ensures,
    )
