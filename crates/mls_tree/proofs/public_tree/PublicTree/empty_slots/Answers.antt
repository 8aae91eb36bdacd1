use Rattle.std.proofs.Common.{◌≡◌, ◌∙◌, None, ap, arith, sym, subst}
use Rattle.std.specs.Prelude.{IsSome}
use Rattle.mls_tree.specs.Tree.{leaf_count}
use Rattle.mls_tree.specs.PublicTreeModel.{KeptTree}
use Rattle.mls_tree.specs.HashCache.{hash_by, AreAllFilled}
use Rattle.mls_tree.specs.HashCacheInternal.{AreSlotsOf}
use Rattle.mls_tree.specs.CacheModel.{kind_in, slots_in}
use Rattle.mls_tree.proofs.Descent.{leaf_count-limit}
use Rattle.mls_tree.proofs.Trees.{leaf_count-positive}
use Rattle.mls_tree.proofs.Emptying.{all_counted, counted_all, empty_count-low}
use Rattle.mls_tree.proofs.public_tree.PublicTree.empty_slots.Goals as goal

pub overflow_cast-result : goal.overflow_cast-result
overflow_cast-result c =
    let right = subst (λ o. AreSlotsOf (kind_in o) c.self.inside.tree.tree (slots_in o)) c.in-Some.is c.self.invariant.0 in
    omega (arith, c.in-Some.slots.subtree_count, empty_count-low c.in-Some.slots.hashes.items, right.count, leaf_count-limit c.self.inside.tree)

pub returns-in-Some-clause-most : goal.returns-in-Some-clause-most
returns-in-Some-clause-most c =
    let right = subst (λ o. AreSlotsOf (kind_in o) c.self.inside.tree.tree (slots_in o)) c.in-Some.is c.self.invariant.0 in
    omega (arith, c.in-Some.slots.subtree_count, empty_count-low c.in-Some.slots.hashes.items, right.count, ap (λ (v : KeptTree). leaf_count v.tree) c.self.view_is)

pub returns-in-Some-clause-none : goal.returns-in-Some-clause-none
returns-in-Some-clause-none c =
    let right = subst (λ o. AreSlotsOf (kind_in o) c.self.inside.tree.tree (slots_in o)) c.in-Some.is c.self.invariant.0 in
    let t = c.self.inside.tree.tree in
    λ all. all_counted (hash_by c.in-Some.slots.kind) t c.in-Some.slots.hashes.items c.in-Some.slots.empty c.in-Some.slots.subtree_count right
    (subst (λ o. AreAllFilled t (slots_in o)) c.in-Some.is (subst (λ (v : KeptTree). AreAllFilled v.tree v.slots) (sym c.self.view_is) all))

pub returns-in-None-clause-most : goal.returns-in-None-clause-most
returns-in-None-clause-most c = omega (arith, leaf_count-positive c.args.self.now.tree)

pub returns-in-Some-clause-full : goal.returns-in-Some-clause-full
returns-in-Some-clause-full c =
    let right = subst (λ o. AreSlotsOf (kind_in o) c.self.inside.tree.tree (slots_in o)) c.in-Some.is c.self.invariant.0 in
    let t = c.self.inside.tree.tree in
    λ nothing some. subst (λ (v : KeptTree). AreAllFilled v.tree v.slots) c.self.view_is
    (subst (λ o. AreAllFilled t (slots_in o)) (sym c.in-Some.is)
    (counted_all (hash_by c.in-Some.slots.kind) t c.in-Some.slots.hashes.items c.in-Some.slots.empty c.in-Some.slots.subtree_count nothing right))

pub returns-in-None-clause-full : goal.returns-in-None-clause-full
returns-in-None-clause-full c =
    λ nothing some. let blank : c.args.self.now.kind ≡ None = sym (ap (λ (v : KeptTree). v.kind) c.self.view_is) ∙ ap kind_in c.in-None.is in
    absurd (let bad = subst (λ k. IsSome k) blank some in cc)
