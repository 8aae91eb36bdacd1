use Rattle.std.proofs.Common.{sym, subst, arith}
use Rattle.mls_tree.specs.HashCache.{hash_by, IsRightHash}
use Rattle.mls_tree.specs.HashCacheInternal.{AreSlots, AreSlotsOf}
use Rattle.mls_tree.specs.PublicTreeModel.{KeptTree}
use Rattle.mls_tree.specs.CacheModel.{kind_in, slots_in}
use Rattle.mls_tree.proofs.Emptying.{AreSlots-filled, hash_at-inside, filled-there}
use Rattle.mls_tree.proofs.HashLengths.{length-hash_at}
use Rattle.mls_tree.proofs.public_tree.PublicTree.keep_hash.Goals as goal

pub put-requires : goal.put-requires
put-requires c =
    let ok = subst (λ o. AreSlotsOf (kind_in o) c.self.inside.tree.tree (slots_in o)) c.in-Some.is c.self.invariant.0 in
    let right = subst (λ (v : KeptTree). IsRightHash v.kind v.tree c.args.node_index c.args.hash) (sym c.self.view_is) c.requires in
    let one = subst (λ slots. IsRightHash (kind_in slots) c.self.inside.tree.tree c.args.node_index c.args.hash) c.in-Some.is right in
    record {
      node_index = omega (arith, ok.count, hash_at-inside (hash_by c.in-Some.slots.kind) c.self.inside.tree.tree c.args.node_index c.args.hash one);
      width = length-hash_at c.in-Some.slots.kind c.self.inside.tree.tree c.args.node_index c.args.hash one;
    }

pub invariant_of-self : goal.invariant_of-self
invariant_of-self c =
    let ok = subst (λ o. AreSlotsOf (kind_in o) c.self.inside.tree.tree (slots_in o)) c.in-Some.is c.self.invariant.0 in
    let right = subst (λ (v : KeptTree). IsRightHash v.kind v.tree c.args.node_index c.args.hash) (sym c.self.view_is) c.requires in
    let one = subst (λ slots. IsRightHash (kind_in slots) c.self.inside.tree.tree c.args.node_index c.args.hash) c.in-Some.is right in (
      subst (λ k. AreSlots (hash_by k) c.self.inside.tree.tree c.put.new.self.hashes.items) (sym c.put.ensures.kind)
          (AreSlots-filled (hash_by c.in-Some.slots.kind) c.self.inside.tree.tree c.in-Some.slots.hashes.items c.put.new.self.hashes.items c.args.node_index c.args.hash c.put.ensures.slots one ok),
      c.self.invariant.1,
    )

pub returns-clause-filled : goal.returns-clause-filled
returns-clause-filled c =
    let ok = subst (λ o. AreSlotsOf (kind_in o) c.self.inside.tree.tree (slots_in o)) c.in-Some.is c.self.invariant.0 in
    let right = subst (λ (v : KeptTree). IsRightHash v.kind v.tree c.args.node_index c.args.hash) (sym c.self.view_is) c.requires in
    let one = subst (λ slots. IsRightHash (kind_in slots) c.self.inside.tree.tree c.args.node_index c.args.hash) c.in-Some.is right in
    filled-there c.in-Some.slots.hashes.items c.put.new.self.hashes.items c.args.node_index c.args.hash c.put.ensures.slots
    (omega (arith, ok.count, hash_at-inside (hash_by c.in-Some.slots.kind) c.self.inside.tree.tree c.args.node_index c.args.hash one))
