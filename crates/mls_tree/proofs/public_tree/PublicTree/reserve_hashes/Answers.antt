use Rattle.std.proofs.Common.{ap, ◌∙◌, ◌*◌, ◌-◌, length, sym, subst, arith, replicate, None}
use Rattle.mls_tree.specs.Tree.{leaf_count}
use Rattle.mls_tree.specs.PublicTreeModel.{KeptTree}
use Rattle.mls_tree.specs.HashCache.{hash_by}
use Rattle.mls_tree.specs.HashCacheInternal.{AreSlots}
use Rattle.mls_tree.proofs.Trees.{leaf_count-positive}
use Rattle.mls_tree.proofs.Descent.{leaf_count-limit}
use Rattle.mls_tree.proofs.Emptying.{AreSlots-fresh}
use Rattle.mls_tree.proofs.KeptSlots.{listed}
use Rattle.mls_tree.proofs.public_tree.PublicTree.reserve_hashes.Goals as goal

pub blank-requires : goal.blank-requires
blank-requires c = omega (arith, listed c.nodes-count.result.now c.self.inside.tree.tree c.nodes-count.ensures, leaf_count-limit c.self.inside.tree)

pub invariant_of-self : goal.invariant_of-self
invariant_of-self c =
    let t = c.self.inside.tree.tree in
    let nodes = c.nodes-count.result.now in
    let kind = c.in_ok-slots.ensures.kind in (
      subst (λ k. AreSlots (hash_by k) t c.in_ok-slots.slots.hashes.items) (sym kind)
          (AreSlots-fresh (hash_by c.args.kind) t c.in_ok-slots.slots.hashes.items (length nodes) c.in_ok-slots.ensures.slots (omega (arith, listed nodes t c.nodes-count.ensures, leaf_count-positive t))),
      c.in_ok-counts.ensures,
    )

pub returns-clause-fresh : goal.returns-clause-fresh
returns-clause-fresh c =
    let t = c.self.inside.tree.tree in
    let nodes = c.nodes-count.result.now in
    λ other. c.in_ok-slots.ensures.slots ∙ ap (λ n. replicate n None) (listed nodes t c.nodes-count.ensures ∙ ap (λ (v : KeptTree). 2 * leaf_count v.tree - 1) c.self.view_is)
