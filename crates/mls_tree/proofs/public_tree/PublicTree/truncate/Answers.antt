use Rattle.std.proofs.Common.{ap, arith, sym, ◌∙◌, take}
use Rattle.mls_tree.specs.Tree.{height}
use Rattle.mls_tree.specs.TreeOperations.{truncate}
use Rattle.mls_tree.specs.PublicTreeModel.{KeptTree}
use Rattle.mls_tree.specs.CacheModel.{kind_in, slots_in}
use Rattle.mls_tree.proofs.KeptSlots.{listed, of_kind, slots-front}
use Rattle.mls_tree.proofs.KeptCounts.{counts-front}
use Rattle.mls_tree.proofs.Fronts.{truncate-front}
use Rattle.mls_tree.proofs.Trees.{leaf_count-positive}
use Rattle.mls_tree.proofs.public_tree.PublicTree.truncate.Goals as goal

pub invariant_of-self : goal.invariant_of-self
invariant_of-self c =
    let old = c.self.inside.slots in
    let new = c.truncate-2.new.slots in
    let t = c.self.inside.tree.tree in
    let u = c.truncate.new.self.tree in
    let at = c.truncate.ensures ∙ truncate-front t in
    let level = height (truncate t) in (
      of_kind old new u c.truncate-2.ensures.kind
          (slots-front (kind_in old) level t u (slots_in old) (slots_in new) at
          (c.truncate-2.ensures.slots ∙ ap (λ n. take n (slots_in old)) (listed c.nodes-count.result.now u c.nodes-count.ensures)) c.self.invariant.0),
      c.truncate_counts.ensures u (sym c.leaf_count.ensures) (counts-front c.self.inside.counts t u level at c.self.invariant.1),
    )

pub returns-clause-slots : goal.returns-clause-slots
returns-clause-slots c =
    let u = c.truncate.new.self.tree in
    c.truncate-2.ensures.slots
    ∙ (λ i. take (listed c.nodes-count.result.now u c.nodes-count.ensures i) ((ap (λ (v : KeptTree). v.slots) c.self.view_is) i))

pub truncate_counts-requires : goal.truncate_counts-requires
truncate_counts-requires c = omega (arith, c.leaf_count.ensures, leaf_count-positive c.truncate.new.self.tree)

pub truncate-requires : goal.truncate-requires
truncate-requires c = c.counts_in.ensures c.self.inside.tree.tree c.self.invariant.1
