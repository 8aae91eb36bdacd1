use Rattle.std.proofs.Common.{◌==◌, ℕ, ◌+◌, List, get_or, sym, ◌∙◌}
use Rattle.std.specs.List.{list_any}
use Rattle.std.proofs.lemmas.Bool.{false≢true}
use Rattle.mls_check.proofs.Elements.{contains-found}
use Rattle.mls_check.proofs.Walks.{Among, left-after, met, unmet, here-among, increasing-among, all-so-far, one-fails, contained}
use Rattle.mls_check.proofs.sorted_leaf_lists.are_among.Goals as goal

pub returns-then-not-starts_with : goal.returns-then-not-starts_with
returns-then-not-starts_with c =
    let leaves : List ℕ = c.args.leaves.now in
    let list : List ℕ = c.args.list.now in
    let i = c.loop-leaf.leaf-index in
    one-fails (λ i. list_any (λ x. x == i) list) leaves i c.loop-leaf-test.true
    (λ t. unmet (Among leaves i) list c.loop-leaf.rest.now c.split_leaves.result.0.now c.split_leaves.result.1.now (get_or leaves i 0)
    c.loop-leaf.invariant.0 c.split_leaves.ensures.whole c.split_leaves.ensures.front c.split_leaves.ensures.rest (here-among leaves i c.loop-leaf-test.true)
    c.requires.list (λ e. false≢true (sym c.if-not-starts_with.true ∙ c.starts_with.ensures.1 e)) (contains-found list (get_or leaves i 0) t))

pub loop-leaf-preserved : goal.loop-leaf-preserved
loop-leaf-preserved c =
    let leaves : List ℕ = c.args.leaves.now in
    let list : List ℕ = c.args.list.now in
    let i = c.loop-leaf.leaf-index in (
      left-after (Among leaves i) list c.loop-leaf.rest.now c.split_leaves.result.0.now c.split_leaves.result.1.now (get_or leaves i 0)
          c.loop-leaf.invariant.0 c.split_leaves.ensures.whole c.split_leaves.ensures.front c.split_leaves.ensures.rest (here-among leaves i c.loop-leaf-test.true)
          (Among leaves (i + 1)) (increasing-among leaves i c.requires.leaves),
      all-so-far (λ i. list_any (λ x. x == i) list) leaves i c.loop-leaf-test.true c.loop-leaf.invariant.1
          (contained list (get_or leaves i 0)
          (met (Among leaves i) list c.loop-leaf.rest.now c.split_leaves.result.0.now c.split_leaves.result.1.now (get_or leaves i 0)
          c.loop-leaf.invariant.0 c.split_leaves.ensures.whole c.split_leaves.ensures.front c.split_leaves.ensures.rest (here-among leaves i c.loop-leaf-test.true)
          (c.starts_with.ensures.0 c.if-not-starts_with.false))),
    )
