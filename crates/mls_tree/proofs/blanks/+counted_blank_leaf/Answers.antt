use Rattle.std.proofs.Common.{rules, ap, ◌≡◌, sym, arith, false}
use Rattle.std.specs.Prelude.{is_some}
use Rattle.mls_tree.specs.declared.subtree_counts.Count.{Count}
use Rattle.mls_tree.proofs.Walking.{leaves_at-split}
use Rattle.mls_tree.proofs.CountedBlanks.{next_blank_leaf-counted_full, next_blank_leaf-past_left, next_blank_leaf-right, counts-far}
use Rattle.mls_tree.proofs.blanks.+counted_blank_leaf.Goals as goal
use Rattle.mls_tree.proofs.blanks.+counted_blank_leaf.Goals.{then-start-middle+else-is_some, else-start-middle}

pub returns-then-count_of-leaves_of : goal.returns-then-count_of-leaves_of
returns-then-count_of-leaves_of t c =
    sym (next_blank_leaf-counted_full c.args.nodes.now c.args.first c.args.level c.args.start c.count_of.result.members
    (ap (λ (v : Count). v.members) c.count_of.ensures) (omega (arith, c.if-count_of-leaves_of.true, c.leaves_of.ensures.value)))

pub counted_blank_leaf-requires : goal.counted_blank_leaf-requires
counted_blank_leaf-requires t c =
    let e = c.leaves_of-2.ensures.value in
    let s = leaves_at-split _ _ c.if-level-eq0.false e in (
      omega (arith, c.decreases),
      (
        omega arith,
        (
          omega arith,
          (
            omega arith,
            (
              omega arith,
              counts-far c.args.nodes.now c.args.first c.args.level c.args.start c.leaves_of-2.result c.if-level-eq0.false e c.args.counts.now c.requires.counts,
            ),
          ),
        ),
      ),
    )

pub returns : goal.returns
returns t c =
    let e = c.leaves_of-2.ensures.value in
    elim c.if-start-middle.branch [
      | then-start-middle+else-is_some w ↦
          next_blank_leaf-past_left c.args.nodes.now c.args.first c.args.level c.args.start c.leaves_of-2.result c.if-level-eq0.false e
          w.counted_blank_leaf-found.result c.counted_blank_leaf.result w.counted_blank_leaf-found.ensures
          (let none : is_some w.counted_blank_leaf-found.result ≡ false = search rules in none) c.counted_blank_leaf.ensures
      | else-start-middle w ↦
          next_blank_leaf-right c.args.nodes.now c.args.first c.args.level c.args.start c.leaves_of-2.result c.if-level-eq0.false e
          c.counted_blank_leaf.result (omega (arith, w.if-start-middle.false)) c.counted_blank_leaf.ensures
    ]
