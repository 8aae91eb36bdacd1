use Rattle.std.proofs.Common.{ap, arith, Some, ◌∙◌, subst, ◌-◌, ◌+◌}
use Rattle.mls_tree.specs.NodeIndicesInternal.{HasLevel}
use Rattle.mls_tree.proofs.Coordinates.{right_at-node_index, right_at-leaf, no_tree_of, HasLevel-low}
use Rattle.mls_tree.proofs.node_indices.right.Goals as goal

pub returns-then-level-eq0-clause-found : goal.returns-then-level-eq0-clause-found
returns-then-level-eq0-clause-found c = λ t e. right_at-leaf t c.args.node_index c.args.leaves e (subst (λ k. HasLevel c.args.node_index c.args.leaves k) c.if-level-eq0.true c.in_ok-level.ensures)

pub overflow_add-result : goal.overflow_add-result
overflow_add-result c = omega (arith, c.leaves_of.ensures.value, HasLevel-low _ _ _ (c.in_ok-level.level - 1) c.in_ok-level.ensures (omega arith))

pub returns-clause-found : goal.returns-clause-found
returns-clause-found c = λ t e.
    ap (λ v. Some (c.args.node_index + v)) c.leaves_of.ensures.value ∙ right_at-node_index t _ _ e c.in_ok-level.level (c.in_ok-level.level - 1) (omega arith) c.in_ok-level.ensures

pub returns-clause-no_tree : goal.returns-clause-no_tree
returns-clause-no_tree c = λ none. absurd (no_tree_of _ _ _ c.in_ok-level.ensures none)
