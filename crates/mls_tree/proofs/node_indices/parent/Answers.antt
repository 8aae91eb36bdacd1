use Rattle.std.proofs.Common.{ap, arith, ◌∙◌, sym, subst, inl, inr, ◌-◌, ◌+◌, ℕ, MatchOption, ◌%◌, ◌≢◌}
use Rattle.mls_tree.specs.NodeIndices.{IsParentOf, left_at, right_at}
use Rattle.mls_tree.specs.NodeIndicesInternal.{HasLevel}
use Rattle.mls_tree.proofs.Coordinates.{above, no_tree_of, HasLevel-low, HasLevel-odd, HasLevel-parity, IsParentOf-no_node_index, IsParentOf-root}
use Rattle.mls_tree.proofs.node_indices.parent.Goals as goal

pub returns-in_err-level-clause-found : goal.returns-in_err-level-clause-found
returns-in_err-level-clause-found c = λ t e.
    subst (λ r. MatchOption r ((q : ℕ) → IsParentOf t.tree q c.args.node_index → ⊥) (λ q. IsParentOf t.tree q c.args.node_index)) (sym c.from_residual.ensures)
    (λ q h. IsParentOf-no_node_index t q c.args.node_index (c.in_err-level.ensures t e) h)

pub returns-then-node_index-leaves-clause-found : goal.returns-then-node_index-leaves-clause-found
returns-then-node_index-leaves-clause-found c = λ t e q h. IsParentOf-root t q c.args.node_index c.args.leaves e c.if-node_index-leaves.true h

pub overflow_add-result : goal.overflow_add-result
overflow_add-result c = omega (arith, c.leaves_of.ensures.value, HasLevel-low _ _ _ c.in_ok-level.level c.in_ok-level.ensures (omega arith))

pub overflow_sub-result : goal.overflow_sub-result
overflow_sub-result c =
    let s : HasLevel c.args.node_index c.args.leaves c.in_ok-level.level = c.in_ok-level.ensures in
    let odd : s.number % 2 ≢ 0 = λ e. c.if-node_index-level-eq0.false (HasLevel-parity _ _ _ s ∙ e) in
    omega (arith, c.leaves_of-else-node_index-level-eq0.ensures.value, HasLevel-odd _ _ _ s odd)

pub returns-then-node_index-level-eq0-clause-found : goal.returns-then-node_index-level-eq0-clause-found
returns-then-node_index-level-eq0-clause-found c = λ t e.
    let s : HasLevel c.args.node_index c.args.leaves c.in_ok-level.level = c.in_ok-level.ensures in
    inl (ap (λ v. left_at t.tree (c.args.node_index + v)) c.leaves_of.ensures.value
    ∙ (above t _ _ _ e s c.if-node_index-leaves.false).even (sym (HasLevel-parity _ _ _ s) ∙ c.if-node_index-level-eq0.true))

pub returns-then-node_index-level-eq0-clause-no_tree : goal.returns-then-node_index-level-eq0-clause-no_tree
returns-then-node_index-level-eq0-clause-no_tree c = λ none. absurd (no_tree_of _ _ _ c.in_ok-level.ensures none)

pub returns-else-node_index-level-eq0-clause-found : goal.returns-else-node_index-level-eq0-clause-found
returns-else-node_index-level-eq0-clause-found c = λ t e.
    let s : HasLevel c.args.node_index c.args.leaves c.in_ok-level.level = c.in_ok-level.ensures in
    inr (ap (λ v. right_at t.tree (c.args.node_index - v)) c.leaves_of-else-node_index-level-eq0.ensures.value
    ∙ ((above t _ _ _ e s c.if-node_index-leaves.false).odd (λ q. c.if-node_index-level-eq0.false (HasLevel-parity _ _ _ s ∙ q))).1)

pub returns-else-node_index-level-eq0-clause-no_tree : goal.returns-else-node_index-level-eq0-clause-no_tree
returns-else-node_index-level-eq0-clause-no_tree c = λ none. absurd (no_tree_of _ _ _ c.in_ok-level.ensures none)
