use Rattle.std.proofs.Common.{ℕ, Option, length}
use Rattle.mls_index.specs.FirstChanged.{FindsFailingAt, leaf_rule, smaller}
use Rattle.mls_index.proofs.changed_leaves.first_changed_failing.Given as goal

-- the smaller one of what was found and of the first one at the rest is the first one
abbrev pub invariant-loop-node_index : goal.invariant-loop-node_index
invariant-loop-node_index g l =
    (p : Option ℕ) → FindsFailingAt (leaf_rule (g.C.SignatureCheck.meaning l.rules.checker.now) l.rules.context.now l.rules.required.now l.rule) l.rest l.tree.tree p
    → FindsFailingAt (leaf_rule (g.C.SignatureCheck.meaning l.rules.checker.now) l.rules.context.now l.rules.required.now l.rule) l.node_indices l.tree.tree (smaller l.found p)

abbrev pub decreases-loop-node_index : goal.decreases-loop-node_index
decreases-loop-node_index g l = length l.rest
