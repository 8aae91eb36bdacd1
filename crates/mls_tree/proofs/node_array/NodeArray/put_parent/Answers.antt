use Rattle.std.proofs.Common.{ap, arith, inl, inr, refl}
use Rattle.mls_tree.proofs.Lookups.{IsArrayOf-put_parent, put_parent-seen, IsParentNodeIndex-seen, IsParentNodeIndex-not}
use Rattle.mls_tree.proofs.Choices.{false_no_true}
use Rattle.mls_tree.proofs.node_array.NodeArray.put_parent.Goals as goal
use Rattle.mls_tree.proofs.node_array.NodeArray.put_parent.Goals.{then-node_index-eq0-via-then-node_index-eq0, then-node_index-eq0-via-else-node_index-eq0+then-node_index-len}

pub invariant_of-self : goal.invariant_of-self
invariant_of-self c = IsArrayOf-put_parent _ _ c.self.invariant _ (ap (λ r. r.tree) c.self.view_is) c.args.node_index c.parent_entry.result c.parent_entry.ensures.no_leaf (λ even. omega arith) (omega arith)

pub returns-clause-changed : goal.returns-clause-changed
returns-clause-changed c =
    put_parent-seen _ _ c.self.invariant _ (ap (λ r. r.tree) c.self.view_is) c.args.node_index c.parent_entry.result _ (λ even. omega arith) (omega arith) c.parent_entry.ensures.part

pub returns-then-node_index-eq0-clause-no_such_node : goal.returns-then-node_index-eq0-clause-no_such_node
returns-then-node_index-eq0-clause-no_such_node c = (
  λ refused. IsParentNodeIndex-not _ _ c.self.invariant c.args.self.now.tree (ap (λ r. r.tree) c.self.view_is) c.args.node_index
      (elim c.then-node_index-eq0.branch [ then-node_index-eq0-via-then-node_index-eq0 w ↦ inl (omega arith) | then-node_index-eq0-via-else-node_index-eq0+then-node_index-len w ↦ inr (omega arith) ]),
  λ none. refl,
)

pub returns-clause-no_such_node : goal.returns-clause-no_such_node
returns-clause-no_such_node c =
    (λ taken. absurd (false_no_true taken), λ none. absurd (none (IsParentNodeIndex-seen _ _ c.self.invariant _ (ap (λ r. r.tree) c.self.view_is) c.args.node_index (λ even. omega arith) (omega arith))))
