use Rattle.std.proofs.Common.{ap, ◌∙◌, sym, Some, arith, inl, inr}
use Rattle.std.specs.Prelude.{option_map}
use Rattle.mls_tree.specs.TreeOperations.{without_unmerged}
use Rattle.mls_tree.proofs.AlongPaths.{parent_at}
use Rattle.mls_tree.proofs.Elsewhere.{put_parent-elsewhere}
use Rattle.mls_tree.proofs.Lookups.{IsParentNodeIndex-seen, IsParentNodeIndex-not}
use Rattle.mls_tree.proofs.Entering.{still-parent, changed-as}
use Rattle.mls_tree.proofs.node_array.NodeArray.leave_at.Goals as goal
use Rattle.mls_tree.proofs.node_array.NodeArray.leave_at.Goals.{then-node_index-len-via-then-node_index-len, then-node_index-len-via-else-node_index-len+then-node_index-eq0}

pub returns-then-node_index-len : goal.returns-then-node_index-len
returns-then-node_index-len c =
    sym (put_parent-elsewhere c.args.self.now.tree c.args.node_index (without_unmerged c.args.index (parent_at 0 c.args.self.now.tree c.args.node_index))
    (IsParentNodeIndex-not _ _ c.self.invariant c.args.self.now.tree (ap (λ r. r.tree) c.self.view_is) c.args.node_index
    (elim c.then-node_index-len.branch [ then-node_index-len-via-then-node_index-len w ↦ inr (omega arith) | then-node_index-len-via-else-node_index-len+then-node_index-eq0 w ↦ inl (omega arith) ])))

pub replace_parent-requires : goal.replace_parent-requires
replace_parent-requires c =
    IsParentNodeIndex-seen _ _ c.self.invariant _ (ap (λ r. r.tree) c.self.view_is) c.args.node_index (λ even. omega (arith, c.if-node_index-eq0.false)) (omega (arith, c.if-node_index-len.false, c.len.ensures))

pub replace_parent-requires-2 : goal.replace_parent-requires-2
replace_parent-requires-2 c =
    let there = IsParentNodeIndex-seen _ _ c.self.invariant c.args.self.now.tree (ap (λ r. r.tree) c.self.view_is) c.args.node_index (λ even. omega (arith, c.if-node_index-eq0.false)) (omega (arith, c.if-node_index-len.false, c.len.ensures)) in
    still-parent c.args.self.now.tree c.replace_parent.new.self.tree c.args.node_index there c.replace_parent.ensures.put

pub returns : goal.returns
returns c =
    let parent = c.deref_mut.result.now in
    let there = IsParentNodeIndex-seen _ _ c.self.invariant c.args.self.now.tree (ap (λ r. r.tree) c.self.view_is) c.args.node_index (λ even. omega (arith, c.if-node_index-eq0.false)) (omega (arith, c.if-node_index-len.false, c.len.ensures)) in
    let at = ap (λ v. Some v) c.deref_mut.ensures.value ∙ sym (ap (λ o. option_map (λ b. b.value) o) c.in-Some.is) ∙ c.replace_parent.ensures.former in
    changed-as c.args.self.now.tree c.replace_parent.new.self.tree c.replace_parent-2.new.self.tree c.args.node_index (Some parent) _ there at
    c.replace_parent.ensures.put c.replace_parent-2.ensures.put (without_unmerged c.args.index) (ap (λ xs. Some (record parent { unmerged = xs })) c.leave.ensures)
