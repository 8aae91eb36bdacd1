use Rattle.std.proofs.Common.{◌≡◌, true, sym, subst}
use Rattle.mls_tree.specs.Journals.{before}
use Rattle.mls_check.specs.LeafValidation.{all_leaves, FindsFailing, has_unique_signature_key}
use Rattle.mls_index.proofs.Repeating.{changed_repeated}
use Rattle.mls_apply.specs.Staged.{Staged}
use Rattle.mls_apply.specs.StagedSeen.{HasStagedNodes}
use Rattle.mls_apply.proofs.staged_tree.StagedTree.first_repeated.Goals as goal

pub returns : goal.returns
returns c =
    let s = c.self.inside in
    let base = before s.journal s.tree.tree in
    let at-node_indices = rw c.in-Some.is at c.self.invariant.staged_nodes in
    let staged_nodes : HasStagedNodes c.as_slice.result.now base s.tree.tree s.index = rw c.as_slice.ensures.value at-node_indices in
    let was = subst (λ (v : Staged). all_leaves (has_unique_signature_key v.base) 0 v.base ≡ true) (sym c.self.view_is) c.requires.rules_hold in
    subst (λ (v : Staged). FindsFailing (has_unique_signature_key v.tree) v.tree c.first_repeated_key.result) c.self.view_is
    (changed_repeated c.as_slice.result.now base s.tree.tree staged_nodes.same was c.first_repeated_key.result (c.first_repeated_key.ensures staged_nodes.covers))
