use Rattle.std.proofs.Common.{◌≡◌, true, sym, subst}
use Rattle.mls_tree.specs.Journals.{before}
use Rattle.mls_check.specs.DistinctKeys.{has_distinct_keys}
use Rattle.mls_apply.specs.Staged.{Staged}
use Rattle.mls_apply.specs.StagedSeen.{HasStagedNodes}
use Rattle.mls_apply.proofs.Staging.{distinct_there}
use Rattle.mls_apply.proofs.staged_tree.StagedTree.has_distinct_keys.Goals as goal

pub returns : goal.returns
returns c =
    let s = c.self.inside in
    let base = before s.journal s.tree.tree in
    let at-node_indices = rw c.in-Some.is at c.self.invariant.staged_nodes in
    let staged_nodes : HasStagedNodes c.as_slice.result.now base s.tree.tree s.index = rw c.as_slice.ensures.value at-node_indices in
    let distinct = subst (λ (v : Staged). has_distinct_keys v.base ≡ true) (sym c.self.view_is) c.requires.distinct in
    subst (λ (v : Staged). c.have_unique_keys.result ≡ has_distinct_keys v.tree) c.self.view_is
    (distinct_there c.as_slice.result.now base s.tree.tree staged_nodes.same distinct c.have_unique_keys.result (c.have_unique_keys.ensures staged_nodes.covers))
