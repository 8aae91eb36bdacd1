use Rattle.std.proofs.Common.{◌≡◌, true, sym, subst}
use Rattle.mls_tree.specs.Journals.{before}
use Rattle.mls_check.specs.LeafValidation.{FindsFailing, supports_used_credentials}
use Rattle.mls_apply.specs.Staged.{Staged}
use Rattle.mls_apply.specs.StagedSeen.{HasStagedNodes}
use Rattle.mls_apply.proofs.Staging.{some_there}
use Rattle.mls_apply.proofs.staged_tree.StagedTree.first_unsupported.Goals as goal

pub returns : goal.returns
returns c =
    let s = c.self.inside in
    let base = before s.journal s.tree.tree in
    let indexed = subst (λ (v : Staged). v.indexed ≡ true) (sym c.self.view_is) c.requires.is_index_of_tree in
    let staged_nodes = some_there s.staged_nodes (λ node_indices. HasStagedNodes node_indices.items base s.tree.tree s.index) c.self.invariant.staged_nodes indexed in
    subst (λ (v : Staged). FindsFailing (λ _ x. supports_used_credentials v.tree x) v.tree c.first_unsupported_credential.result) c.self.view_is
    (c.first_unsupported_credential.ensures s.tree.tree staged_nodes.1.covers)
