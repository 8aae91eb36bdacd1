use Rattle.std.proofs.Common.{◌≡◌, true, sym, subst}
use Rattle.std.specs.Prelude.{IfOk}
use Rattle.mls_tree.specs.Journals.{before}
use Rattle.mls_check.specs.LeafValidation.{all_leaves, FindsFailing}
use Rattle.mls_index.specs.FirstChanged.{leaf_rule}
use Rattle.mls_apply.specs.Staged.{Staged}
use Rattle.mls_apply.specs.StagedSeen.{HasStagedNodes}
use Rattle.mls_apply.proofs.Staging.{first_there}
use Rattle.mls_apply.proofs.staged_tree.StagedTree.first_failing.Goals as goal

pub returns : goal.returns
returns g c =
    let test = leaf_rule (g.C.SignatureCheck.meaning c.args.rules.now.checker.now) c.args.rules.now.context.now c.args.rules.now.required.now c.args.rule in
    let s = c.self.inside in
    let base = before s.journal s.tree.tree in
    let at-node_indices = rw c.in-Some.is at c.self.invariant.staged_nodes in
    let staged_nodes : HasStagedNodes c.as_slice.result.now base s.tree.tree s.index = rw c.as_slice.ensures.value at-node_indices in
    let was = subst (λ (v : Staged). all_leaves test 0 v.base ≡ true) (sym c.self.view_is) c.requires.rules_hold in
    subst (λ (v : Staged). IfOk c.first_changed_failing.result (FindsFailing test v.tree)) c.self.view_is
    (first_there c.as_slice.result.now base s.tree.tree staged_nodes.same test was c.first_changed_failing.result c.first_changed_failing.ensures)
