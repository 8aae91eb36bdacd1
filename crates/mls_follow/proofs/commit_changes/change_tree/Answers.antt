use Rattle.std.proofs.Common.{ap, sym, Option, Some, Err, ◌∙◌}
use Rattle.std.proofs.lemmas.Result.{err_from_is_err_and}
use Rattle.mls_hash.specs.SuiteHash.{hash_of}
use Rattle.mls_apply.specs.AppliedList.{AppliedTree, outcome}
use Rattle.mls_apply.specs.RuleLists.{first_failing}
use Rattle.mls_follow.specs.CommitTree.{committer_rules, change_rules}
use Rattle.mls_follow.specs.MessageRules.{CommitterTree}
use Rattle.mls_follow.proofs.Committing.{not_applied, change_committer_tree, changed_committer_tree}
use Rattle.mls_follow.proofs.Staying.{committer_present}
use Rattle.mls_follow.proofs.commit_changes.change_tree.Goals as goal

-- the list has no outcome
pub returns-in_err-added-clause-refused : goal.returns-in_err-added-clause-refused
returns-in_err-added-clause-refused c =
    let p = err_from_is_err_and c.from_residual.result c.from_residual.ensures.1 in
    let commit = c.args.commit.now in
    let no_such_leaf = rw c.as_slice.ensures.value at c.in_err-added.ensures.no_such_leaf in
    let too_many_leaves = rw c.as_slice.ensures.value at c.in_err-added.ensures.too_many_leaves in
    let failed = ap (λ (o : Option AppliedTree). first_failing (change_rules (hash_of c.args.suite) commit.committer commit.path.now o)) in
    rw (p.1, p.2) (λ not_memory.
    let none = not_applied c.in_err-added.field-0.0 commit.items.items c.args.tree.now.tree (λ e. no_such_leaf (ap Err e)) (λ e. (too_many_leaves (ap Err e)).1) not_memory in
    failed none.0 ∙ ap Some (sym none.1))

-- the committer's leaf stays
pub committer_in_tree-requires : goal.committer_in_tree-requires
committer_in_tree-requires c =
    let commit = c.args.commit.now in
    let applied = rw c.as_slice.ensures.value at c.in_ok-added.ensures.applied in
    committer_present commit.committer commit.items.items commit.path.now c.args.tree.now.tree _ commit.listed applied c.requires

-- the committer has no leaf
pub returns-in_err-committer-clause-refused : goal.returns-in_err-committer-clause-refused
returns-in_err-committer-clause-refused c =
    let p = err_from_is_err_and c.from_residual-in_err-committer.result c.from_residual-in_err-committer.ensures.1 in
    let commit = c.args.commit.now in
    let applied = rw c.as_slice.ensures.value at c.in_ok-added.ensures.applied in
    rw (p.1, p.2) (λ not_memory.
    let none = c.in_err-committer.ensures.refused not_memory in
    ap (λ (o : Option AppliedTree). first_failing (change_rules (hash_of c.args.suite) commit.committer commit.path.now o)) applied
    ∙ ap (λ (q : Option CommitterTree). first_failing (committer_rules (hash_of c.args.suite) commit.path.now q)) none.0
    ∙ ap Some (sym none.1))

-- the path, in the tree in which the committer has its leaf
pub returns-clause-rules_hold : goal.returns-clause-rules_hold
returns-clause-rules_hold c =
    let commit = c.args.commit.now in
    let applied = rw c.as_slice.ensures.value at c.in_ok-added.ensures.applied in
    rw (change_committer_tree (hash_of c.args.suite) commit.committer commit.path.now (outcome commit.items.items c.args.tree.now.tree) _ _ applied c.in_ok-committer.ensures.committer_tree)
    c.merge.ensures.rules_hold

pub returns-clause-tree : goal.returns-clause-tree
returns-clause-tree c =
    let commit = c.args.commit.now in
    let applied = rw c.as_slice.ensures.value at c.in_ok-added.ensures.applied in
    rw (changed_committer_tree (hash_of c.args.suite) commit.committer commit.path.now (outcome commit.items.items c.args.tree.now.tree) _ _ applied c.in_ok-committer.ensures.committer_tree)
    c.merge.ensures.tree

pub returns-clause-refused : goal.returns-clause-refused
returns-clause-refused c =
    let commit = c.args.commit.now in
    let applied = rw c.as_slice.ensures.value at c.in_ok-added.ensures.applied in
    rw (change_committer_tree (hash_of c.args.suite) commit.committer commit.path.now (outcome commit.items.items c.args.tree.now.tree) _ _ applied c.in_ok-committer.ensures.committer_tree)
    c.merge.ensures.refused
