use Rattle.std.proofs.Common.{◌≡◌, ℕ, Option, Some, None, subst, ap}
use Rattle.std.proofs.lemmas.Result.{err_from_is_err_and}
use Rattle.mls_hash.specs.SuiteHash.{hash_of}
use Rattle.mls_apply.specs.AppliedList.{AppliedTree, outcome}
use Rattle.mls_apply.specs.RuleLists.{first_failing}
use Rattle.mls_follow.specs.MessageRules.{changed_tree}
use Rattle.mls_follow.specs.CommitTree.{change_rules, in_context}
use Rattle.mls_follow.proofs.Committing.{change_failed, change_kept}
use Rattle.mls_follow.proofs.commit_changes.stage_commit.Goals as goal

subst2 : (P : ℕ → Option AppliedTree → Type 0) {m n : ℕ} {v w : Option AppliedTree} → m ≡ n → v ≡ w → P m v → P n w
subst2 P {m} {n} {v} {w} a b p = subst (λ k. P k w) a (subst (λ x. P m x) b p)

-- the list has no outcome, or the path fails a rule
pub returns-in_err-change_tree-clause-refused : goal.returns-in_err-change_tree-clause-refused
returns-in_err-change_tree-clause-refused g c =
    let p = err_from_is_err_and c.from_residual-in_err-change_tree.result c.from_residual-in_err-change_tree.ensures.1 in
    let G = g.C.SignatureCheck.meaning c.args.checker.now in
    let rules = c.args.rules.now in
    let commit = c.args.commit.now in
    let o = outcome commit.items.items c.args.tree.now.tree in
    let same = ap (outcome commit.items.items) c.in_ok-check_added_keys.ensures.tree in
    let e = c.in_err-change_tree.field-0.0 in
    rw (p.1, p.2) (λ own.
    (let fails = subst2 (λ (suite : ℕ) (v : Option AppliedTree). first_failing (change_rules (hash_of suite) commit.committer commit.path.now v) ≡ Some e) rules.same_suite same (c.in_err-change_tree.ensures.refused own) in
    change_failed G (in_context rules.context.now) rules.required.now commit.committer commit.path.now o e fails))

-- the tree after the list and the path fails a rule
pub returns-in_err-tree_hash-clause-refused : goal.returns-in_err-tree_hash-clause-refused
returns-in_err-tree_hash-clause-refused g c =
    let p = err_from_is_err_and c.from_residual-in_err-tree_hash.result c.from_residual-in_err-tree_hash.ensures.1 in
    let G = g.C.SignatureCheck.meaning c.args.checker.now in
    let rules = c.args.rules.now in
    let commit = c.args.commit.now in
    let o = outcome commit.items.items c.args.tree.now.tree in
    let same = ap (outcome commit.items.items) c.in_ok-check_added_keys.ensures.tree in
    let t = c.change_tree.new.tree.tree in
    let kept = subst2 (λ (suite : ℕ) (v : Option AppliedTree). first_failing (change_rules (hash_of suite) commit.committer commit.path.now v) ≡ None) rules.same_suite same c.in_ok-change_tree.ensures.rules_hold in
    let made = subst2 (λ (suite : ℕ) (v : Option AppliedTree). changed_tree (hash_of suite) commit.committer commit.path.now v ≡ Some t) rules.same_suite same c.in_ok-change_tree.ensures.tree in
    rw (p.1, p.2, change_kept G (in_context rules.context.now) rules.required.now commit.committer commit.path.now o t kept made) c.in_err-tree_hash.ensures.refused
