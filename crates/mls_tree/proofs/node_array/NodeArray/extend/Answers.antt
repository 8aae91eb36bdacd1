use Rattle.std.proofs.Common.{ap, ◌∙◌, sym, subst, ◌≡◌, ◌+◌, ◌*◌, refl}
use Rattle.mls_tree.specs.Tree.{leaf_count}
use Rattle.mls_tree.specs.TreeInternal.{leaves_at}
use Rattle.mls_tree.specs.NodeArray.{IsArrayOf, tree_in}
use Rattle.mls_tree.specs.RatchetTreeInternal.{RatchetTree-same}
use Rattle.mls_tree.proofs.Numbers.{leaves_at-full}
use Rattle.mls_tree.proofs.Lookups.{leaf_count-seen}
use Rattle.mls_tree.specs.declared.error.TreeError.TheVariants.{OutOfMemory}
use Rattle.mls_tree.proofs.Refusals.{handed_on, no_refusal, no_refusal-ok, Memory-not_TooMany}
use Rattle.mls_tree.proofs.Growing.{IsArrayOf-fill, tree_in-fill, OnErr-from}
use Rattle.mls_tree.proofs.node_array.NodeArray.extend.Goals as goal

pub invariant_of-self-2 : goal.invariant_of-self-2
invariant_of-self-2 c =
    subst (λ xs. IsArrayOf xs (c.self.inside.height + 1)) (sym c.in_ok-push_blanks.ensures.changed)
    (IsArrayOf-fill _ c.self.inside.height c.self.invariant _ (ap (λ v. 2 * v) c.leaves_of-more.ensures.value))

pub returns-clause-changed : goal.returns-clause-changed
returns-clause-changed c =
    ap (λ xs. tree_in xs (c.self.inside.height + 1) 0) c.in_ok-push_blanks.ensures.changed
    ∙ tree_in-fill _ c.self.inside.height c.self.invariant _ (ap (λ v. 2 * v) c.leaves_of-more.ensures.value) _ (ap (λ r. r.tree) c.self.view_is)

pub returns-in_err-push_blanks-clause-unchanged_on_error : goal.returns-in_err-push_blanks-clause-unchanged_on_error
returns-in_err-push_blanks-clause-unchanged_on_error c =
    OnErr-from c.from_residual.result _
    (RatchetTree-same _ _ (ap (λ xs. tree_in xs c.self.inside.height 0) c.in_err-push_blanks.ensures.unchanged_on_error.0 ∙ ap (λ r. r.tree) c.self.view_is))

pub returns-then-self-eq20-clause-too_many_leaves : goal.returns-then-self-eq20-clause-too_many_leaves
returns-then-self-eq20-clause-too_many_leaves c =
    (λ refused. leaf_count-seen _ _ c.self.invariant c.args.self.now.tree (ap (λ r. r.tree) c.self.view_is) ∙ ap leaves_at c.if-self-eq20.true, λ full. refl)

pub returns-in_err-push_blanks-clause-too_many_leaves : goal.returns-in_err-push_blanks-clause-too_many_leaves
returns-in_err-push_blanks-clause-too_many_leaves c =
    no_refusal _ _ OutOfMemory (leaf_count c.args.self.now.tree ≡ 1048576) (handed_on c.from_residual.result OutOfMemory c.from_residual.ensures.0 c.from_residual.ensures.1) Memory-not_TooMany
    (λ full. leaves_at-full c.self.inside.height c.self.inside.low c.if-self-eq20.false (sym (leaf_count-seen _ _ c.self.invariant c.args.self.now.tree (ap (λ r. r.tree) c.self.view_is)) ∙ full))

pub returns-clause-too_many_leaves : goal.returns-clause-too_many_leaves
returns-clause-too_many_leaves c =
    no_refusal-ok _ _ (leaf_count c.args.self.now.tree ≡ 1048576)
    (λ full. leaves_at-full c.self.inside.height c.self.inside.low c.if-self-eq20.false (sym (leaf_count-seen _ _ c.self.invariant c.args.self.now.tree (ap (λ r. r.tree) c.self.view_is)) ∙ full))
