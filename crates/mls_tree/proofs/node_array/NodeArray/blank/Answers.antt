use Rattle.std.proofs.Common.{ap, sym, subst, ◌∙◌, arith, ◌≡◌, ◌<◌, ◌*◌, ◌-◌, None, Err, replicate, ◌++◌, ◌+◌}
use Rattle.std.specs.Prelude.{◌↔◌}
use Rattle.mls_tree.specs.TreeInternal.{leaves_at}
use Rattle.mls_tree.specs.TreeSizes.{IsPowerOfTwo}
use Rattle.mls_tree.specs.NodeArray.{height-tree_in}
use Rattle.mls_tree.specs.declared.error.TreeError.TheVariants.{TooManyLeaves, OutOfMemory}
use Rattle.mls_tree.proofs.Numbers.{leaves_at-low, leaves_at-positive, leaves_at-pow}
use Rattle.mls_tree.specs.TreeOperations.{blank_tree}
use Rattle.mls_tree.proofs.Arrays.{leaf_count-tree_in}
use Rattle.mls_tree.proofs.Growing.{IsArrayOf-blank, tree_in-all_blank}
use Rattle.mls_tree.proofs.Refusals.{handed_on, no_refusal, no_refusal-ok, size-too_many, Memory-not_Bad, Memory-not_TooMany}
use Rattle.mls_tree.proofs.node_array.NodeArray.blank.Goals as goal

pub returns-in_err-height-clause-too_many_leaves : goal.returns-in_err-height-clause-too_many_leaves
returns-in_err-height-clause-too_many_leaves c =
    let at = handed_on c.from_residual.result c.in_err-height.field-0.0 c.from_residual.ensures.0 c.from_residual.ensures.1 in
    subst (λ r. (r ≡ Err TooManyLeaves) ↔ (IsPowerOfTwo c.args.leaves × (1048576 < c.args.leaves))) (sym at) (size-too_many _ c.in_err-height.field-0.0 c.args.leaves c.in_err-height.ensures)

pub overflow_mul-leaves : goal.overflow_mul-leaves
overflow_mul-leaves c = omega (arith, leaves_at-low c.in_ok-height.height c.in_ok-height.ensures.0, c.in_ok-height.ensures)

pub overflow_sub-leaves : goal.overflow_sub-leaves
overflow_sub-leaves c = omega (arith, leaves_at-positive c.in_ok-height.height, c.in_ok-height.ensures)

pub returns-in_err-push_blanks-clause-bad_shape : goal.returns-in_err-push_blanks-clause-bad_shape
returns-in_err-push_blanks-clause-bad_shape c =
    no_refusal _ _ OutOfMemory (¬ IsPowerOfTwo c.args.leaves)
    (handed_on c.from_residual-in_err-push_blanks.result OutOfMemory c.from_residual-in_err-push_blanks.ensures.0 c.from_residual-in_err-push_blanks.ensures.1) Memory-not_Bad
    (λ n. n (c.in_ok-height.height, c.in_ok-height.ensures.1 ∙ leaves_at-pow c.in_ok-height.height))

pub returns-in_err-push_blanks-clause-too_many_leaves : goal.returns-in_err-push_blanks-clause-too_many_leaves
returns-in_err-push_blanks-clause-too_many_leaves c =
    no_refusal _ _ OutOfMemory (IsPowerOfTwo c.args.leaves × (1048576 < c.args.leaves))
    (handed_on c.from_residual-in_err-push_blanks.result OutOfMemory c.from_residual-in_err-push_blanks.ensures.0 c.from_residual-in_err-push_blanks.ensures.1) Memory-not_TooMany
    (λ p. absurd (omega (arith, leaves_at-low c.in_ok-height.height c.in_ok-height.ensures.0, c.in_ok-height.ensures, p.1)))

long : (c : goal.After-result-1) → (2 * c.args.leaves - 1) + 1 ≡ 2 * leaves_at c.in_ok-height.height
long c = omega (arith, leaves_at-positive c.in_ok-height.height, c.in_ok-height.ensures)

items : (c : goal.After-result-1) → c.push_blanks.new.nodes.items ≡ replicate (2 * c.args.leaves - 1) None
items c = c.in_ok-push_blanks.ensures.changed ∙ ap (λ v. v ++ replicate (2 * c.args.leaves - 1) None) c.new-nodes.ensures.items

pub invariant_of-result-2 : goal.invariant_of-result-2
invariant_of-result-2 c = IsArrayOf-blank c.push_blanks.new.nodes.items (2 * c.args.leaves - 1) c.in_ok-height.height (long c) (items c)

pub returns-clause-leaves : goal.returns-clause-leaves
returns-clause-leaves c = leaf_count-tree_in c.push_blanks.new.nodes.items c.in_ok-height.height 0 ∙ sym c.in_ok-height.ensures.1

pub returns-clause-blank : goal.returns-clause-blank
returns-clause-blank c =
    tree_in-all_blank c.push_blanks.new.nodes.items (2 * c.args.leaves - 1) c.in_ok-height.height (long c) (items c)
    ∙ ap (λ h. blank_tree h) (sym (height-tree_in c.push_blanks.new.nodes.items c.in_ok-height.height 0))

pub returns-clause-bad_shape : goal.returns-clause-bad_shape
returns-clause-bad_shape c = no_refusal-ok _ _ (¬ IsPowerOfTwo c.args.leaves) (λ n. n (c.in_ok-height.height, c.in_ok-height.ensures.1 ∙ leaves_at-pow c.in_ok-height.height))

pub returns-clause-too_many_leaves : goal.returns-clause-too_many_leaves
returns-clause-too_many_leaves c =
    no_refusal-ok _ _ (IsPowerOfTwo c.args.leaves × (1048576 < c.args.leaves))
    (λ p. absurd (omega (arith, leaves_at-low c.in_ok-height.height c.in_ok-height.ensures.0, c.in_ok-height.ensures, p.1)))
