use Rattle.std.proofs.Common.{◌≡◌, ◌≢◌, ℕ, ◌+◌, ◌*◌, ◌-◌, List, Option, true, sym, ap, ◌∙◌, subst, arith}
use Rattle.std.specs.Prelude.{option_copied, slice_get, if◌then◌else◌}
use Rattle.mls_nodes.specs.declared.node.Node.{Node}
use Rattle.mls_tree.specs.Tree.{branch, height}
use Rattle.mls_tree.specs.TreeInternal.{leaves_at}
use Rattle.mls_tree.specs.NodeArray.{parent_part, tree_in, height-tree_in}
use Rattle.mls_tree.specs.TreeOperations.{has_non_blank_leaf, truncate}
use Rattle.mls_tree.specs.CountsModel.{AreCountsIfAny}
use Rattle.mls_tree.proofs.Numbers.{leaves_at-low}
use Rattle.mls_tree.proofs.Walking.{tree_in-split, leaves_at-split}
use Rattle.mls_tree.proofs.CountsRead.{if_any-far}
use Rattle.mls_tree.proofs.blanks.+truncated_height.Goals as goal

-- the right subtree has a non-blank leaf
stays : (xs : List (Option Node)) (half level : ℕ) → level ≢ 0 → half ≡ leaves_at (level - 1) → has_non_blank_leaf (tree_in xs (level - 1) half) ≡ true → level ≡ height (truncate (tree_in xs level 0))
stays xs half level deep e some =
    let start : half ≡ 0 + half = omega arith in
    let root = parent_part (slice_get xs (2 * (0 + half) - 1)) in
    let left = tree_in xs (level - 1) 0 in
    let right = tree_in xs (level - 1) (0 + half) in
    let high = height-tree_in xs level 0 in
    sym
    (ap (λ v. height (truncate v)) (tree_in-split xs 0 half level deep e)
    ∙ ap (λ b. height (if b then branch left root right else truncate left)) (ap (λ k. has_non_blank_leaf (tree_in xs (level - 1) k)) (sym start) ∙ some)
    ∙ ap height (sym (tree_in-split xs 0 half level deep e))
    ∙ high)

pub counts_non_blank_leaf-requires-clause-inside : goal.counts_non_blank_leaf-requires-clause-inside
counts_non_blank_leaf-requires-clause-inside t c =
    omega (arith, leaves_at-split c.args.level c.leaves_of.result c.if-level-eq0.false c.leaves_of.ensures.value, leaves_at-low c.args.level c.requires.low)

pub counts_non_blank_leaf-requires-clause-counts : goal.counts_non_blank_leaf-requires-clause-counts
counts_non_blank_leaf-requires-clause-counts t c =
    let start : 0 + c.leaves_of.result ≡ c.leaves_of.result = omega arith in
    subst (λ k. AreCountsIfAny (option_copied c.args.counts) k (tree_in c.args.nodes.now (c.args.level - 1) k)) start
    (if_any-far c.args.nodes.now 0 c.leaves_of.result c.args.level c.if-level-eq0.false c.leaves_of.ensures.value (option_copied c.args.counts) c.requires.counts)

pub returns-then-counts_non_blank_leaf : goal.returns-then-counts_non_blank_leaf
returns-then-counts_non_blank_leaf t c =
    stays c.args.nodes.now c.leaves_of.result c.args.level c.if-level-eq0.false c.leaves_of.ensures.value (sym c.counts_non_blank_leaf.ensures ∙ c.if-counts_non_blank_leaf.true)
