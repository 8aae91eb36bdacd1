use Rattle.std.proofs.Common.{◌≡◌, ◌∙◌, Some, Err, sym, ap, inl, inr, arith, rules}
use Rattle.mls_tree.specs.Tree.{height, leaf_count}
use Rattle.mls_tree.specs.BlankLeaves.{first_blank_leaf}
use Rattle.mls_tree.specs.TreeOperations.{blank_tree, number_or, extended_if_full}
use Rattle.mls_tree.proofs.Trees.{leaf_count-positive}
use Rattle.mls_tree.proofs.FirstBlanks.{next_blank_leaf-first}
use Rattle.mls_apply.proofs.Adding.{blank_inside, room_to_grow}
use Rattle.mls_apply.proofs.adds.leaf_for_member.Goals as goal

-- where there is a blank leaf
found : (c : goal.In-Some) → first_blank_leaf 0 c.args.tree.now.tree ≡ Some c.in-Some.index
found c = sym (next_blank_leaf-first c.args.tree.now.tree c.args.start c.requires.set) ∙ sym c.in-Some.ensures

pub returns-in-Some-clause-index : goal.returns-in-Some-clause-index
returns-in-Some-clause-index c = ap (number_or (leaf_count c.args.tree.now.tree)) (sym (found c))

pub returns-in-Some-clause-inside : goal.returns-in-Some-clause-inside
returns-in-Some-clause-inside c = blank_inside c.args.tree.now.tree c.in-Some.index (found c)

pub returns-in-Some-clause-tree : goal.returns-in-Some-clause-tree
returns-in-Some-clause-tree c = ap (λ o. extended_if_full o c.args.tree.now.tree) (sym (found c))

pub unreachable-requires : goal.unreachable-requires
unreachable-requires c =
    let t = c.args.tree.now.tree in
    let none = sym (next_blank_leaf-first t c.args.start c.requires.set) ∙ sym c.in_default.ensures in
    elim c.in-Err.ensures.possible_errors [
      | inl e ↦ room_to_grow t none c.requires.capacity (c.in-Err.ensures.too_many_leaves.0 (ap Err e))
      | inr e ↦ search rules
    ]

pub returns-in-Ok-clause-index : goal.returns-in-Ok-clause-index
returns-in-Ok-clause-index c =
    let t = c.args.tree.now.tree in
    let none = sym (next_blank_leaf-first t c.args.start c.requires.set) ∙ sym c.in_default.ensures in
    c.leaf_count-index.ensures ∙ ap (number_or (leaf_count t)) (sym none)

pub returns-in-Ok-clause-inside : goal.returns-in-Ok-clause-inside
returns-in-Ok-clause-inside c =
    let t = c.args.tree.now.tree in
    let more = ap leaf_count c.in-Ok.ensures.changed in
    omega (arith, c.leaf_count-index.ensures, leaf_count-positive (blank_tree (height t)))

pub returns-in-Ok-clause-tree : goal.returns-in-Ok-clause-tree
returns-in-Ok-clause-tree c =
    let t = c.args.tree.now.tree in
    let none = sym (next_blank_leaf-first t c.args.start c.requires.set) ∙ sym c.in_default.ensures in
    c.in-Ok.ensures.changed ∙ ap (λ o. extended_if_full o t) (sym none)
