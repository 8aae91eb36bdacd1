use Rattle.std.proofs.Common.{◌≡◌, ◌∙◌, ◌<◌, ◌*◌, ◌-◌, Some, length, sym, ap, subst, arith}
use Rattle.std.proofs.lemmas.List.{take_all}
use Rattle.mls_tree.specs.Tree.{leaf_count}
use Rattle.mls_tree.specs.BlankLeaves.{first_blank_leaf}
use Rattle.mls_tree.specs.CacheModel.{kind_in, slots_in}
use Rattle.mls_tree.specs.PublicTreeModel.{KeptTree}
use Rattle.mls_tree.specs.TreeOperations.{number_or, extended_if_full}
use Rattle.mls_tree.proofs.KeptSlots.{slots-short}
use Rattle.mls_tree.proofs.public_tree.PublicTree.seat.Goals as goal

-- if there is a blank leaf
found : (c : goal.In-Some) → first_blank_leaf 0 c.args.self.now.tree ≡ Some c.in-Some.index
found c = sym c.in-Some.ensures.first

pub returns-in-Some-clause-leaf : goal.returns-in-Some-clause-leaf
returns-in-Some-clause-leaf c = ap (number_or (leaf_count c.args.self.now.tree)) (sym (found c))

pub returns-in-Some-clause-tree : goal.returns-in-Some-clause-tree
returns-in-Some-clause-tree c = ap (λ o. extended_if_full o c.args.self.now.tree) (sym (found c))

pub returns-in-Some-clause-front : goal.returns-in-Some-clause-front
returns-in-Some-clause-front c =
    let slots = c.self.inside.slots in
    let short = subst (λ (v : KeptTree). length v.slots < 2 * leaf_count v.tree) c.self.view_is (slots-short (kind_in slots) c.self.inside.tree.tree (slots_in slots) c.self.invariant.0) in
    take_all (2 * leaf_count c.args.self.now.tree - 1) c.args.self.now.slots (omega arith)

pub returns-clause-leaf : goal.returns-clause-leaf
returns-clause-leaf c =
    c.leaf_count-count.ensures ∙ ap (λ (v : KeptTree). leaf_count v.tree) c.self.view_is ∙ ap (number_or (leaf_count c.args.self.now.tree)) c.in_default.ensures.first

pub returns-clause-tree : goal.returns-clause-tree
returns-clause-tree c = c.in_ok-extend.ensures.changed ∙ ap (λ o. extended_if_full o c.args.self.now.tree) c.in_default.ensures.first
