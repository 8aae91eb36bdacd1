use Rattle.std.proofs.Common.{◌≡◌, ap, ◌∙◌, arith, ◌≤◌, ◌+◌, ◌*◌, ◌-◌, ◌++◌, replicate, None}
use Rattle.mls_tree.specs.Tree.{height}
use Rattle.mls_tree.specs.TreeInternal.{leaves_at}
use Rattle.mls_tree.specs.NodeArray.{IsArrayOf, height-tree_in}
use Rattle.mls_tree.specs.TreeOperations.{front_subtree, rejoined}
use Rattle.mls_tree.proofs.Growing.{IsArrayOf-blank, tree_in-all_blank}
use Rattle.mls_tree.proofs.Numbers.{leaves_at-le}
use Rattle.mls_tree.proofs.Rejoining.{front-array, whole-array, taken-front, whole-tree, rejoined-before}
use Rattle.mls_tree.proofs.node_array.NodeArray.take_front.Goals as goal

pub swap_prefix-requires : goal.swap_prefix-requires
swap_prefix-requires c =
    let xs = c.self.inside.nodes.items in
    let h = c.self.inside.height in
    let k = c.args.level in
    let low : k ≤ h = omega (arith, c.requires, ap (λ r. height r.tree) c.self.view_is, height-tree_in xs h 0) in
    let front = c.push_blanks.new.nodes.items in
    let count = 2 * c.leaves_of.result - 1 in
    let small : IsArrayOf front k
    = IsArrayOf-blank front count k (omega (arith, c.leaves_of.ensures.value, c.leaves_of.ensures.positive)) (c.in_ok-push_blanks.ensures.changed ∙ ap (λ v. v ++ replicate count None) c.new-nodes.ensures.items) in
    omega (arith, c.self.invariant.long, small.long, leaves_at-le k h low)

pub invariant_of-front : goal.invariant_of-front
invariant_of-front c =
    let xs = c.self.inside.nodes.items in
    let h = c.self.inside.height in
    let k = c.args.level in
    let low : k ≤ h = omega (arith, c.requires, ap (λ r. height r.tree) c.self.view_is, height-tree_in xs h 0) in
    let front = c.push_blanks.new.nodes.items in
    let count = 2 * c.leaves_of.result - 1 in
    let small : IsArrayOf front k
    = IsArrayOf-blank front count k (omega (arith, c.leaves_of.ensures.value, c.leaves_of.ensures.positive)) (c.in_ok-push_blanks.ensures.changed ∙ ap (λ v. v ++ replicate count None) c.new-nodes.ensures.items) in
    let s = c.swap_prefix.new in
    let e = c.swap_prefix.ensures in
    front-array xs front s.whole.items s.front.items h k low c.self.invariant small e.put e.rest e.taken e.long e.short

pub invariant_of-self : goal.invariant_of-self
invariant_of-self c =
    let xs = c.self.inside.nodes.items in
    let h = c.self.inside.height in
    let k = c.args.level in
    let low : k ≤ h = omega (arith, c.requires, ap (λ r. height r.tree) c.self.view_is, height-tree_in xs h 0) in
    let front = c.push_blanks.new.nodes.items in
    let count = 2 * c.leaves_of.result - 1 in
    let small : IsArrayOf front k
    = IsArrayOf-blank front count k (omega (arith, c.leaves_of.ensures.value, c.leaves_of.ensures.positive)) (c.in_ok-push_blanks.ensures.changed ∙ ap (λ v. v ++ replicate count None) c.new-nodes.ensures.items) in
    let s = c.swap_prefix.new in
    let e = c.swap_prefix.ensures in
    whole-array xs front s.whole.items s.front.items h k low c.self.invariant small e.put e.rest e.taken e.long e.short

pub returns-clause-front : goal.returns-clause-front
returns-clause-front c =
    let xs = c.self.inside.nodes.items in
    let h = c.self.inside.height in
    let k = c.args.level in
    let low : k ≤ h = omega (arith, c.requires, ap (λ r. height r.tree) c.self.view_is, height-tree_in xs h 0) in
    let front = c.push_blanks.new.nodes.items in
    let count = 2 * c.leaves_of.result - 1 in
    let small : IsArrayOf front k
    = IsArrayOf-blank front count k (omega (arith, c.leaves_of.ensures.value, c.leaves_of.ensures.positive)) (c.in_ok-push_blanks.ensures.changed ∙ ap (λ v. v ++ replicate count None) c.new-nodes.ensures.items) in
    let s = c.swap_prefix.new in
    let e = c.swap_prefix.ensures in
    taken-front xs front s.whole.items s.front.items h k low c.self.invariant small e.put e.rest e.taken e.long e.short
    ∙ ap (λ r. front_subtree k r.tree) c.self.view_is

pub returns-clause-rest : goal.returns-clause-rest
returns-clause-rest c =
    let xs = c.self.inside.nodes.items in
    let h = c.self.inside.height in
    let k = c.args.level in
    let low : k ≤ h = omega (arith, c.requires, ap (λ r. height r.tree) c.self.view_is, height-tree_in xs h 0) in
    let front = c.push_blanks.new.nodes.items in
    let count = 2 * c.leaves_of.result - 1 in
    let small : IsArrayOf front k
    = IsArrayOf-blank front count k (omega (arith, c.leaves_of.ensures.value, c.leaves_of.ensures.positive)) (c.in_ok-push_blanks.ensures.changed ∙ ap (λ v. v ++ replicate count None) c.new-nodes.ensures.items) in
    let s = c.swap_prefix.new in
    let e = c.swap_prefix.ensures in
    rejoined-before xs front s.whole.items s.front.items h k low c.self.invariant small e.put e.rest e.taken e.long e.short
    ∙ ap (λ r. r.tree) c.self.view_is

pub returns-clause-blank : goal.returns-clause-blank
returns-clause-blank c =
    let xs = c.self.inside.nodes.items in
    let h = c.self.inside.height in
    let k = c.args.level in
    let low : k ≤ h = omega (arith, c.requires, ap (λ r. height r.tree) c.self.view_is, height-tree_in xs h 0) in
    let front = c.push_blanks.new.nodes.items in
    let count = 2 * c.leaves_of.result - 1 in
    let long : count + 1 ≡ 2 * leaves_at k = omega (arith, c.leaves_of.ensures.value, c.leaves_of.ensures.positive) in
    let blanks : front ≡ replicate count None = c.in_ok-push_blanks.ensures.changed ∙ ap (λ v. v ++ replicate count None) c.new-nodes.ensures.items in
    let s = c.swap_prefix.new in
    let e = c.swap_prefix.ensures in
    whole-tree xs front s.whole.items s.front.items h k low c.self.invariant (IsArrayOf-blank front count k long blanks) e.put e.rest e.taken e.long e.short
    ∙ (λ i. rejoined (tree_in-all_blank front count k long blanks i) ((ap (λ r. r.tree) c.self.view_is) i))

pub returns-clause-level : goal.returns-clause-level
returns-clause-level c = height-tree_in c.swap_prefix.new.front.items c.args.level 0

pub returns-clause-rest_height : goal.returns-clause-rest_height
returns-clause-rest_height c =
    let h = c.self.inside.height in
    omega (arith, height-tree_in c.swap_prefix.new.whole.items h 0, height-tree_in c.self.inside.nodes.items h 0, ap (λ r. height r.tree) c.self.view_is)
