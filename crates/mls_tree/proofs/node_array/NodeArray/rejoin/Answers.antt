use Rattle.std.proofs.Common.{ap, ◌∙◌, sym, arith}
use Rattle.mls_tree.specs.Tree.{height}
use Rattle.mls_tree.specs.NodeArray.{height-tree_in}
use Rattle.mls_tree.specs.TreeOperations.{rejoined}
use Rattle.mls_tree.proofs.Fronts.{rejoined-low}
use Rattle.mls_tree.proofs.Numbers.{leaves_at-le}
use Rattle.mls_tree.proofs.Rejoining.{whole-tree}
use Rattle.mls_tree.proofs.node_array.NodeArray.rejoin.Goals as goal

pub returns-then-self-whole : goal.returns-then-self-whole
returns-then-self-whole c =
    let a = height-tree_in c.self.inside.nodes.items c.self.inside.height 0 in
    let b = height-tree_in c.whole.inside.nodes.items c.whole.inside.height 0 in
    sym (rejoined-low c.args.self.now.tree c.args.whole.tree (omega (arith, a, b, c.if-self-whole.true, ap (λ r. height r.tree) c.self.view_is, ap (λ r. height r.tree) c.whole.view_is)))

pub swap_prefix-requires : goal.swap_prefix-requires
swap_prefix-requires c =
    omega (arith, c.self.invariant.long, c.whole.invariant.long, c.if-self-whole.false, leaves_at-le c.self.inside.height c.whole.inside.height (omega arith))

pub returns : goal.returns
returns c =
    let front = c.self.inside.nodes.items in
    let whole = c.whole.inside.nodes.items in
    let s = c.swap_prefix.ensures in
    whole-tree whole front c.swap_prefix.new.whole.items c.swap_prefix.new.front.items c.whole.inside.height c.self.inside.height (omega arith) c.whole.invariant c.self.invariant s.put s.rest s.taken s.long s.short
    ∙ (λ i. rejoined ((ap (λ r. r.tree) c.self.view_is) i) ((ap (λ r. r.tree) c.whole.view_is) i))
