use Rattle.std.proofs.Common.{◌≡◌, ◌-◌, ◌++◌}
use Rattle.mls_tree.specs.Tree.{leaf_count}
use Rattle.mls_follow.specs.FollowerModel.{state_of}
use Rattle.mls_start.specs.SignaturesLeft.{signatures_of_leaves}
use Rattle.mls_start.proofs.signatures_left.next_of_start.Given as goal

-- what is left is what was left
abbrev pub invariant-leaves : goal.invariant-leaves
invariant-leaves g l =
    let s = state_of l.follower in
    (l.leaves ≡ leaf_count s.tree)
    × (l.made.items ++ signatures_of_leaves (leaf_count s.tree - l.leaf) s l.leaf ≡ l.fn.made.items ++ signatures_of_leaves (leaf_count s.tree - l.fn.leaf) s l.fn.leaf)

abbrev pub decreases-leaves : goal.decreases-leaves
decreases-leaves g l = l.leaves - l.leaf
