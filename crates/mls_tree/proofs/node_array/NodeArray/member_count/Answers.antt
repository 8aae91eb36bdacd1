use Rattle.std.proofs.Common.{length, map, ◌∙◌, sym, ap, arith}
use Rattle.mls_nodes.specs.NodeValues.{entry_value}
use Rattle.mls_tree.specs.Tree.{leaves_among, listing}
use Rattle.mls_tree.proofs.Arrays.{listing-array}
use Rattle.mls_tree.proofs.Members.{member_count-listing}
use Rattle.mls_tree.proofs.Numbers.{leaves_at-low}
use Rattle.mls_tree.proofs.node_array.NodeArray.member_count.Goals as goal

pub overflow_cast-result : goal.overflow_cast-result
overflow_cast-result c =
    let small = leaves_at-low c.self.inside.height c.self.inside.low in
    let long = c.self.invariant.long in
    omega (arith, c.count_leaves.ensures.few, ap length c.as_slice.ensures.value)

pub returns : goal.returns
returns c =
    c.count_leaves.ensures.count
    ∙ ap leaves_among (ap (λ v. map entry_value v) c.as_slice.ensures.value ∙ listing-array _ _ c.self.invariant ∙ ap (λ r. listing r.tree) c.self.view_is)
    ∙ sym (member_count-listing c.args.self.now.tree)
