use Rattle.std.proofs.Common.{ap, arith, sym, subst, ◌≡◌, ◌∙◌}
use Rattle.std.specs.Prelude.{option_copied}
use Rattle.mls_tree.specs.NodeArray.{tree_in}
use Rattle.mls_tree.specs.CountsModel.{AreCountsIfAny}
use Rattle.mls_tree.proofs.Numbers.{leaves_at-low}
use Rattle.mls_tree.proofs.node_array.NodeArray.filtered_direct_path.Goals as goal

pub push_filtered_direct_path-requires-clause-inside : goal.push_filtered_direct_path-requires-clause-inside
push_filtered_direct_path-requires-clause-inside c = omega (arith, leaves_at-low c.self.inside.height c.self.inside.low)

pub push_filtered_direct_path-requires-clause-counts : goal.push_filtered_direct_path-requires-clause-counts
push_filtered_direct_path-requires-clause-counts c =
    let at : tree_in c.as_slice-nodes.result.now c.self.inside.height 0 ≡ c.args.self.now.tree = ap (λ v. tree_in v c.self.inside.height 0) c.as_slice-nodes.ensures.value ∙ ap (λ r. r.tree) c.self.view_is in
    subst (λ t. AreCountsIfAny (option_copied c.args.counts) 0 t) (sym at) c.requires
