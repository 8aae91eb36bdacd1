use Rattle.mls_apply.proofs.Paths.{filtered-parents}
use Rattle.mls_apply.proofs.path_merge.filled_nodes.Goals as goal

pub fill_copath-requires : goal.fill_copath-requires
fill_copath-requires c = record {
  parents = filtered-parents c.args.tree.now.tree c.args.path.now.leaf c.args.node_indices.now c.requires.node_indices;
}
