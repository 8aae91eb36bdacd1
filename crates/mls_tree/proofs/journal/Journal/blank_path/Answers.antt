use Rattle.std.proofs.Common.{◌∙◌, refl, rules, None}
use Rattle.mls_tree.proofs.AlongPaths.{changed-step, parents-step, changed-end, parents-start}
use Rattle.mls_tree.proofs.journal.Journal.blank_path.Goals as goal

pub loop-node_index-init : goal.loop-node_index-init
loop-node_index-init c = record {
  left = refl;
  parents = parents-start c.args.tree.now.tree c.args.index c.in-Ok.node_indices.items c.in-Ok.ensures.node_indices;
  same_before = c.log_path_hashes.ensures.same;
  hashes = c.log_path_hashes.ensures.hashes;
}

pub loop-node_index-preserved : goal.loop-node_index-preserved
loop-node_index-preserved c =
    let t = c.loop-node_index.tree.tree in
    let u = c.replace_parent.new.tree.tree in
    let split = c.in-Some.ensures.items in
    let put = c.in_ok-replace_parent.ensures.put in
    record {
      left = c.loop-node_index.invariant.left ∙ changed-step (λ _. None) t u c.loop-node_index.node_indices.items c.pop.new.self.items c.in-Some.node_index split put;
      parents = parents-step t u c.loop-node_index.node_indices.items c.pop.new.self.items c.in-Some.node_index None split put c.loop-node_index.invariant.parents;
      same_before = c.in_ok-replace_parent.ensures.before ∙ c.loop-node_index.invariant.same_before;
      hashes = λ all. c.in_ok-replace_parent.ensures.hashes (c.loop-node_index.invariant.hashes all);
    }

pub returns-clause-cleared : goal.returns-clause-cleared
returns-clause-cleared c =
    changed-end (λ _. None) c.args.tree.now.tree c.loop-node_index.tree.tree c.args.index c.in-Ok.node_indices.items c.loop-node_index.node_indices.items c.in-Ok.ensures.node_indices (search rules) c.loop-node_index.invariant.left
