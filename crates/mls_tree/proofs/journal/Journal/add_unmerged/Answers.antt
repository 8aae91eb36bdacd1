use Rattle.std.proofs.Common.{sym, refl, ◌∙◌, rules, Some}
use Rattle.std.proofs.lemmas.List.Elements.{All-pop}
use Rattle.mls_tree.specs.Tree.{IsParentNodeIndex}
use Rattle.mls_tree.specs.TreeOperations.{with_unmerged}
use Rattle.mls_tree.proofs.AlongPaths.{changed-step, parents-step, changed-end, parents-start, parent_at}
use Rattle.mls_tree.proofs.Entering.{HasCapacity, capacity-start, capacity-step}
use Rattle.mls_tree.proofs.journal.Journal.add_unmerged.Goals as goal

pub loop-node_index-init : goal.loop-node_index-init
loop-node_index-init c =
    let t = c.args.tree.now.tree in
    let node_indices = c.in_ok-node_indices.node_indices.items in
    let at = c.in_ok-node_indices.ensures.node_indices in
    record {
      left = refl;
      parents = parents-start t c.args.index node_indices at;
      capacity = capacity-start t c.args.index node_indices at (sym c.is_overfull.ensures ∙ c.if-is_overfull.false);
      same_before = c.log_path_hashes.ensures.same;
      hashes = c.log_path_hashes.ensures.hashes;
    }

pub insert_unmerged-requires : goal.insert_unmerged-requires
insert_unmerged-requires c =
    let t = c.loop-node_index.tree.tree in
    let all = c.loop-node_index.node_indices.items in
    let split = c.in-Some.ensures.items in
    record {
      there = (All-pop (IsParentNodeIndex t) all c.pop.new.self.items (Some c.in-Some.node_index) split c.loop-node_index.invariant.parents).1;
      capacity = (All-pop (HasCapacity c.args.index 0 t) all c.pop.new.self.items (Some c.in-Some.node_index) split c.loop-node_index.invariant.capacity).1;
    }

pub loop-node_index-preserved : goal.loop-node_index-preserved
loop-node_index-preserved c =
    let t = c.loop-node_index.tree.tree in
    let u = c.insert_unmerged.new.tree.tree in
    let i = c.args.index in
    let node_index = c.in-Some.node_index in
    let all = c.loop-node_index.node_indices.items in
    let left = c.pop.new.self.items in
    let split = c.in-Some.ensures.items in
    let put = c.in_ok-insert_unmerged.ensures.in_lists in
    let there = All-pop (IsParentNodeIndex t) all left (Some node_index) split c.loop-node_index.invariant.parents in
    let capacity = All-pop (HasCapacity i 0 t) all left (Some node_index) split c.loop-node_index.invariant.capacity in
    record {
      left = c.loop-node_index.invariant.left ∙ changed-step (with_unmerged i) t u all left node_index split put;
      parents = parents-step t u all left node_index (with_unmerged i (parent_at 0 t node_index)) split put c.loop-node_index.invariant.parents;
      capacity = capacity-step i t u node_index there.1 capacity.1 put left capacity.0;
      same_before = c.in_ok-insert_unmerged.ensures.before ∙ c.loop-node_index.invariant.same_before;
      hashes = λ all. c.in_ok-insert_unmerged.ensures.hashes (c.loop-node_index.invariant.hashes all);
    }

pub returns-clause-in_lists : goal.returns-clause-in_lists
returns-clause-in_lists c =
    changed-end (with_unmerged c.args.index) c.args.tree.now.tree c.loop-node_index.tree.tree c.args.index c.in_ok-node_indices.node_indices.items c.loop-node_index.node_indices.items c.in_ok-node_indices.ensures.node_indices
    (search rules) c.loop-node_index.invariant.left
