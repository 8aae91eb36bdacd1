use Rattle.std.proofs.Common.{◌∙◌, Some, ap, arith}
use Rattle.mls_tree.specs.PublicTreeModel.{plain}
use Rattle.mls_tree.specs.Tree.{Tree, leaf_count}
use Rattle.mls_tree.specs.TreeOperations.{put_leaf}
use Rattle.mls_tree.proofs.Kept.{leaf_count-put_leaf}
use Rattle.mls_tree.proofs.Descent.{leaf_count-limit}
use Rattle.mls_apply.proofs.adds.put_member.Goals as goal

pub returns-clause-put : goal.returns-clause-put
returns-clause-put c =
    let j = c.in_ok-index.index in
    let x = c.args.leaf.now in
    let count = ap leaf_count c.in_ok-put_shared.ensures.put ∙ leaf_count-put_leaf 0 c.leaf_for_member.new.tree.tree j (Some x) in
    record {
      index = c.in_ok-index.ensures.index;
      tree = c.in_ok-put_shared.ensures.put ∙ ap (λ (t : Tree). put_leaf 0 t j (Some x)) c.in_ok-index.ensures.tree;
      inside = omega (arith, c.in_ok-index.ensures.inside);
      small = omega (arith, c.in_ok-index.ensures.inside, leaf_count-limit (plain c.leaf_for_member.new.tree));
    }
