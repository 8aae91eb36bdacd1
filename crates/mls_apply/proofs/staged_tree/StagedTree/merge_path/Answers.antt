use Rattle.std.proofs.Common.{◌≡◌, ◌∙◌, Some, map, sym, ap, subst}
use Rattle.mls_tree.specs.TreeOperations.{blank_path, put_leaf}
use Rattle.mls_hash.specs.SuiteHash.{hash_of}
use Rattle.mls_apply.specs.CommitterPath.{merged_by}
use Rattle.mls_apply.specs.PathRules.{node_keys}
use Rattle.mls_apply.specs.PathParents.{changed}
use Rattle.mls_apply.specs.PathModel.{change_of}
use Rattle.mls_apply.specs.Staged.{Staged}
use Rattle.mls_apply.proofs.Routes.{merged-changes}
use Rattle.mls_apply.proofs.staged_tree.StagedTree.merge_path.Goals as goal

pub returns-clause-merged : goal.returns-clause-merged
returns-clause-merged c =
    let p = c.args.path.now in
    let cs = map change_of c.in_ok-new.new.parents.items in
    subst (λ (s : Staged). merged_by (hash_of c.args.suite) s.tree p ≡ Some c.put_path_in_place.new.tree.tree) c.self.view_is
    (ap (λ t. merged_by (hash_of c.args.suite) t p) (sym c.fill.ensures)
    ∙ merged-changes (hash_of c.args.suite) c.fill.new.tree.tree p.leaf p.path.now.leaf_node (node_keys p.path.now) cs c.in_ok-new.ensures.made.path_parents
    ∙ (λ i. Some (put_leaf 0 (changed 0 (blank_path (sym c.filled_nodes.ensures.tree i) p.leaf) cs) p.leaf (Some (sym c.in_ok-new.ensures.made.leaf i))))
    ∙ (λ i. Some (sym c.in_ok-put_path_in_place.ensures.put i)))
