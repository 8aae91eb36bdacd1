use Rattle.std.proofs.Common.{◌∙◌, None, map, ap, arith}
use Rattle.std.proofs.lemmas.List.Elements.{All-weaker}
use Rattle.mls_tree.specs.Tree.{leaf_count, IsParentNodeIndex}
use Rattle.mls_tree.proofs.Kept.{leaf_count-change_above}
use Rattle.mls_apply.specs.PathModel.{change_of}
use Rattle.mls_apply.proofs.Making.{IsParentNodeIndex-like}
use Rattle.mls_apply.proofs.Routes.{leaf_count-changed}
use Rattle.mls_apply.proofs.new_parents.put_path_in_place.Goals as goal

pub put_parents_in_place-requires : goal.put_parents_in_place-requires
put_parents_in_place-requires c =
    let t = c.args.tree.now.tree in
    All-weaker (λ p. IsParentNodeIndex t p.node_index) (λ p. IsParentNodeIndex c.blank_path.new.tree.tree p.node_index)
    (λ p. IsParentNodeIndex-like t c.blank_path.new.tree.tree (ap leaf_count c.in_ok-blank_path.ensures.cleared ∙ leaf_count-change_above (λ _. None) 0 t c.args.leaf) p.node_index)
    c.args.new.parents.items c.requires.parents

pub set_leaf-requires : goal.set_leaf-requires
set_leaf-requires c =
    let a = ap leaf_count c.in_ok-blank_path.ensures.cleared ∙ leaf_count-change_above (λ _. None) 0 c.args.tree.now.tree c.args.leaf in
    let b = ap leaf_count c.in_ok-put_parents_in_place.ensures.put ∙ leaf_count-changed 0 c.blank_path.new.tree.tree (map change_of c.args.new.parents.items) in
    let inside = c.requires.inside in
    omega arith
