-- How many leaves are non-blank.
use Rattle.std.proofs.Common.{◌≡◌, ◌+◌, List, [], ◌∷◌, ◌++◌, Option, Some, None, refl, arith}
use Rattle.mls_nodes.specs.declared.parent.ParentNode.{ParentNode}
use Rattle.mls_nodes.specs.NodeModel.{NodeValue, leaf_node, parent_node}
use Rattle.mls_tree.specs.Tree.{Tree, leaf, branch, listing, parent_entry, member_count, leaves_among}

leaves_among-append : (xs ys : List (Option NodeValue)) → leaves_among (xs ++ ys) ≡ leaves_among xs + leaves_among ys
leaves_among-append [] ys = omega arith
leaves_among-append (None ∷ xs) ys = leaves_among-append xs ys
leaves_among-append (Some (leaf_node x) ∷ xs) ys = omega (arith, leaves_among-append xs ys)
leaves_among-append (Some (parent_node x) ∷ xs) ys = leaves_among-append xs ys

without_parent : (p : Option ParentNode) (ys : List (Option NodeValue)) → leaves_among (parent_entry p ∷ ys) ≡ leaves_among ys
without_parent None ys = refl
without_parent (Some p) ys = refl

-- they are the leaves of the listing
pub member_count-listing : (t : Tree) → member_count t ≡ leaves_among (listing t)
member_count-listing (leaf None) = refl
member_count-listing (leaf (Some x)) = refl
member_count-listing (branch l n r) =
    let a = member_count-listing l in
    let b = member_count-listing r in
    let c = leaves_among-append (listing l) (parent_entry n ∷ listing r) in
    let d = without_parent n (listing r) in
    omega arith
