-- Leaf nodes at given leaf indices of a tree. Internal: no public contract uses this.
use Rattle.std.specs.Prelude.{◌≡◌, ℕ, List, [], ◌∷◌, Some, ⊤}
use Rattle.mls_nodes.specs.declared.leaf.LeafNode.{LeafNode}
use Rattle.mls_tree.specs.Tree.{Tree, leaf_at}

-- `AreAt t xs js`: each of the leaf nodes `xs` is the leaf of `t` at the leaf index in its place of `js`.
abbrev pub AreAt : Tree → List LeafNode → List ℕ → Type 0
AreAt t [] [] = ⊤
AreAt t [] (j ∷ js) = ⊥
AreAt t (x ∷ xs) [] = ⊥
AreAt t (x ∷ xs) (j ∷ js) = (leaf_at 0 t j ≡ Some x) × AreAt t xs js
