-- The node at a node index, from what the calls on node indices and nodes return.
use Rattle.std.proofs.Common.{◌≡◌, ℕ, ◌+◌, ◌/◌, Option, Some, None, IsSome, refl, sym, ap, ◌∙◌, subst, arith}
use Rattle.std.specs.Prelude.{option_map, option_and_then}
use Rattle.std.proofs.lemmas.Option.{none-some, same_Some}
use Rattle.mls_nodes.specs.declared.leaf.LeafNode.{LeafNode}
use Rattle.mls_nodes.specs.declared.parent.ParentNode.{ParentNode}
use Rattle.mls_tree.specs.Tree.{Tree, leaf, branch, height, Subtree, subtree_at, leaf_at, node_at, parent_entry}
use Rattle.mls_tree.specs.NodeIndices.{level_at, left_at, right_at, left_node_index}
use Rattle.mls_tree.specs.NodeView.{HasChildren, parent_of}
use Rattle.mls_tree.proofs.Halves.{split, leaf_here}
use Rattle.mls_tree.proofs.Trees.{subtree_at-stands, leaf_count-positive}

leaf_level : (first : ℕ) (t : Tree) → height t ≡ 0 → left_node_index first t ≡ None
leaf_level first (leaf x) e = refl
leaf_level first (branch l n r) e = absurd (omega arith)

level_of : (t : Tree) (p k : ℕ) (o : Option Subtree) → subtree_at 0 t p ≡ o → level_at t p ≡ Some k → (s : Subtree) × (subtree_at 0 t p ≡ Some s) × (height s.tree ≡ k)
level_of t p k None e l = absurd (none-some k (sym (ap (option_map (λ (s : Subtree). height s.tree)) e) ∙ l))
level_of t p k (Some s) e l = (s, e, same_Some (height s.tree) k (sym (ap (option_map (λ (s : Subtree). height s.tree)) e) ∙ l))

-- a leaf is at a node index of level 0
pub leaf_part : (t : Tree) (p : ℕ) (x : Option LeafNode) → level_at t p ≡ Some 0 → x ≡ leaf_at 0 t (p / 2) → subtree_at 0 t p ≡ Some (record { first = p / 2; tree = leaf x })
leaf_part t p x l e =
    let s = level_of t p 0 (subtree_at 0 t p) refl l in
    let no_left : left_at t p ≡ None = ap (option_and_then (λ (s : Subtree). left_node_index s.first s.tree)) s.1 ∙ leaf_level s.0.first s.0.tree s.2 in
    let there : IsSome (subtree_at 0 t p) = subst (λ (o : Option Subtree). IsSome o) (sym s.1) refl in
    let h = leaf_here t p there no_left in
    let value : h.value ≡ x = sym (e ∙ ap (leaf_at 0 t) h.node_index ∙ h.at) in
    h.whole ∙ (λ i. Some (record { first = sym h.node_index i; tree = leaf (value i) }))

parent_of-entry : (n : Option ParentNode) → parent_of (parent_entry n) ≡ n
parent_of-entry None = refl
parent_of-entry (Some p) = refl

-- a parent and its children
pub parent_part : (t : Tree) (p q u : ℕ) (n : Option ParentNode) → left_at t p ≡ Some q → right_at t p ≡ Some u → n ≡ parent_of (node_at t p) → HasChildren t p q u (p / 2 + 1) n
parent_part t p q u n a b e =
    let s = split t p q u a b in
    let st = subtree_at-stands 0 t p _ s.whole in
    let same : s.parent ≡ n = sym (e ∙ ap parent_of s.entry ∙ parent_of-entry s.parent) in
    record {
      first = s.first;
      left = s.left;
      right = s.right;
      whole = s.whole ∙ (λ i. Some (record { first = s.first; tree = branch s.left (same i) s.right }));
      left_child = s.left_subtree;
      right_child = s.right_subtree;
      split = omega (arith, st.node_index, leaf_count-positive s.left);
    }
