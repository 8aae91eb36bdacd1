-- A node index is that of a leaf, or of a parent with two children whose node indices are known.
use Rattle.std.proofs.Common.{◌≡◌, ℕ, ◌+◌, ◌/◌, Option, Some, None, IsSome, refl, sym, ap, ◌∙◌, arith}
use Rattle.std.specs.Prelude.{option_and_then}
use Rattle.std.proofs.lemmas.Option.{none-some, same_Some, option_and_then_some}
use Rattle.mls_nodes.specs.declared.leaf.LeafNode.{LeafNode}
use Rattle.mls_nodes.specs.declared.parent.ParentNode.{ParentNode}
use Rattle.mls_tree.specs.Tree.{Tree, leaf, branch, leaf_count, Subtree, subtree_at, root_node_index, leaf_at, node_at, entry_of, parent_entry}
use Rattle.mls_tree.specs.NodeIndices.{left_at, right_at, left_node_index, right_node_index}
use Rattle.mls_tree.proofs.Choices.{below, from, same}
use Rattle.mls_tree.proofs.Trees.{along, subtree_at-left, subtree_at-right, subtree_at-stands, leaf_count-positive}

-- a parent is at node index p, and its children at q and u
pub record Split (t : Tree) (p q u : ℕ) : Type 0 where
  pub first : ℕ
  pub left : Tree
  pub parent : Option ParentNode
  pub right : Tree
  pub whole : subtree_at 0 t p ≡ Some (record { first = first; tree = branch left parent right })
  pub left_subtree : subtree_at 0 t q ≡ Some (record { first = first; tree = left })
  pub right_subtree : subtree_at 0 t u ≡ Some (record { first = first + leaf_count left; tree = right })
  pub entry : node_at t p ≡ parent_entry parent

split_from : (t : Tree) (p q u first : ℕ) (v : Tree) → subtree_at 0 t p ≡ Some (record { first = first; tree = v }) → left_node_index first v ≡ Some q → right_node_index first v ≡ Some u → Split t p q u
split_from t p q u first (leaf _) e a b = absurd (none-some q a)
split_from t p q u first (branch l n r) e a b = record {
  first = first;
  left = l;
  parent = n;
  right = r;
  whole = e;
  left_subtree = ap (λ v. subtree_at 0 t v) (sym (same_Some (root_node_index first l) q a)) ∙ subtree_at-left 0 t p first l n r e;
  right_subtree = ap (λ v. subtree_at 0 t v) (sym (same_Some (root_node_index (first + leaf_count l) r) u b)) ∙ subtree_at-right 0 t p first l n r e;
  entry = ap entry_of e;
}

pub split : (t : Tree) (p q u : ℕ) → left_at t p ≡ Some q → right_at t p ≡ Some u → Split t p q u
split t p q u a b =
    option_and_then_some (λ (s : Subtree). left_node_index s.first s.tree) (subtree_at 0 t p) q a
    (λ s e l. split_from t p q u s.first s.tree e l (sym (ap (λ o. option_and_then (λ (s : Subtree). right_node_index s.first s.tree) o) e) ∙ b))

-- a leaf is at node index p
pub record LeafHere (t : Tree) (p : ℕ) : Type 0 where
  pub number : ℕ
  pub value : Option LeafNode
  pub whole : subtree_at 0 t p ≡ Some (record { first = number; tree = leaf value })
  pub node_index : p / 2 ≡ number
  pub at : leaf_at 0 t number ≡ value

pub leaf_at-subtree : (first : ℕ) (t : Tree) (p : ℕ) (s : Subtree) → subtree_at first t p ≡ Some s → (x : Option LeafNode) → s.tree ≡ leaf x → leaf_at first t s.first ≡ x
leaf_at-subtree =
    along (λ first t p s. (x : Option LeafNode) → s.tree ≡ leaf x → leaf_at first t s.first ≡ x)
    (λ first t p e x w. ap (λ v. leaf_at first v first) w ∙ same first first x None refl)
    (λ first l n r p s lt sub ih x w.
    let at = subtree_at-stands first l p s sub in
    below s.first (first + leaf_count l) (leaf_at first l s.first) (leaf_at (first + leaf_count l) r s.first) (omega (arith, at.to_right, leaf_count-positive s.tree)) ∙ ih x w)
    (λ first l n r p s gt sub ih x w.
    let at = subtree_at-stands (first + leaf_count l) r p s sub in
    from s.first (first + leaf_count l) (leaf_at first l s.first) (leaf_at (first + leaf_count l) r s.first) (omega (arith, at.from_left)) ∙ ih x w)

leaf_from : (t : Tree) (p first : ℕ) (v : Tree) → subtree_at 0 t p ≡ Some (record { first = first; tree = v }) → left_node_index first v ≡ None → LeafHere t p
leaf_from t p first (branch l n r) e a = absurd (none-some (root_node_index first l) (sym a))
leaf_from t p first (leaf x) e a =
    let st = subtree_at-stands 0 t p _ e in
    record { number = first; value = x; whole = e; node_index = omega (arith, st.node_index); at = leaf_at-subtree 0 t p _ e x refl }

leaf_of : (t : Tree) (p : ℕ) (o : Option Subtree) → subtree_at 0 t p ≡ o → IsSome o → left_at t p ≡ None → LeafHere t p
leaf_of t p None e h a = absurd (cc)
leaf_of t p (Some s) e h a = leaf_from t p s.first s.tree e (sym (ap (λ o. option_and_then (λ (s : Subtree). left_node_index s.first s.tree) o) e) ∙ a)

pub leaf_here : (t : Tree) (p : ℕ) → IsSome (subtree_at 0 t p) → left_at t p ≡ None → LeafHere t p
leaf_here t p h a = leaf_of t p (subtree_at 0 t p) refl h a
