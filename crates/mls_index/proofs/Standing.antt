-- The leaves of a tree by their places.
use Rattle.std.proofs.Common.{◌≡◌, ◌∙◌, ℕ, ◌+◌, ◌*◌, ◌≤◌, List, Option, Some, None, inl, inr, refl, sym, ap, arith}
use Rattle.std.proofs.lemmas.Bool.{cases_eq, cases_lt, cases_order}
use Rattle.std.proofs.lemmas.Option.{none-some, same_Some}
use Rattle.mls_nodes.specs.declared.leaf.LeafNode.{LeafNode}
use Rattle.mls_nodes.specs.declared.parent.ParentNode.{ParentNode}
use Rattle.mls_nodes.specs.NodeModel.{NodeValue, leaf_node, parent_node}
use Rattle.mls_tree.specs.Tree.{Tree, leaf, branch, leaf_count, leaf_at, node_at, leaf_entry, parent_entry, Subtree, subtree_at, entry_of}
use Rattle.mls_tree.proofs.Choices.{here, before, after, same, other}
use Rattle.mls_tree.proofs.Positions.{node_at-listing, leaf_at-listing}
use Rattle.mls_check.proofs.Leaves.{leaf_at-here, leaf_at-left, leaf_at-right, leaf_at-leaf, leaf_at-low}
use Rattle.mls_index.specs.NodeKeys.{signature_key, key_at_node}
use Rattle.mls_index.specs.declared.node_key.KeyKind.TheVariants.{Signature}

-- the leaf that a node is
abbrev leaf_of : Option NodeValue → Option LeafNode
leaf_of None = None
leaf_of (Some (leaf_node x)) = Some x
leaf_of (Some (parent_node _)) = None

leaf_of-entry : (o : Option LeafNode) → leaf_of (leaf_entry o) ≡ o
leaf_of-entry None = refl
leaf_of-entry (Some x) = refl

parent-no_leaf : (n : Option ParentNode) (x : LeafNode) → parent_entry n ≡ Some (leaf_node x) → ⊥
parent-no_leaf None x e = none-some _ e
parent-no_leaf (Some y) x e = none-some x (ap leaf_of e)

standing : (t : Tree) (i : ℕ) → node_at t (2 * i) ≡ leaf_entry (leaf_at 0 t i)
standing t i = node_at-listing t (2 * i) ∙ sym (leaf_at-listing t i)

leaf_at-node : (t : Tree) (i : ℕ) → leaf_at 0 t i ≡ leaf_of (node_at t (2 * i))
leaf_at-node t i = sym (leaf_of-entry (leaf_at 0 t i)) ∙ ap leaf_of (sym (standing t i))

-- trees with the same node at a leaf's place have the same leaf
pub same_leaf : (old new : Tree) (i : ℕ) → node_at old (2 * i) ≡ node_at new (2 * i) → leaf_at 0 new i ≡ leaf_at 0 old i
same_leaf old new i e = leaf_at-node new i ∙ ap leaf_of (sym e) ∙ sym (leaf_at-node old i)

-- the signature key of a set leaf stands at its place
pub leaf-key_at_node : (t : Tree) (i : ℕ) (x : LeafNode) → leaf_at 0 t i ≡ Some x → key_at_node Signature t (2 * i) ≡ Some x.signature_key
leaf-key_at_node t i x set = ap signature_key (standing t i ∙ ap leaf_entry set)

leaf_at-high : (first : ℕ) (t : Tree) (i : ℕ) (x : LeafNode) → leaf_at first t i ≡ Some x → first ≤ i
leaf_at-high first (leaf y) i x e = let at = leaf_at-leaf first y i x e in omega (arith, at.0)
leaf_at-high first (branch l n r) i x e =
    elim (cases_lt i (first + leaf_count l)) [
      | inl low ↦ leaf_at-high first l i x (sym (leaf_at-left first l n r i low) ∙ e)
      | inr high ↦ omega arith
    ]

-- a set leaf stands at a place
pub record IsLeafNodeIndex (first : ℕ) (t : Tree) (p : ℕ) (x : LeafNode) : Type 0 where
  pub index : ℕ
  pub node_index : p ≡ 2 * index
  pub is : leaf_at first t index ≡ Some x

tbs_suffix : (first : ℕ) (t : Tree) (p : ℕ) (x : LeafNode) → entry_of (subtree_at first t p) ≡ Some (leaf_node x) → IsLeafNodeIndex first t p x
tbs_suffix first (leaf y) p x e =
    let whole : Option Subtree = Some (record { first = first; tree = leaf y }) in
    elim (cases_eq p (2 * first)) [
      | inl at ↦ record {
        index = first;
        node_index = at;
        is = leaf_at-here first y ∙ sym (leaf_of-entry y) ∙ ap leaf_of (sym (ap entry_of (same p (2 * first) whole None at)) ∙ e);
      }
      | inr off ↦ absurd (none-some _ (sym (ap entry_of (other p (2 * first) whole None off)) ∙ e))
    ]
tbs_suffix first (branch l n r) p x e =
    let at = p + 1 in
    let middle = 2 * (first + leaf_count l) in
    let whole : Option Subtree = Some (record { first = first; tree = branch l n r }) in
    let left = subtree_at first l p in
    let right = subtree_at (first + leaf_count l) r p in
    elim (cases_order at middle) [
      | inl eq ↦ absurd (parent-no_leaf n x (sym (ap entry_of (here at middle whole left right eq)) ∙ e))
      | inr (inl lt) ↦
          (let s = tbs_suffix first l p x (sym (ap entry_of (before at middle whole left right lt)) ∙ e) in
          record { index = s.index; node_index = s.node_index; is = leaf_at-left first l n r s.index (leaf_at-low first l s.index x s.is) ∙ s.is })
      | inr (inr gt) ↦
          (let s = tbs_suffix (first + leaf_count l) r p x (sym (ap entry_of (after at middle whole left right gt)) ∙ e) in
          record { index = s.index; node_index = s.node_index; is = leaf_at-right first l n r s.index (leaf_at-high (first + leaf_count l) r s.index x s.is) ∙ s.is })
    ]

-- a node with a signature key is a leaf
signing : (o : Option NodeValue) (key : List ℕ) → signature_key o ≡ Some key → (x : LeafNode) × (o ≡ Some (leaf_node x)) × (x.signature_key ≡ key)
signing None key e = absurd (none-some key e)
signing (Some (leaf_node x)) key e = (x, refl, same_Some x.signature_key key e)
signing (Some (parent_node p)) key e = absurd (none-some key e)

-- where a signature key stands, there is a leaf that has it
pub record HasSigner (t : Tree) (p : ℕ) (key : List ℕ) : Type 0 where
  pub leaf : LeafNode
  pub at : IsLeafNodeIndex 0 t p leaf
  pub has : leaf.signature_key ≡ key

pub signer : (t : Tree) (p : ℕ) (key : List ℕ) → key_at_node Signature t p ≡ Some key → HasSigner t p key
signer t p key e =
    let s = signing (node_at t p) key e in
    record { leaf = s.0; at = tbs_suffix 0 t p s.0 s.1; has = s.2 }
