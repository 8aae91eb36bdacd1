-- Subtrees by the node indices of their roots.
use Rattle.std.proofs.Common.{◌≡◌, ℕ, ◌+◌, ◌*◌, ◌-◌, ◌<◌, ◌≤◌, ◌∷◌, length, Option, Some, None, refl, sym, ap, ◌∙◌, arith, length-append, nat_eq}
use Rattle.std.proofs.lemmas.Bool.{cases_order}
use Rattle.std.proofs.lemmas.Option.{same_Some, cond_some}
use Rattle.std.proofs.Common.{inl, inr, subst, eqb-true}
use Rattle.mls_nodes.specs.declared.parent.ParentNode.{ParentNode}
use Rattle.mls_tree.specs.Tree.{Tree, leaf, branch, height, leaf_count, IsPerfect, listing, Subtree, subtree_at, root_node_index, parent_entry}
use Rattle.mls_tree.specs.TreeInternal.{leaves_at}
use Rattle.mls_tree.proofs.Choices.{here, before, after, same, other}

pub leaf_count-positive : (t : Tree) → 0 < leaf_count t
leaf_count-positive (leaf _) = omega arith
leaf_count-positive (branch l n r) = omega (arith, leaf_count-positive l)

pub leaf_count-perfect : (t : Tree) → IsPerfect t → leaf_count t ≡ leaves_at (height t)
leaf_count-perfect (leaf _) p = refl
leaf_count-perfect (branch l n r) p =
    let a = leaf_count-perfect l p.1 in let b = leaf_count-perfect r p.2 in let e : leaves_at (height l) ≡ leaves_at (height r) = ap leaves_at p.0 in omega arith

pub length-listing : (t : Tree) → length (listing t) + 1 ≡ 2 * leaf_count t
length-listing (leaf _) = refl
length-listing (branch l n r) = omega (arith, length-listing l, length-listing r, length-append (listing l) (parent_entry n ∷ listing r))

-- induction along the descent to a node index: at the root, in the left subtree, in the right subtree
module _ (Q : ℕ → Tree → ℕ → Subtree → Type 0)
    (root : (first : ℕ) (t : Tree) (p : ℕ) → p ≡ root_node_index first t → Q first t p (record { first = first; tree = t }))
    (in_left : (first : ℕ) (l : Tree) (n : Option ParentNode) (r : Tree) (p : ℕ) (s : Subtree)
    → p + 1 < 2 * (first + leaf_count l) → subtree_at first l p ≡ Some s → Q first l p s → Q first (branch l n r) p s)
    (in_right : (first : ℕ) (l : Tree) (n : Option ParentNode) (r : Tree) (p : ℕ) (s : Subtree)
    → 2 * (first + leaf_count l) < p + 1 → subtree_at (first + leaf_count l) r p ≡ Some s → Q (first + leaf_count l) r p s → Q first (branch l n r) p s) where
  pub along : (first : ℕ) (t : Tree) (p : ℕ) (s : Subtree) → subtree_at first t p ≡ Some s → Q first t p s
  along first (leaf x) p s e =
      let parts = cond_some (nat_eq p (2 * first)) (record { first = first; tree = leaf x }) s e in
      subst (λ u. Q first (leaf x) p u) parts.1 (root first (leaf x) p (eqb-true p (2 * first) parts.0))
  along first (branch l n r) p s e =
      elim (cases_order (p + 1) (2 * (first + leaf_count l))) [
        | inl at ↦
            subst (λ u. Q first (branch l n r) p u)
            (same_Some _ s (sym (here (p + 1) (2 * (first + leaf_count l)) (Some (record { first = first; tree = branch l n r })) (subtree_at first l p) (subtree_at (first + leaf_count l) r p) at) ∙ e))
            (root first (branch l n r) p (omega arith))
        | inr (inl lt) ↦
            (let sub = sym (before (p + 1) (2 * (first + leaf_count l)) (Some (record { first = first; tree = branch l n r })) (subtree_at first l p) (subtree_at (first + leaf_count l) r p) lt) ∙ e in
            in_left first l n r p s lt sub (along first l p s sub))
        | inr (inr gt) ↦
            (let sub = sym (after (p + 1) (2 * (first + leaf_count l)) (Some (record { first = first; tree = branch l n r })) (subtree_at first l p) (subtree_at (first + leaf_count l) r p) gt) ∙ e in
            in_right first l n r p s gt sub (along (first + leaf_count l) r p s sub))
      ]

pub root_node_index-above : (first : ℕ) (t : Tree) → 2 * first ≤ root_node_index first t
root_node_index-above first (leaf _) = omega arith
root_node_index-above first (branch l n r) = omega (arith, leaf_count-positive l)

pub root_node_index-below : (first : ℕ) (t : Tree) → root_node_index first t + 1 < 2 * (first + leaf_count t)
root_node_index-below first (leaf _) = omega arith
root_node_index-below first (branch l n r) = omega (arith, leaf_count-positive l, leaf_count-positive r)

-- what is known of a subtree at a node index
pub record Stands (first : ℕ) (t : Tree) (p : ℕ) (s : Subtree) : Type 0 where
  pub node_index : p ≡ root_node_index s.first s.tree
  pub from_left : first ≤ s.first
  pub to_right : s.first + leaf_count s.tree ≤ first + leaf_count t

pub subtree_at-stands : (first : ℕ) (t : Tree) (p : ℕ) (s : Subtree) → subtree_at first t p ≡ Some s → Stands first t p s
subtree_at-stands =
    along (λ first t p s. Stands first t p s)
    (λ first t p e. record { node_index = e; from_left = omega arith; to_right = omega arith })
    (λ first l n r p s lt sub h. record { node_index = h.node_index; from_left = h.from_left; to_right = omega arith })
    (λ first l n r p s gt sub h. record { node_index = h.node_index; from_left = omega arith; to_right = omega arith })

-- the steps of the descent
module _ (first : ℕ) (l : Tree) (n : Option ParentNode) (r : Tree) (p : ℕ) where
  pub subtree_at-in_left : p + 1 < 2 * (first + leaf_count l) → subtree_at first (branch l n r) p ≡ subtree_at first l p
  subtree_at-in_left lt =
      before (p + 1) (2 * (first + leaf_count l)) (Some (record { first = first; tree = branch l n r })) (subtree_at first l p) (subtree_at (first + leaf_count l) r p) lt

  pub subtree_at-in_right : 2 * (first + leaf_count l) < p + 1 → subtree_at first (branch l n r) p ≡ subtree_at (first + leaf_count l) r p
  subtree_at-in_right gt =
      after (p + 1) (2 * (first + leaf_count l)) (Some (record { first = first; tree = branch l n r })) (subtree_at first l p) (subtree_at (first + leaf_count l) r p) gt

  pub subtree_at-here : p + 1 ≡ 2 * (first + leaf_count l) → subtree_at first (branch l n r) p ≡ Some (record { first = first; tree = branch l n r })
  subtree_at-here e =
      here (p + 1) (2 * (first + leaf_count l)) (Some (record { first = first; tree = branch l n r })) (subtree_at first l p) (subtree_at (first + leaf_count l) r p) e

pub subtree_at-root : (first : ℕ) (t : Tree) → subtree_at first t (root_node_index first t) ≡ Some (record { first = first; tree = t })
subtree_at-root first (leaf x) = same (2 * first) (2 * first) (Some (record { first = first; tree = leaf x })) None refl
subtree_at-root first (branch l n r) = subtree_at-here first l n r (2 * (first + leaf_count l) - 1) (omega (arith, leaf_count-positive l))

-- a subtree of a subtree
pub subtree_at-nested : (first : ℕ) (t : Tree) (p : ℕ) (s : Subtree) → subtree_at first t p ≡ Some s
    → (q : ℕ) (u : Subtree) → subtree_at s.first s.tree q ≡ Some u → subtree_at first t q ≡ Some u
subtree_at-nested =
    along (λ first t p s. (q : ℕ) (u : Subtree) → subtree_at s.first s.tree q ≡ Some u → subtree_at first t q ≡ Some u)
    (λ first t p e q u h. h)
    (λ first l n r p s lt sub ih q u h.
    let at = subtree_at-stands first l q u (ih q u h) in
    subtree_at-in_left first l n r q (omega (arith, root_node_index-below u.first u.tree)) ∙ ih q u h)
    (λ first l n r p s gt sub ih q u h.
    let at = subtree_at-stands (first + leaf_count l) r q u (ih q u h) in
    subtree_at-in_right first l n r q (omega (arith, root_node_index-above u.first u.tree)) ∙ ih q u h)

pub subtree_at-left : (first : ℕ) (t : Tree) (p g : ℕ) (l : Tree) (n : Option ParentNode) (r : Tree)
    → subtree_at first t p ≡ Some (record { first = g; tree = branch l n r })
    → subtree_at first t (root_node_index g l) ≡ Some (record { first = g; tree = l })
subtree_at-left first t p g l n r e =
    subtree_at-nested first t p _ e (root_node_index g l) (record { first = g; tree = l })
    (subtree_at-in_left g l n r (root_node_index g l) (root_node_index-below g l) ∙ subtree_at-root g l)

pub subtree_at-right : (first : ℕ) (t : Tree) (p g : ℕ) (l : Tree) (n : Option ParentNode) (r : Tree)
    → subtree_at first t p ≡ Some (record { first = g; tree = branch l n r })
    → subtree_at first t (root_node_index (g + leaf_count l) r) ≡ Some (record { first = g + leaf_count l; tree = r })
subtree_at-right first t p g l n r e =
    subtree_at-nested first t p _ e (root_node_index (g + leaf_count l) r) (record { first = g + leaf_count l; tree = r })
    (subtree_at-in_right g l n r (root_node_index (g + leaf_count l) r) (omega (arith, root_node_index-above (g + leaf_count l) r)) ∙ subtree_at-root (g + leaf_count l) r)

pub subtree_at-perfect : (first : ℕ) (t : Tree) (p : ℕ) (s : Subtree) → subtree_at first t p ≡ Some s
    → IsPerfect t → IsPerfect s.tree × (height s.tree ≤ height t)
subtree_at-perfect =
    along (λ first t p s. IsPerfect t → IsPerfect s.tree × (height s.tree ≤ height t))
    (λ first t p e h. (h, omega arith))
    (λ first l n r p s lt sub ih h. let k = ih h.1 in (k.0, omega arith))
    (λ first l n r p s gt sub ih h. let k = ih h.2 in let e = h.0 in (k.0, omega arith))

-- the first leaf of a subtree of height k is numbered by a multiple of 2 ^ k
pub subtree_at-aligned : (first : ℕ) (t : Tree) (p : ℕ) (s : Subtree) → subtree_at first t p ≡ Some s
    → IsPerfect t → (m : ℕ) → first ≡ m * leaves_at (height t) → (k : ℕ) × (s.first ≡ k * leaves_at (height s.tree))
subtree_at-aligned =
    along (λ first t p s. IsPerfect t → (m : ℕ) → first ≡ m * leaves_at (height t) → (k : ℕ) × (s.first ≡ k * leaves_at (height s.tree)))
    (λ first t p e h m a. (m, a))
    (λ first l n r p s lt sub ih h m a. ih h.1 (2 * m) (omega arith))
    (λ first l n r p s gt sub ih h m a.
    ih h.2 (2 * m + 1)
    (let q = leaf_count-perfect l h.1 in let e : leaves_at (height l) ≡ leaves_at (height r) = ap leaves_at h.0 in
    let b : m * leaves_at (height l) ≡ m * leaves_at (height r) = ap (λ v. m * v) e in omega arith))

-- there is a subtree at each node index
pub subtree_at-some : (first : ℕ) (t : Tree) (p : ℕ) → 2 * first ≤ p → p + 1 < 2 * (first + leaf_count t) → (s : Subtree) × (subtree_at first t p ≡ Some s)
subtree_at-some first (leaf x) p a b =
    (record { first = first; tree = leaf x }, same p (2 * first) (Some (record { first = first; tree = leaf x })) None (omega arith))
subtree_at-some first (branch l n r) p a b =
    elim (cases_order (p + 1) (2 * (first + leaf_count l))) [
      | inl at ↦ (record { first = first; tree = branch l n r }, subtree_at-here first l n r p at)
      | inr (inl lt) ↦ (let s = subtree_at-some first l p a lt in (s.0, subtree_at-in_left first l n r p lt ∙ s.1))
      | inr (inr gt) ↦ (let s = subtree_at-some (first + leaf_count l) r p (omega arith) (omega arith) in (s.0, subtree_at-in_right first l n r p gt ∙ s.1))
    ]

-- and none past the last one
pub subtree_at-none : (first : ℕ) (t : Tree) (p : ℕ) → 2 * (first + leaf_count t) ≤ p + 1 → subtree_at first t p ≡ None
subtree_at-none first (leaf x) p a = other p (2 * first) (Some (record { first = first; tree = leaf x })) None (λ e. omega arith)
subtree_at-none first (branch l n r) p a =
    subtree_at-in_right first l n r p (omega (arith, leaf_count-positive r)) ∙ subtree_at-none (first + leaf_count l) r p (omega arith)
