-- The leftmost subtrees of a tree, and a tree that replaces one.
use Rattle.std.proofs.Common.{◌≡◌, ℕ, suc, ◌+◌, ◌*◌, ◌-◌, ◌<◌, ◌≤◌, [], ◌∷◌, Option, Some, refl, sym, ap, ◌∙◌, subst, inl, inr, arith}
use Rattle.std.proofs.lemmas.Bool.{cases_lt, cases_order}
use Rattle.mls_nodes.specs.declared.parent.ParentNode.{ParentNode}
use Rattle.mls_tree.specs.Tree.{Tree, leaf, branch, height, leaf_count, IsPerfect, node_at, entry_of, Subtree, subtree_at}
use Rattle.mls_tree.specs.TreeInternal.{leaves_at}
use Rattle.mls_tree.specs.RatchetTree.{HasShape}
use Rattle.mls_tree.specs.Paths.{direct_path}
use Rattle.mls_tree.specs.TreeOperations.{has_non_blank_leaf, truncate, left_subtree, front_subtree, rejoined}
use Rattle.mls_tree.proofs.Choices.{below, from, here, before, after}
use Rattle.mls_tree.proofs.Numbers.{leaves_at-positive, leaves_at-le}
use Rattle.mls_tree.proofs.Trees.{leaf_count-perfect, leaf_count-positive, subtree_at-in_left, subtree_at-none}
use Rattle.mls_tree.proofs.Kept.{either, height-truncate}
use Rattle.mls_tree.proofs.Emptying.{IsAway, IsAway-front, IsAway-back, if_path, in_left}

-- ---- the leftmost subtree of height h

pub front-whole : (h : ℕ) (t : Tree) → height t ≤ h → front_subtree h t ≡ t
front-whole h (leaf x) low = refl
front-whole h (branch l n r) low = below (height l) h (branch l n r) (front_subtree h l) (omega arith)

pub front-below : (h : ℕ) (l : Tree) (n : Option ParentNode) (r : Tree) → h ≤ height l → front_subtree h (branch l n r) ≡ front_subtree h l
front-below h l n r high = from (height l) h (branch l n r) (front_subtree h l) high

-- induction along the way down to it
module _ (h : ℕ) (P : Tree → Tree → Type 0)
    (low : (w : Tree) → P w w)
    (high : (l : Tree) (n : Option ParentNode) (r : Tree) → h ≤ height l → P l (front_subtree h l) → P (branch l n r) (front_subtree h l)) where
  pub to_front : (w : Tree) → P w (front_subtree h w)
  to_front (leaf x) = low (leaf x)
  to_front (branch l n r) =
      elim (cases_lt (height l) h) [
        | inl lt ↦ subst (P (branch l n r)) (sym (front-whole h (branch l n r) (omega arith))) (low (branch l n r))
        | inr ge ↦ subst (P (branch l n r)) (sym (front-below h l n r ge)) (high l n r ge (to_front l))
      ]

pub leaf_count-front : (h : ℕ) (t : Tree) → leaf_count (front_subtree h t) ≤ leaf_count t
leaf_count-front h = to_front h (λ w f. leaf_count f ≤ leaf_count w) (λ w. omega arith) (λ l n r ge ih. omega arith)

pub subtree_at-front : (h : ℕ) (t : Tree) (p : ℕ) → p + 1 < 2 * leaf_count (front_subtree h t) → subtree_at 0 (front_subtree h t) p ≡ subtree_at 0 t p
subtree_at-front h t p =
    to_front h (λ w f. p + 1 < 2 * leaf_count f → subtree_at 0 f p ≡ subtree_at 0 w p) (λ w lt. refl)
    (λ l n r ge ih lt. ih lt ∙ sym (subtree_at-in_left 0 l n r p (let a = leaf_count-front h l in omega arith)))
    t

-- the left subtree, and the tree truncated, are such ones
pub left-front : (t : Tree) → left_subtree t ≡ front_subtree (height t - 1) t
left-front (leaf x) = refl
left-front (branch l n r) =
    sym (front-below (suc (height l) - 1) l n r (omega arith) ∙ front-whole (suc (height l) - 1) l (omega arith))

pub truncate-front : (t : Tree) → truncate t ≡ front_subtree (height (truncate t)) t
truncate-front (leaf x) = refl
truncate-front (branch l n r) =
    either (λ v. v ≡ front_subtree (height v) (branch l n r)) (has_non_blank_leaf r) (branch l n r) (truncate l)
    (sym (front-whole (suc (height l)) (branch l n r) (omega arith)))
    (truncate-front l ∙ sym (front-below (height (truncate l)) l n r (height-truncate l)))

-- ---- a tree that replaces the leftmost subtree of its height

pub rejoined-low : (t w : Tree) → height w ≤ height t → rejoined t w ≡ t
rejoined-low t (leaf x) low = refl
rejoined-low t (branch l n r) low = below (height l) (height t) t (branch (rejoined t l) n r) (omega arith)

pub rejoined-high : (t l : Tree) (n : Option ParentNode) (r : Tree) → height t ≤ height l → rejoined t (branch l n r) ≡ branch (rejoined t l) n r
rejoined-high t l n r high = from (height l) (height t) t (branch (rejoined t l) n r) high

-- induction along the way down to it
module _ (t : Tree) (P : Tree → Tree → Type 0)
    (low : (w : Tree) → height w ≤ height t → P w t)
    (high : (l : Tree) (n : Option ParentNode) (r : Tree) → height t ≤ height l → P l (rejoined t l) → P (branch l n r) (branch (rejoined t l) n r)) where
  pub to_rejoined : (w : Tree) → P w (rejoined t w)
  to_rejoined (leaf x) = low (leaf x) (omega arith)
  to_rejoined (branch l n r) =
      elim (cases_lt (height l) (height t)) [
        | inl lt ↦ subst (P (branch l n r)) (sym (rejoined-low t (branch l n r) (omega arith))) (low (branch l n r) (omega arith))
        | inr ge ↦ subst (P (branch l n r)) (sym (rejoined-high t l n r ge)) (high l n r ge (to_rejoined l))
      ]

pub height-rejoined : (t w : Tree) → height t ≤ height w → height (rejoined t w) ≡ height w
height-rejoined t = to_rejoined t (λ w v. height t ≤ height w → height v ≡ height w) (λ w a b. omega arith) (λ l n r ge ih b. ap (λ k. suc k) (ih ge))

pub IsPerfect-rejoined : (t w : Tree) → IsPerfect t → IsPerfect w → IsPerfect (rejoined t w)
IsPerfect-rejoined t w perfect =
    to_rejoined t (λ w v. IsPerfect w → IsPerfect v) (λ w a b. perfect) (λ l n r ge ih b. (height-rejoined t l ge ∙ b.0, ih b.1, b.2)) w

pub shape-rejoined : (t w : Tree) → HasShape t → HasShape w → HasShape (rejoined t w)
shape-rejoined t w s big = record {
  perfect = IsPerfect-rejoined t w s.perfect big.perfect;
  low =
      to_rejoined t (λ w v. height w ≤ 20 → height v ≤ 20) (λ w a b. s.low) (λ l n r ge ih b. let k = height-rejoined t l ge in omega arith) w big.low;
}

-- the higher a perfect tree, the more leaves it has
pub leaves-le : (t w : Tree) → IsPerfect t → IsPerfect w → height t ≤ height w → leaf_count t ≤ leaf_count w
leaves-le t w a b low = omega (arith, leaf_count-perfect t a, leaf_count-perfect w b, leaves_at-le (height t) (height w) low)

pub fewer-leaves : (t w : Tree) → IsPerfect t → IsPerfect w → height t < height w → leaf_count t < leaf_count w
fewer-leaves t w a b low =
    let next = leaves_at-le (suc (height t)) (height w) (omega arith) in
    omega (arith, leaf_count-perfect t a, leaf_count-perfect w b, leaves_at-positive (height t))

pub leaf_count-rejoined : (t w : Tree) → IsPerfect t → IsPerfect w → height t ≤ height w → leaf_count (rejoined t w) ≡ leaf_count w
leaf_count-rejoined t w a b low =
    leaf_count-perfect (rejoined t w) (IsPerfect-rejoined t w a b) ∙ ap leaves_at (height-rejoined t w low) ∙ sym (leaf_count-perfect w b)

pub leaf_count-kept : (t w : Tree) → leaf_count t ≤ leaf_count (rejoined t w)
leaf_count-kept t = to_rejoined t (λ w v. leaf_count t ≤ leaf_count v) (λ w a. omega arith) (λ l n r ge ih. omega arith)

-- its subtrees are those of the tree that was put there
pub subtree_at-kept : (t w : Tree) (p : ℕ) → p + 1 < 2 * leaf_count t → subtree_at 0 (rejoined t w) p ≡ subtree_at 0 t p
subtree_at-kept t w p lt =
    to_rejoined t (λ w v. subtree_at 0 v p ≡ subtree_at 0 t p) (λ w a. refl)
    (λ l n r ge ih. subtree_at-in_left 0 (rejoined t l) n r p (let a = leaf_count-kept t l in omega arith) ∙ ih)
    w

-- and after these, except the parents above leaf 0, those of the other
pub subtree_at-behind : (t w : Tree) (p : ℕ) → IsPerfect t → IsPerfect w → 2 * leaf_count t ≤ p + 1 → IsAway p (direct_path 0 w 0) → subtree_at 0 (rejoined t w) p ≡ subtree_at 0 w p
subtree_at-behind t w p perfect b past away =
    to_rejoined t (λ w v. IsPerfect w → IsAway p (direct_path 0 w 0) → subtree_at 0 v p ≡ subtree_at 0 w p)
    (λ w low b away. let le = leaves-le w t b perfect low in subtree_at-none 0 t p (omega arith) ∙ sym (subtree_at-none 0 w p (omega arith)))
    (λ l n r ge ih b away.
    let m = 0 + leaf_count l in
    let under = IsAway-front p (if_path 0 l r 0) ((2 * m - 1) ∷ []) away in
    in_left 0 p l n n r (rejoined t l) (leaf_count-rejoined t l perfect b.1 ge) ((IsAway-back p (if_path 0 l r 0) ((2 * m - 1) ∷ []) away).0)
    (ih b.1 (subst (IsAway p) (below 0 m (direct_path 0 l 0) (direct_path m r 0) (omega (arith, leaf_count-positive l))) under)))
    w b away

-- ---- the nodes after it

-- a parent with another left subtree of as many leaves
beside-left : (l k : Tree) (n : Option ParentNode) (r : Tree) (p : ℕ) → leaf_count k ≡ leaf_count l → node_at k p ≡ node_at l p → node_at (branch k n r) p ≡ node_at (branch l n r) p
beside-left l k n r p count same =
    let m = 0 + leaf_count l in
    let m' = 0 + leaf_count k in
    let whole : Tree → Option Subtree = λ t. Some (record { first = 0; tree = branch t n r }) in
    let at_right : ℕ → Option Subtree = λ first. subtree_at first r p in
    let even : m' ≡ m = ap (λ c. 0 + c) count in
    elim (cases_order (p + 1) (2 * m)) [
      | inl at ↦
          ap entry_of (here (p + 1) (2 * m') (whole k) (subtree_at 0 k p) (at_right m') (omega arith))
          ∙ sym (ap entry_of (here (p + 1) (2 * m) (whole l) (subtree_at 0 l p) (at_right m) at))
      | inr (inl lt) ↦
          ap entry_of (before (p + 1) (2 * m') (whole k) (subtree_at 0 k p) (at_right m') (omega arith))
          ∙ same
          ∙ sym (ap entry_of (before (p + 1) (2 * m) (whole l) (subtree_at 0 l p) (at_right m) lt))
      | inr (inr gt) ↦
          ap entry_of (after (p + 1) (2 * m') (whole k) (subtree_at 0 k p) (at_right m') (omega arith))
          ∙ ap (λ first. entry_of (at_right first)) even
          ∙ sym (ap entry_of (after (p + 1) (2 * m) (whole l) (subtree_at 0 l p) (at_right m) gt))
    ]

pub node_at-behind : (t w : Tree) (p : ℕ) → IsPerfect t → IsPerfect w → 2 * leaf_count t ≤ p + 1 → node_at (rejoined t w) p ≡ node_at w p
node_at-behind t w p perfect b past =
    to_rejoined t (λ w v. IsPerfect w → node_at v p ≡ node_at w p)
    (λ w low b. let le = leaves-le w t b perfect low in ap entry_of (subtree_at-none 0 t p (omega arith)) ∙ sym (ap entry_of (subtree_at-none 0 w p (omega arith))))
    (λ l n r ge ih b. beside-left l (rejoined t l) n r p (leaf_count-rejoined t l perfect b.1 ge) (ih b.1))
    w b
