-- What a change of a tree preserves: its shape, how many leaves it has, and the leaves that it does not change.
use Rattle.std.proofs.Common.{◌≡◌, ◌≢◌, ℕ, zero, suc, ◌+◌, ◌*◌, ◌<◌, ◌≤◌, Bool, true, false, nat_lt, Option, Some, None, refl, sym, ap, ◌∙◌, inl, inr, arith}
use Rattle.std.specs.Prelude.{if◌then◌else◌, ◌==◌, ◌||◌}
use Rattle.std.proofs.lemmas.Bool.{cases_lt}
use Rattle.mls_nodes.specs.declared.leaf.LeafNode.{LeafNode}
use Rattle.mls_nodes.specs.declared.parent.ParentNode.{ParentNode}
use Rattle.mls_tree.specs.Tree.{Tree, leaf, branch, height, leaf_count, leaf_at, IsPerfect}
use Rattle.mls_tree.specs.TreeInternal.{leaves_at}
use Rattle.mls_tree.specs.RatchetTree.{HasShape}
use Rattle.mls_tree.specs.TreeOperations.{put_leaf, put_parent, change_above, has_non_blank_leaf, truncate, blank_tree, extend}
use Rattle.mls_tree.proofs.Choices.{below, from, same, other}
use Rattle.mls_tree.proofs.Trees.{leaf_count-perfect}
use Rattle.mls_tree.proofs.Lookups.{leaf_at-past}

-- what holds of both branches of a choice holds of it
pub either : {X : Type 0} (P : X → Type 0) (b : Bool) (x y : X) → P x → P y → P (if b then x else y)
either P true x y p q = p
either P false x y p q = q

-- ---- the parents above a leaf are changed

module _ (f : Option ParentNode → Option ParentNode) where
  pub leaf_count-change_above : (first : ℕ) (t : Tree) (i : ℕ) → leaf_count (change_above f first t i) ≡ leaf_count t
  leaf_count-change_above first (leaf x) i = refl
  leaf_count-change_above first (branch l n r) i =
      either (λ t. leaf_count t ≡ leaf_count l + leaf_count r) (nat_lt i (first + leaf_count l)) (branch (change_above f first l i) (f n) r) (branch l (f n) (change_above f (first + leaf_count l) r i))
      (ap (λ k. k + leaf_count r) (leaf_count-change_above first l i))
      (ap (λ k. leaf_count l + k) (leaf_count-change_above (first + leaf_count l) r i))

  pub height-change_above : (first : ℕ) (t : Tree) (i : ℕ) → height (change_above f first t i) ≡ height t
  height-change_above first (leaf x) i = refl
  height-change_above first (branch l n r) i =
      either (λ t. height t ≡ suc (height l)) (nat_lt i (first + leaf_count l)) (branch (change_above f first l i) (f n) r) (branch l (f n) (change_above f (first + leaf_count l) r i))
      (ap (λ k. suc k) (height-change_above first l i)) refl

  pub IsPerfect-change_above : (first : ℕ) (t : Tree) (i : ℕ) → IsPerfect t → IsPerfect (change_above f first t i)
  IsPerfect-change_above first (leaf x) i h = h
  IsPerfect-change_above first (branch l n r) i h =
      either IsPerfect (nat_lt i (first + leaf_count l)) (branch (change_above f first l i) (f n) r) (branch l (f n) (change_above f (first + leaf_count l) r i))
      (height-change_above first l i ∙ h.0, IsPerfect-change_above first l i h.1, h.2)
      (h.0 ∙ sym (height-change_above (first + leaf_count l) r i), h.1, IsPerfect-change_above (first + leaf_count l) r i h.2)

  pub leaf_at-change_above : (first : ℕ) (t : Tree) (i j : ℕ) → leaf_at first (change_above f first t i) j ≡ leaf_at first t j
  leaf_at-change_above first (leaf x) i j = refl
  leaf_at-change_above first (branch l n r) i j =
      let c = leaf_count-change_above first l i in
      let a = leaf_at-change_above first l i j in
      let b = leaf_at-change_above (first + leaf_count l) r i j in
      either (λ t. leaf_at first t j ≡ (if nat_lt j (first + leaf_count l) then leaf_at first l j else leaf_at (first + leaf_count l) r j)) (nat_lt i (first + leaf_count l))
      (branch (change_above f first l i) (f n) r) (branch l (f n) (change_above f (first + leaf_count l) r i))
      (λ k. if nat_lt j (first + c k) then a k else leaf_at (first + c k) r j)
      (λ k. if nat_lt j (first + leaf_count l) then leaf_at first l j else b k)

-- ---- a leaf is replaced

pub leaf_count-put_leaf : (first : ℕ) (t : Tree) (i : ℕ) (x : Option LeafNode) → leaf_count (put_leaf first t i x) ≡ leaf_count t
leaf_count-put_leaf first (leaf _) i x = refl
leaf_count-put_leaf first (branch l n r) i x =
    either (λ t. leaf_count t ≡ leaf_count l + leaf_count r) (nat_lt i (first + leaf_count l)) (branch (put_leaf first l i x) n r) (branch l n (put_leaf (first + leaf_count l) r i x))
    (ap (λ k. k + leaf_count r) (leaf_count-put_leaf first l i x))
    (ap (λ k. leaf_count l + k) (leaf_count-put_leaf (first + leaf_count l) r i x))

pub height-put_leaf : (first : ℕ) (t : Tree) (i : ℕ) (x : Option LeafNode) → height (put_leaf first t i x) ≡ height t
height-put_leaf first (leaf _) i x = refl
height-put_leaf first (branch l n r) i x =
    either (λ t. height t ≡ suc (height l)) (nat_lt i (first + leaf_count l)) (branch (put_leaf first l i x) n r) (branch l n (put_leaf (first + leaf_count l) r i x))
    (ap (λ k. suc k) (height-put_leaf first l i x)) refl

pub IsPerfect-put_leaf : (first : ℕ) (t : Tree) (i : ℕ) (x : Option LeafNode) → IsPerfect t → IsPerfect (put_leaf first t i x)
IsPerfect-put_leaf first (leaf _) i x h = h
IsPerfect-put_leaf first (branch l n r) i x h =
    either IsPerfect (nat_lt i (first + leaf_count l)) (branch (put_leaf first l i x) n r) (branch l n (put_leaf (first + leaf_count l) r i x))
    (height-put_leaf first l i x ∙ h.0, IsPerfect-put_leaf first l i x h.1, h.2)
    (h.0 ∙ sym (height-put_leaf (first + leaf_count l) r i x), h.1, IsPerfect-put_leaf (first + leaf_count l) r i x h.2)

-- the leaf that was put in
pub leaf_at-put_leaf : (first : ℕ) (t : Tree) (i : ℕ) (x : Option LeafNode) → first ≤ i → i < first + leaf_count t → leaf_at first (put_leaf first t i x) i ≡ x
leaf_at-put_leaf first (leaf _) i x a b = same i first x None (omega arith)
leaf_at-put_leaf first (branch l n r) i x a b =
    let c = leaf_count-put_leaf first l i x in
    elim (cases_lt i (first + leaf_count l)) [
      | inl lt ↦
          ap (λ t. leaf_at first t i) (below i (first + leaf_count l) (branch (put_leaf first l i x) n r) (branch l n (put_leaf (first + leaf_count l) r i x)) lt)
          ∙ below i (first + leaf_count (put_leaf first l i x)) (leaf_at first (put_leaf first l i x) i) (leaf_at (first + leaf_count (put_leaf first l i x)) r i) (omega arith)
          ∙ leaf_at-put_leaf first l i x a lt
      | inr ge ↦
          ap (λ t. leaf_at first t i) (from i (first + leaf_count l) (branch (put_leaf first l i x) n r) (branch l n (put_leaf (first + leaf_count l) r i x)) ge)
          ∙ from i (first + leaf_count l) (leaf_at first l i) (leaf_at (first + leaf_count l) (put_leaf (first + leaf_count l) r i x) i) ge
          ∙ leaf_at-put_leaf (first + leaf_count l) r i x ge (omega arith)
    ]

-- each other leaf
pub leaf_at-put_leaf_other : (first : ℕ) (t : Tree) (i j : ℕ) (x : Option LeafNode) → first ≤ i → i < first + leaf_count t → j ≢ i → leaf_at first (put_leaf first t i x) j ≡ leaf_at first t j
leaf_at-put_leaf_other first (leaf y) i j x a b d =
    let away : j ≡ first → ⊥ = λ e. d (omega arith) in
    other j first x None away ∙ sym (other j first y None away)
leaf_at-put_leaf_other first (branch l n r) i j x a b d =
    let c = leaf_count-put_leaf first l i x in
    elim (cases_lt i (first + leaf_count l)) [
      | inl lt ↦
          (let e = leaf_at-put_leaf_other first l i j x a lt d in
          ap (λ t. leaf_at first t j) (below i (first + leaf_count l) (branch (put_leaf first l i x) n r) (branch l n (put_leaf (first + leaf_count l) r i x)) lt)
          ∙ (λ k. if nat_lt j (first + c k) then e k else leaf_at (first + c k) r j))
      | inr ge ↦
          (let e = leaf_at-put_leaf_other (first + leaf_count l) r i j x ge (omega arith) d in
          ap (λ t. leaf_at first t j) (from i (first + leaf_count l) (branch (put_leaf first l i x) n r) (branch l n (put_leaf (first + leaf_count l) r i x)) ge)
          ∙ (λ k. if nat_lt j (first + leaf_count l) then leaf_at first l j else e k))
    ]

-- ---- a parent is replaced

pub leaf_count-put_parent : (first : ℕ) (t : Tree) (p : ℕ) (x : Option ParentNode) → leaf_count (put_parent first t p x) ≡ leaf_count t
leaf_count-put_parent first (leaf _) p x = refl
leaf_count-put_parent first (branch l n r) p x =
    either (λ t. leaf_count t ≡ leaf_count l + leaf_count r) (p + 1 == 2 * (first + leaf_count l)) (branch l x r)
    (if nat_lt (p + 1) (2 * (first + leaf_count l)) then branch (put_parent first l p x) n r else branch l n (put_parent (first + leaf_count l) r p x)) refl
    (either (λ t. leaf_count t ≡ leaf_count l + leaf_count r) (nat_lt (p + 1) (2 * (first + leaf_count l))) (branch (put_parent first l p x) n r) (branch l n (put_parent (first + leaf_count l) r p x))
    (ap (λ k. k + leaf_count r) (leaf_count-put_parent first l p x))
    (ap (λ k. leaf_count l + k) (leaf_count-put_parent (first + leaf_count l) r p x)))

pub leaf_at-put_parent : (first : ℕ) (t : Tree) (p j : ℕ) (x : Option ParentNode) → leaf_at first (put_parent first t p x) j ≡ leaf_at first t j
leaf_at-put_parent first (leaf _) p j x = refl
leaf_at-put_parent first (branch l n r) p j x =
    let c = leaf_count-put_parent first l p x in
    let a = leaf_at-put_parent first l p j x in
    let b = leaf_at-put_parent (first + leaf_count l) r p j x in
    either (λ t. leaf_at first t j ≡ (if nat_lt j (first + leaf_count l) then leaf_at first l j else leaf_at (first + leaf_count l) r j)) (p + 1 == 2 * (first + leaf_count l)) (branch l x r)
    (if nat_lt (p + 1) (2 * (first + leaf_count l)) then branch (put_parent first l p x) n r else branch l n (put_parent (first + leaf_count l) r p x)) refl
    (either (λ t. leaf_at first t j ≡ (if nat_lt j (first + leaf_count l) then leaf_at first l j else leaf_at (first + leaf_count l) r j)) (nat_lt (p + 1) (2 * (first + leaf_count l)))
    (branch (put_parent first l p x) n r) (branch l n (put_parent (first + leaf_count l) r p x))
    (λ k. if nat_lt j (first + c k) then a k else leaf_at (first + c k) r j)
    (λ k. if nat_lt j (first + leaf_count l) then leaf_at first l j else b k))

-- ---- a tree with no non-blank node

pub height-blank_tree : (h : ℕ) → height (blank_tree h) ≡ h
height-blank_tree zero = refl
height-blank_tree (suc h) = ap (λ k. suc k) (height-blank_tree h)

pub IsPerfect-blank_tree : (h : ℕ) → IsPerfect (blank_tree h)
IsPerfect-blank_tree zero = tt
IsPerfect-blank_tree (suc h) = (refl, IsPerfect-blank_tree h, IsPerfect-blank_tree h)

pub leaf_count-blank_tree : (h : ℕ) → leaf_count (blank_tree h) ≡ leaves_at h
leaf_count-blank_tree zero = refl
leaf_count-blank_tree (suc h) = λ i. leaf_count-blank_tree h i + leaf_count-blank_tree h i

pub leaf_at-blank_tree : (first h j : ℕ) → leaf_at first (blank_tree h) j ≡ None
leaf_at-blank_tree first zero j = either (λ (o : Option LeafNode). o ≡ None) (j == first) None None refl refl
leaf_at-blank_tree first (suc h) j =
    either (λ (o : Option LeafNode). o ≡ None) (nat_lt j (first + leaf_count (blank_tree h))) (leaf_at first (blank_tree h) j) (leaf_at (first + leaf_count (blank_tree h)) (blank_tree h) j)
    (leaf_at-blank_tree first h j) (leaf_at-blank_tree (first + leaf_count (blank_tree h)) h j)

-- ---- a tree is made larger

pub IsPerfect-extend : (t : Tree) → IsPerfect t → IsPerfect (extend t)
IsPerfect-extend t h = (sym (height-blank_tree (height t)), h, IsPerfect-blank_tree (height t))

pub HasShape-extend : (t : Tree) → HasShape t → height t < 20 → HasShape (extend t)
HasShape-extend t s low = record { perfect = IsPerfect-extend t s.perfect; low = omega arith }

pub leaf_count-extend : (t : Tree) → IsPerfect t → leaf_count (extend t) ≡ 2 * leaf_count t
leaf_count-extend t h =
    let a = leaf_count-perfect t h in
    let b = leaf_count-blank_tree (height t) in
    omega arith

pub leaf_at-extend : (t : Tree) (j : ℕ) → leaf_at 0 (extend t) j ≡ leaf_at 0 t j
leaf_at-extend t j =
    elim (cases_lt j (leaf_count t)) [
      | inl lt ↦ below j (0 + leaf_count t) (leaf_at 0 t j) (leaf_at (0 + leaf_count t) (blank_tree (height t)) j) (omega arith)
      | inr ge ↦
          from j (0 + leaf_count t) (leaf_at 0 t j) (leaf_at (0 + leaf_count t) (blank_tree (height t)) j) (omega arith)
          ∙ leaf_at-blank_tree (0 + leaf_count t) (height t) j ∙ sym (leaf_at-past 0 t j (omega arith))
    ]

-- ---- a tree is made smaller

pub or_none : (a b : Bool) → (a || b) ≡ false → (a ≡ false) × (b ≡ false)
or_none true b e = absurd (cc)
or_none false b e = (refl, e)

pub leaf_at-none_set : (first : ℕ) (t : Tree) (j : ℕ) → has_non_blank_leaf t ≡ false → leaf_at first t j ≡ None
leaf_at-none_set first (leaf None) j e = either (λ (o : Option LeafNode). o ≡ None) (j == first) None None refl refl
leaf_at-none_set first (leaf (Some x)) j e = absurd (cc)
leaf_at-none_set first (branch l n r) j e =
    let b = or_none (has_non_blank_leaf l) (has_non_blank_leaf r) e in
    either (λ (o : Option LeafNode). o ≡ None) (nat_lt j (first + leaf_count l)) (leaf_at first l j) (leaf_at (first + leaf_count l) r j)
    (leaf_at-none_set first l j b.0) (leaf_at-none_set (first + leaf_count l) r j b.1)

pub IsPerfect-truncate : (t : Tree) → IsPerfect t → IsPerfect (truncate t)
IsPerfect-truncate (leaf x) h = h
IsPerfect-truncate (branch l n r) h = either IsPerfect (has_non_blank_leaf r) (branch l n r) (truncate l) h (IsPerfect-truncate l h.1)

pub height-truncate : (t : Tree) → height (truncate t) ≤ height t
height-truncate (leaf x) = omega arith
height-truncate (branch l n r) = either (λ t. height t ≤ suc (height l)) (has_non_blank_leaf r) (branch l n r) (truncate l) (omega arith) (let a = height-truncate l in omega arith)

pub HasShape-truncate : (t : Tree) → HasShape t → HasShape (truncate t)
HasShape-truncate t s = record { perfect = IsPerfect-truncate t s.perfect; low = let a = height-truncate t in omega arith }

shrunk : (first : ℕ) (l : Tree) (n : Option ParentNode) (r : Tree) (j : ℕ) → leaf_at first (truncate l) j ≡ leaf_at first l j
    → (b : Bool) → has_non_blank_leaf r ≡ b → leaf_at first (if b then branch l n r else truncate l) j ≡ leaf_at first (branch l n r) j
shrunk first l n r j ih true e = refl
shrunk first l n r j ih false e =
    ih
    ∙ elim (cases_lt j (first + leaf_count l)) [
      | inl lt ↦ sym (below j (first + leaf_count l) (leaf_at first l j) (leaf_at (first + leaf_count l) r j) lt)
      | inr ge ↦
          leaf_at-past first l j ge
          ∙ sym (from j (first + leaf_count l) (leaf_at first l j) (leaf_at (first + leaf_count l) r j) ge ∙ leaf_at-none_set (first + leaf_count l) r j e)
    ]

pub leaf_at-truncate : (first : ℕ) (t : Tree) (j : ℕ) → leaf_at first (truncate t) j ≡ leaf_at first t j
leaf_at-truncate first (leaf x) j = refl
leaf_at-truncate first (branch l n r) j = shrunk first l n r j (leaf_at-truncate first l j) (has_non_blank_leaf r) refl
