-- The tree in an array.
use Rattle.std.proofs.Common.{◌≡◌, ◌≢◌, ℕ, zero, suc, ◌+◌, ◌*◌, ◌-◌, ◌<◌, ◌≤◌, List, [], ◌∷◌, ◌++◌, length, map, drop, Option, Some, None, refl, sym, ap, ◌∙◌, subst, inl, inr, arith, append_assoc}
use Rattle.std.specs.Prelude.{slice_get, slice_set, ◌⊎◌}
use Rattle.std.proofs.lemmas.Bool.{cases_order, cases_lt}
use Rattle.std.proofs.lemmas.Option.{slice_get_cases}
use Rattle.std.proofs.lemmas.List.{drop_more, append-nil}
use Rattle.std.proofs.Math.Seq.{drop-length}
use Rattle.mls_nodes.specs.declared.leaf.LeafNode.{LeafNode}
use Rattle.mls_nodes.specs.declared.parent.ParentNode.{ParentNode}
use Rattle.mls_nodes.specs.declared.node.Node.{Node}
use Rattle.mls_nodes.specs.declared.node.Node.TheVariants.{Leaf, Parent}
use Rattle.mls_nodes.specs.NodeModel.{NodeValue}
use Rattle.mls_nodes.specs.NodeValues.{entry_value}
use Rattle.mls_tree.specs.Tree.{leaf, branch, leaf_count, listing, leaf_entry, parent_entry}
use Rattle.mls_tree.specs.TreeInternal.{leaves_at}
use Rattle.mls_tree.specs.TreeOperations.{put_leaf, put_parent}
use Rattle.mls_tree.specs.NodeArray.{leaf_part, parent_part, tree_in, IsNoLeaf, IsNoParent, IsArrayOf, height-tree_in, tree_in-perfect}
use Rattle.mls_tree.proofs.Numbers.{leaves_at-positive}
use Rattle.mls_tree.proofs.Choices.{below, from, here, before, after}
use Rattle.mls_tree.proofs.Trees.{leaf_count-perfect}

pub leaf_count-tree_in : (xs : List (Option Node)) (h first : ℕ) → leaf_count (tree_in xs h first) ≡ leaves_at h
leaf_count-tree_in xs h first = leaf_count-perfect (tree_in xs h first) (tree_in-perfect xs h first) ∙ ap leaves_at (height-tree_in xs h first)

-- a tree depends on the entries at its own node indices alone
pub tree_in-same : (xs ys : List (Option Node)) (h first : ℕ)
    → ((p : ℕ) → 2 * first ≤ p → p + 1 < 2 * (first + leaves_at h) → slice_get xs p ≡ slice_get ys p)
    → tree_in xs h first ≡ tree_in ys h first
tree_in-same xs ys zero first e = ap (λ o. leaf (leaf_part o)) (e (2 * first) (omega arith) (omega arith))
tree_in-same xs ys (suc h) first e =
    let pos = leaves_at-positive h in
    let l = tree_in-same xs ys h first (λ p a b. e p a (omega arith)) in
    let m = e (2 * (first + leaves_at h) - 1) (omega arith) (omega arith) in
    let r = tree_in-same xs ys h (first + leaves_at h) (λ p a b. e p (omega arith) (omega arith)) in
    λ i. branch (l i) (parent_part (m i)) (r i)

-- a read of a list after a write
pub slice_get-set_same : {X : Type 0} (xs : List X) (i : ℕ) (v : X) → i < length xs → slice_get (slice_set xs i v) i ≡ Some v
slice_get-set_same [] i v h = absurd (omega arith)
slice_get-set_same (x ∷ xs) zero v h = refl
slice_get-set_same (x ∷ xs) (suc i) v h = slice_get-set_same xs i v (omega arith)

pub slice_get-set_other : {X : Type 0} (xs : List X) (i p : ℕ) (v : X) → p ≢ i → slice_get (slice_set xs i v) p ≡ slice_get xs p
slice_get-set_other [] i p v h = refl
slice_get-set_other (x ∷ xs) zero zero v h = absurd (h refl)
slice_get-set_other (x ∷ xs) zero (suc p) v h = refl
slice_get-set_other (x ∷ xs) (suc i) zero v h = refl
slice_get-set_other (x ∷ xs) (suc i) (suc p) v h = slice_get-set_other xs i p v (λ e. h (omega arith))

pub slice_get-drop_at : {X : Type 0} (xs : List X) (i : ℕ) → i < length xs → (x : X) × (slice_get xs i ≡ Some x) × (drop i xs ≡ x ∷ drop (i + 1) xs)
slice_get-drop_at xs i h =
    elim ((slice_get_cases xs i).1) [
      | inl w ↦ (w.0, w.2, drop_more xs i w.0 h ∙ ap (λ v. v ∷ drop (i + 1) xs) w.3)
      | inr w ↦ absurd (omega arith)
    ]

-- a leaf of the array is written
pub tree_in-put_leaf : (xs : List (Option Node)) (h first i : ℕ) (v : Option Node) (x : Option LeafNode)
    → first ≤ i → i < first + leaves_at h → 2 * i < length xs → leaf_part (Some v) ≡ x
    → tree_in (slice_set xs (2 * i) v) h first ≡ put_leaf first (tree_in xs h first) i x
tree_in-put_leaf xs zero first i v x a b n e =
    let at : i ≡ first = omega arith in
    ap leaf (ap (λ k. leaf_part (slice_get (slice_set xs (2 * i) v) (2 * k))) (sym at) ∙ ap leaf_part (slice_get-set_same xs (2 * i) v n) ∙ e)
tree_in-put_leaf xs (suc h) first i v x a b n e =
    let ys = slice_set xs (2 * i) v in
    let pos = leaves_at-positive h in
    let count = leaf_count-tree_in xs h first in
    let m : slice_get ys (2 * (first + leaves_at h) - 1) ≡ slice_get xs (2 * (first + leaves_at h) - 1) = slice_get-set_other xs (2 * i) _ v (λ q. omega arith) in
    elim (cases_lt i (first + leaves_at h)) [
      | inl lt ↦
          (let l = tree_in-put_leaf xs h first i v x a lt n e in
          let r : tree_in ys h (first + leaves_at h) ≡ tree_in xs h (first + leaves_at h) = tree_in-same ys xs h (first + leaves_at h) (λ p c d. slice_get-set_other xs (2 * i) p v (λ q. omega arith)) in
          (λ j. branch (l j) (parent_part (m j)) (r j)) ∙ sym (below i (first + leaf_count (tree_in xs h first)) _ _ (omega arith)))
      | inr ge ↦
          (let l : tree_in ys h first ≡ tree_in xs h first = tree_in-same ys xs h first (λ p c d. slice_get-set_other xs (2 * i) p v (λ q. omega arith)) in
          let r = tree_in-put_leaf xs h (first + leaves_at h) i v x ge (omega arith) n e in
          let k : put_leaf (first + leaves_at h) (tree_in xs h (first + leaves_at h)) i x ≡ put_leaf (first + leaf_count (tree_in xs h first)) (tree_in xs h (first + leaves_at h)) i x = ap (λ c. put_leaf (first + c) (tree_in xs h (first + leaves_at h)) i x) (sym count) in
          (λ j. branch (l j) (parent_part (m j)) ((r ∙ k) j)) ∙ sym (from i (first + leaf_count (tree_in xs h first)) _ _ (omega arith)))
    ]

-- a parent of the array is written
pub tree_in-put_parent : (xs : List (Option Node)) (h first i : ℕ) (v : Option Node) (x : Option ParentNode)
    → 2 * first ≤ 2 * i + 1 → 2 * i + 2 < 2 * (first + leaves_at h) → 2 * i + 1 < length xs → parent_part (Some v) ≡ x
    → tree_in (slice_set xs (2 * i + 1) v) h first ≡ put_parent first (tree_in xs h first) (2 * i + 1) x
tree_in-put_parent xs zero first i v x a b n e = absurd (omega arith)
tree_in-put_parent xs (suc h) first i v x a b n e =
    let p = 2 * i + 1 in
    let ys = slice_set xs p v in
    let pos = leaves_at-positive h in
    let count = leaf_count-tree_in xs h first in
    let mid = 2 * (first + leaves_at h) - 1 in
    let other_l : (p < 2 * first) ⊎ (2 * (first + leaves_at h) ≤ p + 1) → tree_in ys h first ≡ tree_in xs h first
    = λ (away : (p < 2 * first) ⊎ (2 * (first + leaves_at h) ≤ p + 1)). tree_in-same ys xs h first (λ q c d. slice_get-set_other xs p q v (λ w. elim away [ inl away1 ↦ omega arith | inr away2 ↦ omega arith ])) in
    let other_r : (p < 2 * (first + leaves_at h)) → tree_in ys h (first + leaves_at h) ≡ tree_in xs h (first + leaves_at h)
    = λ away. tree_in-same ys xs h (first + leaves_at h) (λ q c d. slice_get-set_other xs p q v (λ w. omega arith)) in
    elim (cases_order (p + 1) (2 * (first + leaves_at h))) [
      | inl at ↦
          (let q : mid ≡ p = omega arith in
          let m : parent_part (slice_get ys mid) ≡ x = ap (λ k. parent_part (slice_get ys k)) q ∙ ap parent_part (slice_get-set_same xs p v n) ∙ e in
          (λ j. branch (other_l (inr (omega arith)) j) (m j) (other_r (omega arith) j)) ∙ sym (here (p + 1) (2 * (first + leaf_count (tree_in xs h first))) _ _ _ (omega arith)))
      | inr (inl lt) ↦
          (let m : slice_get ys mid ≡ slice_get xs mid = slice_get-set_other xs p mid v (λ w. omega arith) in
          let l = tree_in-put_parent xs h first i v x a (omega arith) n e in
          (λ j. branch (l j) (parent_part (m j)) (other_r (omega arith) j)) ∙ sym (before (p + 1) (2 * (first + leaf_count (tree_in xs h first))) _ _ _ (omega arith)))
      | inr (inr gt) ↦
          (let m : slice_get ys mid ≡ slice_get xs mid = slice_get-set_other xs p mid v (λ w. omega arith) in
          let r = tree_in-put_parent xs h (first + leaves_at h) i v x (omega arith) (omega arith) n e in
          let k : put_parent (first + leaves_at h) (tree_in xs h (first + leaves_at h)) p x ≡ put_parent (first + leaf_count (tree_in xs h first)) (tree_in xs h (first + leaves_at h)) p x = ap (λ c. put_parent (first + c) (tree_in xs h (first + leaves_at h)) p x) (sym count) in
          (λ j. branch (other_l (inr (omega arith)) j) (parent_part (m j)) ((r ∙ k) j)) ∙ sym (after (p + 1) (2 * (first + leaf_count (tree_in xs h first))) _ _ _ (omega arith)))
    ]

-- what is at a position of the array
abbrev pub entry_at : Option (Option Node) → Option NodeValue
entry_at None = None
entry_at (Some e) = entry_value e

pub leaf_entry-part : (o : Option (Option Node)) → IsNoParent o → leaf_entry (leaf_part o) ≡ entry_at o
leaf_entry-part None h = refl
leaf_entry-part (Some None) h = refl
leaf_entry-part (Some (Some (Leaf b))) h = refl
leaf_entry-part (Some (Some (Parent b))) h = absurd h

pub parent_entry-part : (o : Option (Option Node)) → IsNoLeaf o → parent_entry (parent_part o) ≡ entry_at o
parent_entry-part None h = refl
parent_entry-part (Some None) h = refl
parent_entry-part (Some (Some (Leaf b))) h = absurd h
parent_entry-part (Some (Some (Parent b))) h = refl

-- the array is the listing
pub listing-tree_in : (xs : List (Option Node)) (h first : ℕ)
    → ((i : ℕ) → IsNoParent (slice_get xs (2 * i))) → ((i : ℕ) → IsNoLeaf (slice_get xs (2 * i + 1)))
    → 2 * (first + leaves_at h) ≤ length xs + 1
    → map entry_value (drop (2 * first) xs) ≡ listing (tree_in xs h first) ++ map entry_value (drop (2 * (first + leaves_at h) - 1) xs)
listing-tree_in xs zero first even odd n =
    let s = slice_get-drop_at xs (2 * first) (omega arith) in
    let a : leaf_entry (leaf_part (slice_get xs (2 * first))) ≡ entry_value s.0 = leaf_entry-part _ (even first) ∙ ap entry_at s.1 in
    let k : 2 * first + 1 ≡ 2 * (first + 1) - 1 = omega arith in
    ap (λ v. map entry_value v) s.2 ∙ (λ j. sym a j ∷ map entry_value (drop (k j) xs))
listing-tree_in xs (suc h) first even odd n =
    let pos = leaves_at-positive h in
    let mid = 2 * (first + leaves_at h) - 1 in
    let i = first + leaves_at h - 1 in
    let s = slice_get-drop_at xs mid (omega arith) in
    let at : mid ≡ 2 * i + 1 = omega arith in
    let kind : IsNoLeaf (slice_get xs mid) = subst (λ k. IsNoLeaf (slice_get xs k)) (sym at) (odd i) in
    let a : entry_value s.0 ≡ parent_entry (parent_part (slice_get xs mid)) = sym (parent_entry-part _ kind ∙ ap entry_at s.1) in
    let l = listing-tree_in xs h first even odd (omega arith) in
    let r = listing-tree_in xs h (first + leaves_at h) even odd (omega arith) in
    let k : mid + 1 ≡ 2 * (first + leaves_at h) = omega arith in
    let e : 2 * (first + leaves_at h + leaves_at h) - 1 ≡ 2 * (first + (leaves_at h + leaves_at h)) - 1 = omega arith in
    let m : map entry_value (drop mid xs) ≡ parent_entry (parent_part (slice_get xs mid)) ∷ (listing (tree_in xs h (first + leaves_at h)) ++ map entry_value (drop (2 * (first + (leaves_at h + leaves_at h)) - 1) xs))
    = ap (λ v. map entry_value v) s.2 ∙ (λ j. a j ∷ map entry_value (drop (k j) xs)) ∙ ap (λ v. parent_entry (parent_part (slice_get xs mid)) ∷ v) (r ∙ ap (λ v. listing (tree_in xs h (first + leaves_at h)) ++ map entry_value (drop v xs)) e) in
    l ∙ ap (λ v. listing (tree_in xs h first) ++ v) m ∙ sym (append_assoc (listing (tree_in xs h first)) _ _)

pub listing-array : (xs : List (Option Node)) (h : ℕ) → IsArrayOf xs h → map entry_value xs ≡ listing (tree_in xs h 0)
listing-array xs h ok =
    let n : 2 * (0 + leaves_at h) - 1 ≡ length xs = omega (arith, ok.long) in
    listing-tree_in xs h 0 ok.even ok.odd (omega (arith, ok.long))
    ∙ ap (λ k. listing (tree_in xs h 0) ++ map entry_value (drop k xs)) n
    ∙ simp (drop-length, append-nil)
