-- A list of nodes is the listing of at most one tree.
use Rattle.std.proofs.Common.{◌≡◌, ℕ, List, [], ◌∷◌, ◌++◌, length, Option, Some, None, refl, sym, ap, ◌∙◌, arith}
use Rattle.mls_nodes.specs.declared.leaf.LeafNode.{LeafNode}
use Rattle.mls_nodes.specs.declared.parent.ParentNode.{ParentNode}
use Rattle.mls_tree.specs.Tree.{Tree, leaf, branch, height, IsPerfect, listing, leaf_entry, parent_entry}
use Rattle.mls_tree.specs.TreeInternal.{leaves_at}
use Rattle.mls_tree.specs.RatchetTree.{RatchetTree}
use Rattle.mls_tree.specs.RatchetTreeInternal.{RatchetTree-same}
use Rattle.mls_tree.proofs.Trees.{length-listing, leaf_count-perfect}
use Rattle.mls_tree.proofs.Coordinates.{coordinates-unique}

append-same : {X : Type 0} (xs zs ys ws : List X) → length xs ≡ length zs → xs ++ ys ≡ zs ++ ws → (xs ≡ zs) × (ys ≡ ws)
append-same [] [] ys ws n e = (refl, e)
append-same [] (z ∷ zs) ys ws n e = absurd (omega arith)
append-same (x ∷ xs) [] ys ws n e = absurd (omega arith)
append-same (x ∷ xs) (z ∷ zs) ys ws n e =
    let h = append-same xs zs ys ws (omega arith) (cc) in
    let q : x ≡ z = cc in
    ((λ i. q i ∷ h.0 i), h.1)

leaf_entry-same : (x y : Option LeafNode) → leaf_entry x ≡ leaf_entry y → x ≡ y
leaf_entry-same None None e = refl
leaf_entry-same None (Some y) e = absurd (cc)
leaf_entry-same (Some x) None e = absurd (cc)
leaf_entry-same (Some x) (Some y) e = let q : x ≡ y = cc in ap (λ v. Some v) q

parent_entry-same : (x y : Option ParentNode) → parent_entry x ≡ parent_entry y → x ≡ y
parent_entry-same None None e = refl
parent_entry-same None (Some y) e = absurd (cc)
parent_entry-same (Some x) None e = absurd (cc)
parent_entry-same (Some x) (Some y) e = let q : x ≡ y = cc in ap (λ v. Some v) q

listing-same : (s t : Tree) → IsPerfect s → IsPerfect t → height s ≡ height t → listing s ≡ listing t → s ≡ t
listing-same (leaf x) (leaf y) p q h e = ap (λ v. leaf v) (leaf_entry-same x y (cc))
listing-same (leaf x) (branch l n r) p q h e = absurd (omega arith)
listing-same (branch l n r) (leaf x) p q h e = absurd (omega arith)
listing-same (branch l n r) (branch m o s) p q h e =
    let g : height l ≡ height m = omega arith in
    let k : height r ≡ height s = sym p.0 ∙ g ∙ q.0 in
    let d : leaves_at (height l) ≡ leaves_at (height m) = ap leaves_at g in
    let n1 : length (listing l) ≡ length (listing m) = omega (arith, length-listing l, length-listing m, leaf_count-perfect l p.1, leaf_count-perfect m q.1) in
    let parts = append-same (listing l) (listing m) (parent_entry n ∷ listing r) (parent_entry o ∷ listing s) n1 e in
    let mid : parent_entry n ≡ parent_entry o = cc (parts.1) in
    let rest : listing r ≡ listing s = cc (parts.1) in
    let a = listing-same l m p.1 q.1 g parts.0 in
    let b = parent_entry-same n o mid in
    let c = listing-same r s p.2 q.2 k rest in
    λ i. branch (a i) (b i) (c i)

height-same : (h k : ℕ) → leaves_at h ≡ leaves_at k → h ≡ k
height-same h k e = (coordinates-unique h 0 k 0 (omega arith)).0

pub RatchetTree-listing : (s t : RatchetTree) → listing s.tree ≡ listing t.tree → s ≡ t
RatchetTree-listing s t e =
    let n = ap length e in
    let h = height-same (height s.tree) (height t.tree)
    (omega (arith, length-listing s.tree, length-listing t.tree, leaf_count-perfect s.tree s.shape.perfect, leaf_count-perfect t.tree t.shape.perfect)) in
    RatchetTree-same s t (listing-same s.tree t.tree s.shape.perfect t.shape.perfect h e)
