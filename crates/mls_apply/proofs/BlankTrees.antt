-- Subtrees with an empty resolution: their nodes are blank, and two of them at one node index are the same.
use Rattle.std.proofs.Common.{◌≡◌, ◌≢◌, ℕ, Bool, ◌+◌, ◌*◌, List, [], ◌∷◌, ◌++◌, Option, Some, None, true, false, refl, sym, ap, ◌∙◌, arith, eqb-true}
use Rattle.std.specs.Prelude.{◌==◌, not, length, option_map, option_and_then, IfSome}
use Rattle.std.specs.Bool.{OnTrue}
use Rattle.std.specs.BTreeSet.{BTreeSet, IsEmpty, contains_by}
use Rattle.std.specs.List.{filter}
use Rattle.std.specs.Ordering.{nat_cmp}
use Rattle.std.proofs.lemmas.Option.{none-some, same_Some}
use Rattle.mls_tree.specs.Tree.{Tree, leaf, branch, height, leaf_count, IsPerfect, Subtree, subtree_at}
use Rattle.mls_tree.specs.TreeInternal.{leaves_at}
use Rattle.mls_tree.specs.TreeHash.{tree_hash}
use Rattle.mls_tree.specs.TreeOperations.{blank_tree}
use Rattle.mls_tree.specs.Paths.{resolution, resolution_at, count_not_in}
use Rattle.mls_tree.specs.HashCache.{hash_by, IsRightHash}
use Rattle.mls_tree.specs.declared.hash_kind.HashKind.{HashKind}
use Rattle.mls_tree.proofs.Coordinates.{coordinates, coordinates-unique}
use Rattle.mls_tree.proofs.Trees.{subtree_at-perfect}
use Rattle.mls_apply.specs.BlankHashes.{IsBlankHash}

both_empty : (xs ys : List ℕ) → xs ++ ys ≡ [] → (xs ≡ []) × (ys ≡ [])
both_empty [] ys e = (refl, e)
both_empty (x ∷ xs) ys e = absurd (cc)

resolution-blank : (leaves first : ℕ) (t : Tree) → IsPerfect t → resolution leaves first t ≡ [] → t ≡ blank_tree (height t)
resolution-blank leaves first (leaf None) h e = refl
resolution-blank leaves first (leaf (Some x)) h e = absurd (cc)
resolution-blank leaves first (branch l None r) h e =
    let parts = both_empty (resolution leaves first l) (resolution leaves (first + leaf_count l) r) e in
    let left = resolution-blank leaves first l h.1 parts.0 in
    let right = resolution-blank leaves (first + leaf_count l) r h.2 parts.1 in
    (λ i. branch (left i) None (right i)) ∙ (λ i. branch (blank_tree (height l)) None (blank_tree (sym h.0 i)))
resolution-blank leaves first (branch l (Some p) r) h e = absurd (cc)

-- a blank subtree at a node index
record BlankAt (t : Tree) (p : ℕ) : Type 0 where
  subtree : Subtree
  stands : subtree_at 0 t p ≡ Some subtree
  blank : subtree.tree ≡ blank_tree (height subtree.tree)

blank_at : (t : Tree) → IsPerfect t → (p : ℕ) → resolution_at t p ≡ Some [] → BlankAt t p
blank_at t h p = found (subtree_at 0 t p) refl
  where
    found : (o : Option Subtree) → subtree_at 0 t p ≡ o → option_map (λ s. resolution (leaf_count t) s.first s.tree) o ≡ Some [] → BlankAt t p
    found None is e = absurd (none-some _ e)
    found (Some s) is e = record {
      subtree = s;
      stands = is;
      blank = resolution-blank (leaf_count t) s.first s.tree (subtree_at-perfect 0 t p s is h).0 (same_Some _ _ e);
    }

blank-alike : (t u : Tree) → IsPerfect t → IsPerfect u → (p : ℕ) → resolution_at t p ≡ Some [] → resolution_at u p ≡ Some [] → subtree_at 0 t p ≡ subtree_at 0 u p
blank-alike t u ht hu p a b =
    let s = blank_at t ht p a in
    let v = blank_at u hu p b in
    let c = coordinates t ht p s.subtree s.stands in
    let d = coordinates u hu p v.subtree v.stands in
    let one = coordinates-unique (height s.subtree.tree) c.number (height v.subtree.tree) d.number (sym c.node_index ∙ d.node_index) in
    let firsts : s.subtree.first ≡ v.subtree.first = c.first ∙ (λ i. one.1 i * leaves_at (one.0 i)) ∙ sym d.first in
    let trees : s.subtree.tree ≡ v.subtree.tree = s.blank ∙ ap blank_tree one.0 ∙ sym v.blank in
    s.stands ∙ (λ i. Some (record { first = firsts i; tree = trees i })) ∙ sym v.stands

-- the hash of a blank subtree in one tree is that in all
pub IsBlankHash-from : (kind : Option HashKind) (t : Tree) (p : ℕ) (h : List ℕ) → IsPerfect t → resolution_at t p ≡ Some [] → IsRightHash kind t p h → IsBlankHash kind p h
IsBlankHash-from None t p h perfect blank right u other there = right
IsBlankHash-from (Some kind) t p h perfect blank right u other there =
    ap (λ o. option_and_then (λ s. tree_hash (hash_by kind) s.first s.tree) o) (blank-alike u t other perfect p there blank) ∙ right

-- ---- the length of a resolution

none_counted : (without : BTreeSet ℕ) → IsEmpty without → (ps : List ℕ) → true ≡ (count_not_in without ps == 0) → ps ≡ []
none_counted without empty [] e = refl
none_counted without empty (p ∷ ps) e =
    let nothing : count_not_in without (p ∷ ps) ≡ 0 = eqb-true _ _ (sym e) in
    let one = ap (λ ks. length (filter (λ q. not (contains_by (nat_cmp q) (record { keys = ks }))) (p ∷ ps))) empty in
    absurd (omega (arith, nothing, one))

-- the answer that no node is counted, at a node index that there is
pub blank_if_counted : (b : Bool) (t : Tree) (p : ℕ) (without : BTreeSet ℕ) → IsEmpty without → resolution_at t p ≢ None
    → IfSome (resolution_at t p) (λ ps. b ≡ (count_not_in without ps == 0)) → OnTrue b (resolution_at t p ≡ Some [])
blank_if_counted false t p without empty some counted = tt
blank_if_counted true t p without empty some counted = found (resolution_at t p) refl counted
  where
    found : (o : Option (List ℕ)) → resolution_at t p ≡ o → IfSome o (λ ps. true ≡ (count_not_in without ps == 0)) → o ≡ Some []
    found None is e = absurd (some is)
    found (Some ps) is e = ap Some (none_counted without empty ps e)
