-- The counts of a tree that a change of the tree leaves right.
use Rattle.std.proofs.Common.{◌≡◌, ℕ, ◌+◌, ◌/◌, ◌≤◌, List, ◌++◌, length, take, drop, Result, Ok, Err, Option, Some, None, sym, ap, ◌∙◌, subst, arith}
use Rattle.std.specs.Prelude.{OnOk, OnErr}
use Rattle.std.proofs.lemmas.List.{take_at}
use Rattle.mls_nodes.specs.declared.leaf.LeafNode.{LeafNode}
use Rattle.mls_nodes.specs.declared.parent.ParentNode.{ParentNode}
use Rattle.mls_tree.specs.declared.subtree_counts.Count.{Count}
use Rattle.mls_tree.specs.declared.cached_counts.Counts.{Counts}
use Rattle.mls_tree.specs.Tree.{Tree, height, leaf_count, IsPerfect}
use Rattle.mls_tree.specs.TreeOperations.{put_leaf, put_parent, change_above, front_subtree}
use Rattle.mls_tree.specs.SubtreeCounts.{AreCounts, AreOutside}
use Rattle.mls_tree.specs.CountsModel.{AreCountsIn, AreBesideIn, AreFrontOf, AreNoMore}
use Rattle.mls_tree.proofs.Fronts.{leaf_count-front, leaves-le}
use Rattle.mls_tree.proofs.Kept.{leaf_count-put_leaf, leaf_count-put_parent, leaf_count-change_above}
use Rattle.mls_tree.proofs.Counting.{beside, beside-put_leaf, beside-put_parent, beside-change_above, AreCounts-front}

module _ (counts : Option Counts) (t u : Tree) where
  beside-in : (i : ℕ) → leaf_count u ≡ leaf_count t → ((c : Counts) → AreCounts 0 t c.list.items → AreOutside 0 u i c.list.items) → AreCountsIn counts t → AreBesideIn counts u i
  beside-in i e f ok = by_counts counts ok
    where
      by_counts : (o : Option Counts) → AreCountsIn o t → AreBesideIn o u i
      by_counts None ok = tt
      by_counts (Some c) ok = (ok.0 ∙ sym e, f c ok.1)

  front-in : leaf_count u ≤ leaf_count t → ((c : Counts) → AreCounts 0 t c.list.items → AreCounts 0 u c.list.items) → AreCountsIn counts t → AreFrontOf counts u
  front-in low f ok = by_counts counts ok
    where
      by_counts : (o : Option Counts) → AreCountsIn o t → AreFrontOf o u
      by_counts None ok = tt
      by_counts (Some c) ok = (omega (arith, ok.0, low), f c ok.1)

  -- where a leaf is replaced
  pub counts-put_leaf : (i : ℕ) (x : Option LeafNode) → u ≡ put_leaf 0 t i x → AreCountsIn counts t → AreBesideIn counts u i
  counts-put_leaf i x at =
      beside-in i (ap leaf_count at ∙ leaf_count-put_leaf 0 t i x) (λ c ok. subst (λ v. AreOutside 0 v i c.list.items) (sym at) (beside-put_leaf 0 t i x c.list.items ok))

  -- where the parents above a leaf are changed
  pub counts-change_above : (f : Option ParentNode → Option ParentNode) (i : ℕ) → u ≡ change_above f 0 t i → AreCountsIn counts t → AreBesideIn counts u i
  counts-change_above f i at =
      beside-in i (ap leaf_count at ∙ leaf_count-change_above f 0 t i) (λ c ok. subst (λ v. AreOutside 0 v i c.list.items) (sym at) (beside-change_above f 0 t i c.list.items ok))

  -- where a parent is replaced
  pub counts-put_parent : (q i : ℕ) (x : Option ParentNode) → i ≡ q / 2 → u ≡ put_parent 0 t q x → AreCountsIn counts t → AreBesideIn counts u i
  counts-put_parent q i x e at =
      beside-in i (ap leaf_count at ∙ leaf_count-put_parent 0 t q x) (λ c ok. subst (λ v. AreOutside 0 v i c.list.items) (sym at) (beside-put_parent 0 t q x i c.list.items e ok))

  -- where no node is
  pub counts-same : (i : ℕ) → u ≡ t → AreCountsIn counts t → AreBesideIn counts u i
  counts-same i at = beside-in i (ap leaf_count at) (λ c ok. subst (λ v. AreOutside 0 v i c.list.items) (sym at) (beside 0 t i c.list.items ok))

  -- where a parent is replaced, if the call isn't refused
  pub counts-if_put_parent : {A E : Type 0} (answer : Result A E) (q i : ℕ) (x : Option ParentNode) → i ≡ q / 2 → OnOk answer (u ≡ put_parent 0 t q x) → OnErr answer (u ≡ t)
      → AreCountsIn counts t → AreBesideIn counts u i
  counts-if_put_parent (Ok a) q i x e put same = counts-put_parent q i x e put
  counts-if_put_parent (Err a) q i x e put same = counts-same i same

  -- where the leftmost subtree of height h is left
  pub counts-front : (h : ℕ) → u ≡ front_subtree h t → AreCountsIn counts t → AreFrontOf counts u
  counts-front h at =
      front-in (let a = ap leaf_count at in let b = leaf_count-front h t in omega arith) (λ c ok. subst (λ v. AreCounts 0 v c.list.items) (sym at) (AreCounts-front h t c.list.items ok))

-- a tree that is not higher has no more counts
pub counts-no_more : (front whole : Option Counts) (t w : Tree) → IsPerfect t → IsPerfect w → height t ≤ height w → AreCountsIn front t → AreCountsIn whole w → AreNoMore front whole
counts-no_more None whole t w a b le x y = tt
counts-no_more (Some c) None t w a b le x y = tt
counts-no_more (Some c) (Some d) t w a b le x y = omega (arith, x.0, y.0, leaves-le t w a b le)

-- what is in a list whose slice was written
pub counts-written : (t : Tree) (cs items : List Count) (n : ℕ) → n ≡ length items → length cs ≡ length items → length items + 1 ≡ leaf_count t → AreCounts 0 t cs
    → (length (take n (cs ++ drop (length cs) items)) + 1 ≡ leaf_count t) × AreCounts 0 t (take n (cs ++ drop (length cs) items))
counts-written t cs items n len same count ok =
    let at : take n (cs ++ drop (length cs) items) ≡ cs = take_at cs (drop (length cs) items) n (same ∙ sym len) in
    (omega (arith, ap length at), subst (AreCounts 0 t) (sym at) ok)
