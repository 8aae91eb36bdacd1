-- What counts determine of a tree.
use Rattle.std.proofs.Common.{◌≡◌, ◌≢◌, ℕ, ◌+◌, ◌-◌, ◌<◌, List, [], ◌++◌, IsTrue, nat_lt, ltb-true, Option, Some, None, refl, sym, ap, ◌∙◌, subst, inl, inr, arith}
use Rattle.std.specs.Prelude.{◌||◌, ◌↔◌}
use Rattle.std.proofs.lemmas.Bool.{cases_lt}
use Rattle.mls_nodes.specs.declared.node.Node.{Node}
use Rattle.mls_tree.specs.declared.subtree_counts.Count.{Count}
use Rattle.mls_tree.specs.Tree.{Tree, leaf, branch, leaf_count, member_count, Subtree, subtree_at}
use Rattle.mls_tree.specs.TreeInternal.{leaves_at}
use Rattle.mls_tree.specs.NodeArray.{tree_in}
use Rattle.mls_tree.specs.TreeOperations.{has_non_blank_leaf}
use Rattle.mls_tree.specs.Paths.{resolution}
use Rattle.mls_tree.specs.SubtreeCounts.{non_blank_count, AreCounts}
use Rattle.mls_tree.specs.CountsModel.{AreCountsIfAny}
use Rattle.mls_tree.proofs.Choices.{is_less, not_less}
use Rattle.mls_tree.proofs.Arrays.{leaf_count-tree_in}
use Rattle.mls_tree.proofs.Trees.{along}
use Rattle.mls_tree.proofs.Walking.{tree_in-split, append-set, append-set_right, leaves_at-split}

-- ---- counts of the whole contain those of the children

module _ (xs : List (Option Node)) (first half level : ℕ) (deep : level ≢ 0) (e : half ≡ leaves_at (level - 1)) where
  abbrev near : Tree
  near = tree_in xs (level - 1) first

  abbrev far : Tree
  far = tree_in xs (level - 1) (first + half)

  near-count : leaf_count near ≡ half
  near-count = leaf_count-tree_in xs (level - 1) first ∙ sym e

  far-count : leaf_count far ≡ half
  far-count = leaf_count-tree_in xs (level - 1) (first + half) ∙ sym e

  pub if_any-near : (o : Option (List Count)) → AreCountsIfAny o first (tree_in xs level first) → AreCountsIfAny o first near
  if_any-near None ok = tt
  if_any-near (Some cs) ok =
      let capacity = ok.0 in
      let at = subst (λ t. AreCounts first t cs) (tree_in-split xs first half level deep e) ok.1 in
      (omega (arith, near-count, leaves_at-split level half deep e, leaf_count-tree_in xs level first), at.0)

  pub if_any-far : (o : Option (List Count)) → AreCountsIfAny o first (tree_in xs level first) → AreCountsIfAny o (first + half) far
  if_any-far None ok = tt
  if_any-far (Some cs) ok =
      let capacity = ok.0 in
      let at = subst (λ t. AreCounts first t cs) (tree_in-split xs first half level deep e) ok.1 in
      (omega (arith, far-count, leaves_at-split level half deep e, leaf_count-tree_in xs level first), subst (λ k. AreCounts (first + k) far cs) near-count at.1)

-- counts of the whole contain those of the subtree at a node index
pub if_any-subtree : (o : Option (List Count)) (first : ℕ) (t : Tree) (p : ℕ) (s : Subtree) → subtree_at first t p ≡ Some s → AreCountsIfAny o first t → AreCountsIfAny o s.first s.tree
if_any-subtree None first t p s e ok = tt
if_any-subtree (Some cs) first t p s e ok =
    along (λ first t p s. AreCountsIfAny (Some cs) first t → AreCountsIfAny (Some cs) s.first s.tree)
    (λ first t p at ok. ok)
    (λ first l n r p s lt sub ih ok. ih (let capacity = ok.0 in omega arith, ok.1.0))
    (λ first l n r p s gt sub ih ok. ih (let capacity = ok.0 in omega arith, ok.1.1))
    first t p s e ok

-- ---- what the counts determine

or_positive : (a b : ℕ) → (nat_lt 0 a || nat_lt 0 b) ≡ nat_lt 0 (a + b)
or_positive a b =
    elim (cases_lt 0 a) [
      | inl lt ↦ (λ i. is_less 0 a lt i || nat_lt 0 b) ∙ sym (is_less 0 (a + b) (omega arith))
      | inr ge ↦ (λ i. not_less 0 a ge i || nat_lt 0 b) ∙ ap (nat_lt 0) (let e : b ≡ a + b = omega arith in e)
    ]

-- a leaf is non-blank if some are
pub has_non_blank_leaf-subtree_count : (t : Tree) → has_non_blank_leaf t ≡ nat_lt 0 (member_count t)
has_non_blank_leaf-subtree_count (leaf None) = sym (not_less 0 0 (omega arith))
has_non_blank_leaf-subtree_count (leaf (Some x)) = sym (is_less 0 1 (omega arith))
has_non_blank_leaf-subtree_count (branch l n r) =
    (λ i. has_non_blank_leaf-subtree_count l i || has_non_blank_leaf-subtree_count r i) ∙ or_positive (member_count l) (member_count r)

-- a resolution is empty if and only if no node is non-blank
pub resolution-none : (leaves first : ℕ) (t : Tree) → non_blank_count t ≡ 0 → resolution leaves first t ≡ []
resolution-none leaves first (leaf None) e = refl
resolution-none leaves first (leaf (Some x)) e = absurd (omega arith)
resolution-none leaves first (branch l None r) e =
    let a = resolution-none leaves first l (omega arith) in
    let b = resolution-none leaves (first + leaf_count l) r (omega arith) in
    λ i. a i ++ b i
resolution-none leaves first (branch l (Some p) r) e = absurd (omega arith)

resolution-some : (leaves first : ℕ) (t : Tree) → 0 < non_blank_count t → resolution leaves first t ≢ []
resolution-some leaves first (leaf None) lt = absurd (omega arith)
resolution-some leaves first (leaf (Some x)) lt = λ e. cc
resolution-some leaves first (branch l None r) lt =
    elim (cases_lt 0 (non_blank_count l)) [
      | inl some ↦ append-set _ _ (resolution-some leaves first l some)
      | inr none ↦ append-set_right (resolution leaves first l) _ (resolution-some leaves (first + leaf_count l) r (omega arith))
    ]
resolution-some leaves first (branch l (Some p) r) lt = λ e. cc

pub resolution-subtree_count : (leaves first : ℕ) (t : Tree) (n : ℕ) → n ≡ non_blank_count t → IsTrue (nat_lt 0 n) ↔ (resolution leaves first t ≢ [])
resolution-subtree_count leaves first t n e = (
  λ some. resolution-some leaves first t (let lt = ltb-true 0 n some in omega arith),
  λ some. elim (cases_lt 0 n) [ inl lt ↦ is_less 0 n lt | inr ge ↦ absurd (some (resolution-none leaves first t (omega arith))) ],
)
