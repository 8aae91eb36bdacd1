-- Trees without some of their leaves.
use Rattle.std.proofs.Common.{◌≡◌, ℕ, suc, ◌+◌, cond, List, [], ◌∷◌, get_or, Option, Some, None, refl, sym, ap, arith}
use Rattle.std.specs.Prelude.{All, option_map, not, ◌==◌}
use Rattle.std.specs.List.Sorted.{IsPermutation}
use Rattle.std.proofs.lemmas.List.Sorted.{list_any-IsPermutation}
use Rattle.mls_nodes.specs.declared.parent.ParentNode.{ParentNode}
use Rattle.mls_tree.specs.Tree.{Tree, leaf, branch, leaf_count}
use Rattle.mls_hash.specs.WithoutLeaves.{is_among, without, stripped_parent, strip}

-- as many leaves as before
pub leaf_count-strip : (L : List ℕ) (first : ℕ) (t : Tree) → leaf_count (strip L first t) ≡ leaf_count t
leaf_count-strip L first (leaf x) = refl
leaf_count-strip L first (branch l p r) = λ i. leaf_count-strip L first l i + leaf_count-strip L (first + leaf_count l) r i

-- both lists have the number, or neither has
abbrev pub HaveAlike : List ℕ → List ℕ → ℕ → Type 0
HaveAlike L M i = is_among L i ≡ is_among M i

module _ (L M : List ℕ) where
  without-alike : (xs : List ℕ) → All (HaveAlike L M) xs → without L xs ≡ without M xs
  without-alike [] h = refl
  without-alike (x ∷ xs) h =
      let rest = without-alike xs (λ k d lt. h (suc k) d (omega arith)) in
      let here : HaveAlike L M x = h 0 0 (omega arith) in
      λ i. cond (not (here i)) (x ∷ rest i) (rest i)

  pub parent-alike : (n : Option ParentNode) → ((q : ParentNode) → n ≡ Some q → All (HaveAlike L M) q.unmerged) → option_map (stripped_parent L) n ≡ option_map (stripped_parent M) n
  parent-alike None h = refl
  parent-alike (Some q) h = λ i. Some (record q { unmerged = without-alike q.unmerged (h q refl) i })

  -- lists with the same members
  pub strip-same : ((i : ℕ) → HaveAlike L M i) → (first : ℕ) (t : Tree) → strip L first t ≡ strip M first t
  strip-same same first (leaf x) = λ i. leaf (cond (same first i) None x)
  strip-same same first (branch l p r) =
      λ i. branch (strip-same same first l i) (parent-alike p (λ q e k d lt. same (get_or q.unmerged k d)) i) (strip-same same (first + leaf_count l) r i)

pub strip-sorted : (L M : List ℕ) → IsPermutation L M → (first : ℕ) (t : Tree) → strip M first t ≡ strip L first t
strip-sorted L M h = strip-same M L (λ i. sym (list_any-IsPermutation (λ x. x == i) L M h))

without-none : (xs : List ℕ) → without [] xs ≡ xs
without-none [] = refl
without-none (x ∷ xs) = ap (λ ys. x ∷ ys) (without-none xs)

parent-none : (p : Option ParentNode) → option_map (stripped_parent []) p ≡ p
parent-none None = refl
parent-none (Some p) = λ i. Some (record p { unmerged = without-none p.unmerged i })

-- no leaf is left out
pub strip-none : (first : ℕ) (t : Tree) → strip [] first t ≡ t
strip-none first (leaf x) = refl
strip-none first (branch l p r) = λ i. branch (strip-none first l i) (parent-none p i) (strip-none (first + leaf_count l) r i)
