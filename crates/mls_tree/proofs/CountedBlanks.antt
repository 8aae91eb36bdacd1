-- What counts determine of blank leaves.
use Rattle.std.proofs.Common.{◌≡◌, ◌≢◌, ℕ, ◌+◌, ◌-◌, ◌≤◌, List, Option, Some, None, nat_lt, true, false, refl, sym, ap, ◌∙◌, subst, arith}
use Rattle.std.specs.Prelude.{if◌then◌else◌, is_some}
use Rattle.mls_nodes.specs.declared.leaf.LeafNode.{LeafNode}
use Rattle.mls_nodes.specs.declared.node.Node.{Node}
use Rattle.mls_tree.specs.Tree.{Tree, leaf, branch, leaf_count, member_count}
use Rattle.mls_tree.specs.TreeInternal.{leaves_at}
use Rattle.mls_tree.specs.NodeArray.{tree_in}
use Rattle.mls_tree.specs.declared.subtree_counts.Count.{Count}
use Rattle.mls_tree.specs.BlankLeaves.{first_of, next_blank_leaf}
use Rattle.mls_tree.specs.SubtreeCounts.{AreCounts}
use Rattle.mls_tree.proofs.Choices.{below}
use Rattle.mls_tree.proofs.Arrays.{leaf_count-tree_in}
use Rattle.mls_tree.proofs.Walking.{tree_in-split}
use Rattle.mls_tree.proofs.Counting.{member_count-low}

-- if all leaves are non-blank, none is blank
next_blank_leaf-full : (start first : ℕ) (t : Tree) → member_count t ≡ leaf_count t → next_blank_leaf start first t ≡ None
next_blank_leaf-full start first (leaf None) e = absurd (omega arith)
next_blank_leaf-full start first (leaf (Some x)) e = refl
next_blank_leaf-full start first (branch l n r) e =
    let a = next_blank_leaf-full start first l (omega (arith, member_count-low l, member_count-low r)) in
    let b = next_blank_leaf-full start (first + leaf_count l) r (omega (arith, member_count-low l, member_count-low r)) in
    λ i. first_of (a i) (b i)

-- none of the leaves below `start` is found
next_blank_leaf-late : (start first : ℕ) (t : Tree) → first + leaf_count t ≤ start → next_blank_leaf start first t ≡ None
next_blank_leaf-late start first (leaf None) e = below first start None (Some first) (omega arith)
next_blank_leaf-late start first (leaf (Some x)) e = refl
next_blank_leaf-late start first (branch l n r) e =
    let a = next_blank_leaf-late start first l (omega arith) in
    let b = next_blank_leaf-late start (first + leaf_count l) r (omega arith) in
    λ i. first_of (a i) (b i)

-- a leaf that is blank
next_blank_leaf-unset : (start first : ℕ) (x : Option LeafNode) → member_count (leaf x) ≢ 1 → next_blank_leaf start first (leaf x) ≡ (if nat_lt first start then None else Some first)
next_blank_leaf-unset start first None ne = refl
next_blank_leaf-unset start first (Some x) ne = absurd (ne refl)

-- a result that is there hides the one after it
first_of-some : (a b : Option ℕ) → is_some a ≡ true → first_of a b ≡ a
first_of-some None b e = cc
first_of-some (Some i) b e = refl

first_of-none : (a b : Option ℕ) → is_some a ≡ false → first_of a b ≡ b
first_of-none None b e = refl
first_of-none (Some i) b e = cc

module _ (xs : List (Option Node)) (first level start : ℕ) where
  pub next_blank_leaf-counted_full : (n : ℕ) → n ≡ member_count (tree_in xs level first) → n ≡ leaves_at level → next_blank_leaf start first (tree_in xs level first) ≡ None
  next_blank_leaf-counted_full n e f = next_blank_leaf-full start first (tree_in xs level first) (sym e ∙ f ∙ sym (leaf_count-tree_in xs level first))

  pub next_blank_leaf-counted_leaf : level ≡ 0 → (n : ℕ) → n ≡ member_count (tree_in xs level first) → n ≢ leaves_at level
      → next_blank_leaf start first (tree_in xs level first) ≡ (if nat_lt first start then None else Some first)
  next_blank_leaf-counted_leaf z n e ne =
      ap (λ k. next_blank_leaf start first (tree_in xs k first)) z
      ∙ next_blank_leaf-unset start first _ (λ one. ne (e ∙ ap (λ k. member_count (tree_in xs k first)) z ∙ one ∙ ap leaves_at (sym z)))

  module _ (half : ℕ) (deep : level ≢ 0) (e : half ≡ leaves_at (level - 1)) where
    halves : next_blank_leaf start first (tree_in xs level first) ≡ first_of (next_blank_leaf start first (tree_in xs (level - 1) first)) (next_blank_leaf start (first + half) (tree_in xs (level - 1) (first + half)))
    halves =
        ap (next_blank_leaf start first) (tree_in-split xs first half level deep e)
        ∙ ap (λ k. first_of (next_blank_leaf start first (tree_in xs (level - 1) first)) (next_blank_leaf start (first + k) (tree_in xs (level - 1) (first + half)))) (leaf_count-tree_in xs (level - 1) first ∙ sym e)

    -- found in the left subtree
    pub next_blank_leaf-in_left : (found : Option ℕ) → found ≡ next_blank_leaf start first (tree_in xs (level - 1) first) → is_some found ≡ true → found ≡ next_blank_leaf start first (tree_in xs level first)
    next_blank_leaf-in_left found at some = at ∙ sym (halves ∙ first_of-some _ _ (ap is_some (sym at) ∙ some))

    -- not found there
    pub next_blank_leaf-past_left : (found answer : Option ℕ) → found ≡ next_blank_leaf start first (tree_in xs (level - 1) first) → is_some found ≡ false
        → answer ≡ next_blank_leaf start (first + half) (tree_in xs (level - 1) (first + half)) → answer ≡ next_blank_leaf start first (tree_in xs level first)
    next_blank_leaf-past_left found answer at none right = right ∙ sym (halves ∙ first_of-none _ _ (ap is_some (sym at) ∙ none))

    -- not searched for there
    pub next_blank_leaf-right : (answer : Option ℕ) → first + half ≤ start → answer ≡ next_blank_leaf start (first + half) (tree_in xs (level - 1) (first + half))
        → answer ≡ next_blank_leaf start first (tree_in xs level first)
    next_blank_leaf-right answer late right =
        right ∙ sym (halves ∙ first_of-none _ _ (ap is_some (next_blank_leaf-late start first (tree_in xs (level - 1) first) (let c = leaf_count-tree_in xs (level - 1) first in omega (arith, e)))))

    -- counts of the whole contain those of the children
    pub counts-near : (cs : List Count) → AreCounts first (tree_in xs level first) cs → AreCounts first (tree_in xs (level - 1) first) cs
    counts-near cs ok = (let at = subst (λ t. AreCounts first t cs) (tree_in-split xs first half level deep e) ok in at.0)

    pub counts-far : (cs : List Count) → AreCounts first (tree_in xs level first) cs → AreCounts (first + half) (tree_in xs (level - 1) (first + half)) cs
    counts-far cs ok =
        let at = subst (λ t. AreCounts first t cs) (tree_in-split xs first half level deep e) ok in
        subst (λ k. AreCounts (first + k) (tree_in xs (level - 1) (first + half)) cs) (leaf_count-tree_in xs (level - 1) first ∙ sym e) at.1
