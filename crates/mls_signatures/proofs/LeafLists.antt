-- Signatures that a loop appends, and the leaves that a commit's list adds or replaces.
use Rattle.std.proofs.Common.{drop, get_or, length, ◌≡◌, ◌∙◌, ℕ, zero, suc, ◌+◌, ◌-◌, ◌<◌, ◌≤◌, List, [], ◌∷◌, ◌++◌, Option, Some, None, refl, sym, ap, subst, append_assoc, append-nil, add-zero, add-suc, add-one, arith}
use Rattle.std.specs.Prelude.{option_and_then}
use Rattle.std.proofs.lemmas.List.{drop_more, drop_all}
use Rattle.mls_nodes.specs.declared.leaf.LeafNode.{LeafNode}
use Rattle.mls_tree.specs.Tree.{Tree, leaf, branch, leaf_count, leaf_at}
use Rattle.mls_check.proofs.Leaves.{leaf_at-here, leaf_at-left, leaf_at-right}
use Rattle.mls_apply.specs.declared.list_item.ListItem.{ListItem}
use Rattle.mls_apply.specs.ListRules.{replaced_leaf}
use Rattle.mls_apply.specs.AppliedList.{outcome, with_members, new_members, without_adds}
use Rattle.mls_signatures.specs.AddedLeaves.{AppendsSignatures}
use Rattle.mls_signatures.specs.SignaturesToVerify.{deduplicated, index_before, replaced_leaves, non_blank_leaf_signatures, tree_signatures}
use Rattle.mls_signatures.specs.declared.signature_to_verify.SignatureToVerify.{SignatureToVerify}
use Rattle.mls_signatures.proofs.Repeats.{deduplicated-behind, extends-more}

-- ---- lists one behind another, for `count` numbers from `first` on

module _ {X : Type 0} where
  abbrev pub joined : (ℕ → List X) → ℕ → ℕ → List X
  joined f first zero = []
  joined f first (suc count) = joined f first count ++ f (first + count)

  pub joined-both : (f : ℕ → List X) (first a b : ℕ) → joined f first (a + b) ≡ joined f first a ++ joined f (first + a) b
  joined-both f first a zero = ap (joined f first) (add-zero a) ∙ sym (append-nil (joined f first a))
  joined-both f first a (suc b) =
      let at : first + (a + b) ≡ first + a + b = omega arith in
      ap (joined f first) (add-suc a b)
      ∙ (λ i. joined-both f first a b i ++ f (at i))
      ∙ append_assoc (joined f first a) (joined f (first + a) b) (f (first + a + b))

  joined-same : (f g : ℕ → List X) (first count : ℕ) → ((i : ℕ) → first ≤ i → i < first + count → f i ≡ g i) → joined f first count ≡ joined g first count
  joined-same f g first zero h = refl
  joined-same f g first (suc count) h =
      let here = h (first + count) (omega arith) (omega arith) in
      let before = joined-same f g first count (λ i from low. h i from (omega arith)) in
      λ i. before i ++ here i

module _ (suite : ℕ) (group_id : List ℕ) where
  -- those of one leaf of a tree
  abbrev pub of_leaf_in : ℕ → Tree → ℕ → List SignatureToVerify
  of_leaf_in first t i = non_blank_leaf_signatures suite group_id i (leaf_at first t i)

  -- those of a tree, leaf by leaf
  pub tree-joined : (first : ℕ) (t : Tree) → tree_signatures suite group_id first t ≡ joined (of_leaf_in first t) first (leaf_count t)
  tree-joined first (leaf y) =
      let at : first + 0 ≡ first = omega arith in
      ap (λ (o : Option LeafNode). non_blank_leaf_signatures suite group_id first o) (sym (leaf_at-here first y))
      ∙ ap (λ k. of_leaf_in first (leaf y) k) (sym at)
  tree-joined first (branch l n r) =
      let whole = of_leaf_in first (branch l n r) in
      let left = joined-same (of_leaf_in first l) whole first (leaf_count l)
      (λ i from low. ap (λ (o : Option LeafNode). non_blank_leaf_signatures suite group_id i o) (sym (leaf_at-left first l n r i low))) in
      let right = joined-same (of_leaf_in (first + leaf_count l) r) whole (first + leaf_count l) (leaf_count r)
      (λ i from low. ap (λ (o : Option LeafNode). non_blank_leaf_signatures suite group_id i o) (sym (leaf_at-right first l n r i from))) in
      (λ i. (tree-joined first l ∙ left) i ++ (tree-joined (first + leaf_count l) r ∙ right) i)
      ∙ sym (joined-both whole first (leaf_count l) (leaf_count r))

  -- those of the leaves below index n
  abbrev pub signatures_below : Tree → ℕ → List SignatureToVerify
  signatures_below t n = joined (of_leaf_in 0 t) 0 n

  -- those of the leaves from index n on
  abbrev pub signatures_from : Tree → ℕ → List SignatureToVerify
  signatures_from t n = joined (of_leaf_in 0 t) n (leaf_count t - n)

  pub below-from : (t : Tree) (n : ℕ) → n ≤ leaf_count t → tree_signatures suite group_id 0 t ≡ signatures_below t n ++ signatures_from t n
  below-from t n le =
      let all : leaf_count t ≡ n + (leaf_count t - n) = omega (arith, le) in
      let at : 0 + n ≡ n = omega arith in
      tree-joined 0 t
      ∙ ap (λ k. signatures_below t k) all
      ∙ joined-both (of_leaf_in 0 t) 0 n (leaf_count t - n)
      ∙ ap (λ k. signatures_below t n ++ joined (of_leaf_in 0 t) k (leaf_count t - n)) at

  module _ (t : Tree) (n : ℕ) (old now : List SignatureToVerify) (known : AppendsSignatures old (signatures_below t n) now) where
    pub below-next : (new : List SignatureToVerify) (o : Option LeafNode) → leaf_at 0 t n ≡ o → AppendsSignatures now (non_blank_leaf_signatures suite group_id n o) new
        → AppendsSignatures old (signatures_below t (n + 1)) new
    below-next new o e is =
        let at : 0 + n ≡ n = omega arith in
        let next : signatures_below t n ++ non_blank_leaf_signatures suite group_id n o ≡ signatures_below t (n + 1) =
        ap (λ (v : Option LeafNode). signatures_below t n ++ non_blank_leaf_signatures suite group_id n v) (sym e)
        ∙ ap (λ (ws : List SignatureToVerify). signatures_below t n ++ ws) (ap (of_leaf_in 0 t) (sym at))
        ∙ ap (λ k. signatures_below t k) (sym (add-one n)) in
        subst (λ ws. AppendsSignatures old ws new) next
        (extends-more old (signatures_below t n) now known (non_blank_leaf_signatures suite group_id n o) new is)

    pub below-all : leaf_count t ≤ n → n ≤ leaf_count t → AppendsSignatures old (tree_signatures suite group_id 0 t) now
    below-all low high =
        let all : n ≡ leaf_count t = omega arith in
        subst (λ ws. AppendsSignatures old ws now) (ap (λ k. signatures_below t k) all ∙ sym (tree-joined 0 t)) known

-- ---- lists that are gone over

module _ {A Y : Type 0} (f : List A → List Y) (g : A → List Y) (step : (x : A) (xs : List A) → f (x ∷ xs) ≡ g x ++ f xs) (none : f [] ≡ [])
    (xs : List A) (whole : List Y) (k : ℕ) (now : List Y) (known : now ++ f (drop k xs) ≡ whole) where
  pub walked-next : (x d : A) → k < length xs → x ≡ get_or xs k d → (new : List Y) → new ≡ now ++ g x → new ++ f (drop (k + 1) xs) ≡ whole
  walked-next x d low is new e =
      ap (λ (ws : List Y). ws ++ f (drop (k + 1) xs)) e
      ∙ append_assoc now (g x) (f (drop (k + 1) xs))
      ∙ ap (λ (ws : List Y). now ++ ws) (sym (step x (drop (k + 1) xs)))
      ∙ ap (λ (ys : List A). now ++ f ys) (ap (λ (y : A). y ∷ drop (k + 1) xs) is ∙ sym (drop_more xs k d low))
      ∙ known

  pub walked-all : length xs ≤ k → now ≡ whole
  walked-all end = sym (append-nil now) ∙ ap (λ (ws : List Y). now ++ ws) (sym none ∙ ap f (sym (drop_all k xs end))) ∙ known

-- signatures that are appended for each item of a list
module _ {A : Type 0} (f : List A → List SignatureToVerify) (g : A → List SignatureToVerify) (step : (x : A) (xs : List A) → f (x ∷ xs) ≡ g x ++ f xs) (none : f [] ≡ [])
    (xs : List A) (old : List SignatureToVerify) (k : ℕ) (now : List SignatureToVerify) (known : AppendsSignatures old (f xs) (now ++ f (drop k xs))) where
  pub each-next : (x d : A) → k < length xs → x ≡ get_or xs k d → (new : List SignatureToVerify) → AppendsSignatures now (g x) new
      → AppendsSignatures old (f xs) (new ++ f (drop (k + 1) xs))
  each-next x d low is new e =
      deduplicated-behind new (now ++ g x) (f (drop (k + 1) xs)) e
      ∙ ap deduplicated
      (append_assoc now (g x) (f (drop (k + 1) xs))
      ∙ ap (λ (ws : List SignatureToVerify). now ++ ws) (sym (step x (drop (k + 1) xs)))
      ∙ ap (λ (ys : List A). now ++ f ys) (ap (λ (y : A). y ∷ drop (k + 1) xs) is ∙ sym (drop_more xs k d low)))
      ∙ known

  pub each-all : length xs ≤ k → AppendsSignatures old (f xs) now
  each-all end =
      ap deduplicated (sym (append-nil now) ∙ ap (λ (ws : List SignatureToVerify). now ++ ws) (sym none ∙ ap f (sym (drop_all k xs end)))) ∙ known

before_rest : (o : Option ℕ) (js : List ℕ) → index_before o js ≡ index_before o [] ++ js
before_rest None js = refl
before_rest (Some j) js = refl

pub replaced-step : (x : ListItem) (xs : List ListItem) → replaced_leaves (x ∷ xs) ≡ replaced_leaves (x ∷ []) ++ replaced_leaves xs
replaced-step x xs = before_rest (replaced_leaf x.sender x.proposal) (replaced_leaves xs)

-- without the tree after the Updates and the Removes there is none after the list
pub outcome_none : (items : List ListItem) (t : Tree) → without_adds items t ≡ None → outcome items t ≡ None
unfolding outcome
outcome_none items t e = ap (option_and_then (with_members (new_members items))) e
