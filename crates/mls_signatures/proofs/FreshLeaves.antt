-- Those leaves of a list's Adds whose leaf node is not from a KeyPackage, and their signatures.
use Rattle.std.proofs.Common.{◌≡◌, ◌∙◌, ℕ, ◌+◌, ◌<◌, ◌≤◌, List, [], ◌∷◌, ◌++◌, take, get_or, length, Bool, true, false, cond, Some, refl, sym, ap, subst, append-nil}
use Rattle.std.specs.Prelude.{◌==◌, ◌&&◌, ◌||◌, filter}
use Rattle.std.specs.BTreeSet as set
use Rattle.std.specs.List.{list_any}
use Rattle.std.specs.BTreeMap.{is_at}
use Rattle.std.specs.Ordering.{nat_cmp}
use Rattle.std.specs.Cmp.{unsigned_ties}
use Rattle.std.proofs.lemmas.Bool.{eqb-true, false≢true}
use Rattle.std.proofs.lemmas.List.{take_more, take_all, map-append}
use Rattle.std.proofs.lemmas.List.Elements.{filter-append, filter_agree}
use Rattle.std.proofs.lemmas.List.Folds.{list_any-append}
use Rattle.mls_tree.specs.Tree.{Tree, leaf_at}
use Rattle.mls_signatures.specs.AddedLeaves.{AreAdded, AppendsSignatures, added_signatures, indices, is_other, other_leaves}
use Rattle.mls_signatures.specs.SignaturesToVerify.{depends_on_index, is_fresh_leaf, leaf_signatures, non_blank_leaf_signatures, signatures_at}
use Rattle.mls_signatures.specs.declared.added_leaves.AddedLeaf.{AddedLeaf}
use Rattle.mls_signatures.specs.declared.signature_to_verify.SignatureToVerify.{SignatureToVerify}
use Rattle.mls_signatures.proofs.AddedLeaves.{signatures_at-both}
use Rattle.mls_signatures.proofs.ListedIndices.{AllIn, all_in_itself, is_in}
use Rattle.mls_signatures.proofs.Repeats.{extends-more}

-- ---- walks

-- a set of the leaf indices, in a walk along the leaves
abbrev pub HasOthers : List AddedLeaf → ℕ → set.BTreeSet ℕ → Type 0
HasOthers xs i others = (j : ℕ) → set.contains nat_cmp others j ≡ is_in (indices (other_leaves (take i xs))) j

pub others-start : (xs : List AddedLeaf) (others : set.BTreeSet ℕ) → set.IsEmpty others → HasOthers xs 0 others
others-start xs others empty j = ap (λ (ks : List ℕ). list_any (is_at (nat_cmp j)) ks) empty

indices_both : (ys zs : List AddedLeaf) (j : ℕ) → is_in (indices (ys ++ zs)) j ≡ (is_in (indices ys) j || is_in (indices zs) j)
indices_both ys zs j =
    ap (λ (js : List ℕ). is_in js j) (map-append (λ (y : AddedLeaf). y.index) ys zs) ∙ list_any-append (λ k. k == j) (indices ys) (indices zs)

none_more : (b : Bool) → b ≡ (b || false)
none_more true = refl
none_more false = refl

one_more : (a b : Bool) → cond a true b ≡ (b || (a || false))
one_more true true = refl
one_more true false = refl
one_more false true = refl
one_more false false = refl

module _ (xs : List AddedLeaf) (i : ℕ) (x : AddedLeaf) (low : i < length xs) (is : x ≡ get_or xs i x) where
  others_next : other_leaves (take (i + 1) xs) ≡ other_leaves (take i xs) ++ cond (is_other x) (x ∷ []) []
  others_next =
      ap other_leaves (take_more xs i x low ∙ ap (λ (y : AddedLeaf). take i xs ++ y ∷ []) (sym is))
      ∙ filter-append is_other (take i xs) (x ∷ [])

  at_next : (b : Bool) → is_other x ≡ b → (j : ℕ)
      → is_in (indices (other_leaves (take (i + 1) xs))) j ≡ (is_in (indices (other_leaves (take i xs))) j || is_in (indices (cond b (x ∷ []) [])) j)
  at_next b e j =
      ap (λ (ys : List AddedLeaf). is_in (indices ys) j) (others_next ∙ ap (λ c. other_leaves (take i xs) ++ cond c (x ∷ []) []) e)
      ∙ indices_both (other_leaves (take i xs)) (cond b (x ∷ []) []) j

  pub others-skip : (others : set.BTreeSet ℕ) → HasOthers xs i others → is_other x ≡ false → HasOthers xs (i + 1) others
  others-skip others known e j = known j ∙ none_more (is_in (indices (other_leaves (take i xs))) j) ∙ sym (at_next false e j)

  pub others-more : (others next : set.BTreeSet ℕ) → HasOthers xs i others → is_other x ≡ true
      → ((q : ℕ) → set.contains nat_cmp next q ≡ cond (is_at (nat_cmp x.index) q) true (set.contains nat_cmp others q)) → HasOthers xs (i + 1) next
  others-more others next known e update j =
      update j
      ∙ (λ k. cond (sym (unsigned_ties x.index j) k) true (known j k))
      ∙ one_more (x.index == j) (is_in (indices (other_leaves (take i xs))) j)
      ∙ sym (at_next true e j)

pub others-all : (xs : List AddedLeaf) (i : ℕ) (others : set.BTreeSet ℕ) → HasOthers xs i others → length xs ≤ i
    → (j : ℕ) → set.contains nat_cmp others j ≡ is_in (indices (other_leaves xs)) j
others-all xs i others known past j = known j ∙ ap (λ (ys : List AddedLeaf). is_in (indices (other_leaves ys)) j) (take_all i xs past)

-- ---- the leaf indices of the tree

module _ (t : Tree) where
  module _ (x : AddedLeaf) (j : ℕ) (at : leaf_at 0 t x.index ≡ Some x.leaf.now) (rest others : Bool) (known : others ≡ (rest && depends_on_index (leaf_at 0 t j))) where
    here : (x.index == j) ≡ true → depends_on_index (leaf_at 0 t j) ≡ is_other x
    here e = ap (λ k. depends_on_index (leaf_at 0 t k)) (sym (eqb-true x.index j e)) ∙ ap depends_on_index at

    both_false : (d : Bool) → d ≡ false → (rest && d) ≡ d
    both_false true e = absurd (false≢true (sym e))
    both_false false e = go rest
      where
        go : (b : Bool) → (b && false) ≡ false
        go true = refl
        go false = refl

    one_test : (b e : Bool) → is_other x ≡ b → (x.index == j) ≡ e
        → cond b (e || others) others ≡ ((e || rest) && depends_on_index (leaf_at 0 t j))
    one_test true true p q = sym (here q ∙ p)
    one_test true false p q = known
    one_test false true p q = known ∙ both_false (depends_on_index (leaf_at 0 t j)) (here q ∙ p)
    one_test false false p q = known

  moved : (b : Bool) (x : AddedLeaf) (ys : List AddedLeaf) (j : ℕ) → is_in (indices (cond b (x ∷ ys) ys)) j ≡ cond b ((x.index == j) || is_in (indices ys) j) (is_in (indices ys) j)
  moved true x ys j = refl
  moved false x ys j = refl

  others_are : (xs : List AddedLeaf) → AreAdded t xs → (j : ℕ)
      → is_in (indices (other_leaves xs)) j ≡ is_fresh_leaf (indices xs) t j
  others_are [] a j = refl
  others_are (x ∷ xs) a j =
      moved (is_other x) x (other_leaves xs) j
      ∙ one_test x j a.0 (is_in (indices xs) j) (is_in (indices (other_leaves xs)) j) (others_are xs a.1 j) (is_other x) (x.index == j) refl refl

  -- those that a set of them keeps
  pub kept_are : (xs : List AddedLeaf) → AreAdded t xs → (others : set.BTreeSet ℕ) → ((j : ℕ) → set.contains nat_cmp others j ≡ is_in (indices (other_leaves xs)) j)
      → (js : List ℕ) → filter (set.contains nat_cmp others) js ≡ filter (is_fresh_leaf (indices xs) t) js
  kept_are xs a others has js =
      filter_agree (set.contains nat_cmp others) (is_fresh_leaf (indices xs) t) (λ j. has j ∙ others_are xs a j) js

-- ---- signatures

module _ (suite : ℕ) (group_id : List ℕ) where
  -- those of the leaves that are not from a KeyPackage
  abbrev pub of_others : List AddedLeaf → List SignatureToVerify
  of_others xs = added_signatures suite group_id (other_leaves xs)

  others_step : (x : AddedLeaf) (ys : List AddedLeaf) (b : Bool)
      → added_signatures suite group_id (cond b (x ∷ ys) ys) ≡ added_signatures suite group_id (cond b (x ∷ []) []) ++ added_signatures suite group_id ys
  others_step x ys true =
      ap (λ (ws : List SignatureToVerify). ws ++ added_signatures suite group_id ys) (sym (append-nil (leaf_signatures suite group_id x.index x.leaf.now)))
  others_step x ys false = refl

  pub of_others-step : (x : AddedLeaf) (xs : List AddedLeaf) → of_others (x ∷ xs) ≡ of_others (x ∷ []) ++ of_others xs
  of_others-step x xs = others_step x (other_leaves xs) (is_other x)

  pub of_others-one : (x : AddedLeaf) → is_other x ≡ true → leaf_signatures suite group_id x.index x.leaf.now ≡ of_others (x ∷ [])
  of_others-one x e =
      sym (append-nil (leaf_signatures suite group_id x.index x.leaf.now)) ∙ ap (λ b. added_signatures suite group_id (cond b (x ∷ []) [])) (sym e)

  pub of_others-none : (x : AddedLeaf) → is_other x ≡ false → of_others (x ∷ []) ≡ []
  of_others-none x e = ap (λ b. added_signatures suite group_id (cond b (x ∷ []) [])) e

  -- they are those of the tree
  module _ (t : Tree) where
    same_leaf : (b : Bool) (x : AddedLeaf) (ys : List AddedLeaf) (js : List ℕ) → leaf_at 0 t x.index ≡ Some x.leaf.now → added_signatures suite group_id ys ≡ signatures_at suite group_id t js
        → added_signatures suite group_id (cond b (x ∷ ys) ys) ≡ signatures_at suite group_id t (cond b (x.index ∷ js) js)
    same_leaf true x ys js at same = λ i. non_blank_leaf_signatures suite group_id x.index (sym at i) ++ same i
    same_leaf false x ys js at same = same

    of_part : (ws : List ℕ) (xs : List AddedLeaf) → AreAdded t xs → AllIn ws (indices xs)
        → of_others xs ≡ signatures_at suite group_id t (filter (is_fresh_leaf ws t) (indices xs))
    of_part ws [] a m = refl
    of_part ws (x ∷ xs) a m =
        let test : is_fresh_leaf ws t x.index ≡ is_other x = λ i. m.0 i && depends_on_index (a.0 i) in
        let js = filter (is_fresh_leaf ws t) (indices xs) in
        same_leaf (is_other x) x (other_leaves xs) js a.0 (of_part ws xs a.1 m.1)
        ∙ ap (λ b. signatures_at suite group_id t (cond b (x.index ∷ js) js)) (sym test)

    pub fresh_extends : (replaced : List ℕ) (xs : List AddedLeaf) → AreAdded t xs → (old first new : List SignatureToVerify)
        → AppendsSignatures old (signatures_at suite group_id t (filter (is_fresh_leaf (indices xs) t) replaced)) first → AppendsSignatures first (of_others xs) new
        → AppendsSignatures old (signatures_at suite group_id t (filter (is_fresh_leaf (indices xs) t) (replaced ++ indices xs))) new
    fresh_extends replaced xs a old first new e f =
        let p = is_fresh_leaf (indices xs) t in
        subst (λ ws. AppendsSignatures old ws new)
        (ap (λ ws. signatures_at suite group_id t (filter p replaced) ++ ws) (of_part (indices xs) xs a (all_in_itself (indices xs)))
        ∙ sym (signatures_at-both suite group_id t (filter p replaced) (filter p (indices xs)))
        ∙ ap (signatures_at suite group_id t) (sym (filter-append p replaced (indices xs))))
        (extends-more old (signatures_at suite group_id t (filter p replaced)) first e (of_others xs) new f)
