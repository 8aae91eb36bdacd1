-- Members whose leaves are put first, and added to the unmerged lists after that.
use Rattle.std.proofs.Common.{◌≡◌, ◌∙◌, ℕ, ◌+◌, ◌<◌, ◌≤◌, Bool, true, false, nat_lt, List, [], ◌∷◌, ◌++◌, Option, Some, None, IsSome, refl, sym, ap, subst, inl, inr, arith}
use Rattle.std.specs.Prelude.{if◌then◌else◌, ◌||◌, All, AllPairs, MatchOption}
use Rattle.std.specs.List.Sorted.{IsStrictlyIncreasing}
use Rattle.std.proofs.lemmas.Bool.{cases_lt}
use Rattle.std.proofs.lemmas.List.Elements.{All-nil, All-head, All-tail, All-push, All-weaker}
use Rattle.std.proofs.lemmas.List.Quantifiers.{all_pairs_push}
use Rattle.mls_nodes.specs.declared.leaf.LeafNode.{LeafNode}
use Rattle.mls_nodes.specs.declared.parent.ParentNode.{ParentNode}
use Rattle.mls_tree.specs.Tree.{Tree, leaf, branch, height, leaf_count, leaf_at}
use Rattle.mls_tree.specs.BlankLeaves.{first_of, first_blank_leaf, IsFirstBlank, AllLeavesNonBlank, AreNonBlankBelow}
use Rattle.mls_tree.specs.TreeOperations.{put_leaf, change_above, with_unmerged, add_unmerged, add_all_unmerged, overfills, is_overfilled, is_overfilled_above, blank_tree, extend, add, add_at, added_leaf, extended_if_full, number_or}
use Rattle.mls_tree.proofs.Choices.{below, from}
use Rattle.mls_tree.proofs.Kept.{either, leaf_count-change_above, height-change_above, leaf_at-change_above, leaf_count-put_leaf}
use Rattle.mls_tree.proofs.Added.{add-set_below}
use Rattle.mls_tree.proofs.FirstBlanks.{first_blank_leaf-leftmost}
use Rattle.mls_tree.proofs.MergedLists.{before-all}
use Rattle.mls_tree.proofs.MergedParents.{overfills-extend}
use Rattle.mls_apply.specs.AddSteps.{is_overfull_add, PutsMember}

-- ---- a leaf is put, and the parents above a leaf are changed

module _ (f : Option ParentNode → Option ParentNode) (x : Option LeafNode) (i j : ℕ) where
  pub change_above-put_leaf : (first : ℕ) (t : Tree) → change_above f first (put_leaf first t j x) i ≡ put_leaf first (change_above f first t i) j x
  change_above-put_leaf first (leaf y) = refl
  change_above-put_leaf first (branch l n r) =
      let m = first + leaf_count l in
      let pl = put_leaf first l j x in
      let pr = put_leaf m r j x in
      let cl = change_above f first l i in
      let cr = change_above f m r i in
      let count_p = leaf_count-put_leaf first l j x in
      let count_c = leaf_count-change_above f first l i in
      elim (cases_lt i m) [
        | inl lt ↦
            elim (cases_lt j m) [
              | inl low ↦
                  ap (λ t. change_above f first t i) (below j m (branch pl n r) (branch l n pr) low)
                  ∙ below i (first + leaf_count pl) (branch (change_above f first pl i) (f n) r) (branch pl (f n) (change_above f (first + leaf_count pl) r i)) (omega arith)
                  ∙ ap (λ t. branch t (f n) r) (change_above-put_leaf first l)
                  ∙ sym
                  (ap (λ t. put_leaf first t j x) (below i m (branch cl (f n) r) (branch l (f n) cr) lt)
                  ∙ below j (first + leaf_count cl) (branch (put_leaf first cl j x) (f n) r) (branch cl (f n) (put_leaf (first + leaf_count cl) r j x)) (omega arith))
              | inr high ↦
                  ap (λ t. change_above f first t i) (from j m (branch pl n r) (branch l n pr) high)
                  ∙ below i m (branch cl (f n) pr) (branch l (f n) (change_above f m pr i)) lt
                  ∙ sym
                  (ap (λ t. put_leaf first t j x) (below i m (branch cl (f n) r) (branch l (f n) cr) lt)
                  ∙ from j (first + leaf_count cl) (branch (put_leaf first cl j x) (f n) r) (branch cl (f n) (put_leaf (first + leaf_count cl) r j x)) (omega arith)
                  ∙ ap (λ k. branch cl (f n) (put_leaf (first + k) r j x)) count_c)
            ]
        | inr ge ↦
            elim (cases_lt j m) [
              | inl low ↦
                  ap (λ t. change_above f first t i) (below j m (branch pl n r) (branch l n pr) low)
                  ∙ from i (first + leaf_count pl) (branch (change_above f first pl i) (f n) r) (branch pl (f n) (change_above f (first + leaf_count pl) r i)) (omega arith)
                  ∙ ap (λ k. branch pl (f n) (change_above f (first + k) r i)) count_p
                  ∙ sym
                  (ap (λ t. put_leaf first t j x) (from i m (branch cl (f n) r) (branch l (f n) cr) ge)
                  ∙ below j m (branch pl (f n) cr) (branch l (f n) (put_leaf m cr j x)) low)
              | inr high ↦
                  ap (λ t. change_above f first t i) (from j m (branch pl n r) (branch l n pr) high)
                  ∙ from i m (branch cl (f n) pr) (branch l (f n) (change_above f m pr i)) ge
                  ∙ ap (λ t. branch l (f n) t) (change_above-put_leaf m r)
                  ∙ sym
                  (ap (λ t. put_leaf first t j x) (from i m (branch cl (f n) r) (branch l (f n) cr) ge)
                  ∙ from j m (branch pl (f n) cr) (branch l (f n) (put_leaf m cr j x)) high)
            ]
      ]

is_overfilled_above-put_leaf : (first : ℕ) (t : Tree) (i j : ℕ) (x : Option LeafNode) → is_overfilled_above first (put_leaf first t j x) i ≡ is_overfilled_above first t i
is_overfilled_above-put_leaf first (leaf y) i j x = refl
is_overfilled_above-put_leaf first (branch l n r) i j x =
    let m = first + leaf_count l in
    let c = leaf_count-put_leaf first l j x in
    let a = is_overfilled_above-put_leaf first l i j x in
    let b = is_overfilled_above-put_leaf m r i j x in
    either (λ t. is_overfilled_above first t i ≡ is_overfilled_above first (branch l n r) i) (nat_lt j m) (branch (put_leaf first l j x) n r) (branch l n (put_leaf m r j x))
    (λ k. (if nat_lt i (first + c k) then a k else is_overfilled_above (first + c k) r i) || is_overfilled i n)
    (λ k. (if nat_lt i m then is_overfilled_above first l i else b k) || is_overfilled i n)

-- ---- the parents above a leaf are changed, in a tree that is extended

or_nothing : (b : Bool) → (b || false) ≡ b
or_nothing true = refl
or_nothing false = refl

or_assoc : (a b c : Bool) → ((a || b) || c) ≡ (a || (b || c))
or_assoc true b c = refl
or_assoc false b c = refl

module _ (t : Tree) (i : ℕ) (inside : i < leaf_count t) where
  add_unmerged-extend : add_unmerged (extend t) i ≡ extend (add_unmerged t i)
  add_unmerged-extend =
      let f = with_unmerged i in
      let right = blank_tree (height t) in
      below i (0 + leaf_count t) (branch (change_above f 0 t i) None right) (branch t None (change_above f (0 + leaf_count t) right i)) (omega arith)
      ∙ ap (λ h. branch (change_above f 0 t i) None (blank_tree h)) (sym (height-change_above f 0 t i))

-- ---- several leaf indices are added

first_blank_leaf-change_above : (f : Option ParentNode → Option ParentNode) (first : ℕ) (t : Tree) (i : ℕ) → first_blank_leaf first (change_above f first t i) ≡ first_blank_leaf first t
first_blank_leaf-change_above f first (leaf y) i = refl
first_blank_leaf-change_above f first (branch l n r) i =
    let m = first + leaf_count l in
    let c = leaf_count-change_above f first l i in
    let a = first_blank_leaf-change_above f first l i in
    let b = first_blank_leaf-change_above f m r i in
    either (λ t. first_blank_leaf first t ≡ first_blank_leaf first (branch l n r)) (nat_lt i m) (branch (change_above f first l i) (f n) r) (branch l (f n) (change_above f m r i))
    (λ k. first_of (a k) (first_blank_leaf (first + c k) r))
    (λ k. first_of (first_blank_leaf first l) (b k))

leaf_count-add_all : (is : List ℕ) (t : Tree) → leaf_count (add_all_unmerged is t) ≡ leaf_count t
leaf_count-add_all [] t = refl
leaf_count-add_all (i ∷ is) t = leaf_count-add_all is (add_unmerged t i) ∙ leaf_count-change_above (with_unmerged i) 0 t i

first_blank_leaf-add_all : (is : List ℕ) (t : Tree) → first_blank_leaf 0 (add_all_unmerged is t) ≡ first_blank_leaf 0 t
first_blank_leaf-add_all [] t = refl
first_blank_leaf-add_all (i ∷ is) t = first_blank_leaf-add_all is (add_unmerged t i) ∙ first_blank_leaf-change_above (with_unmerged i) 0 t i

add_all-append : (is js : List ℕ) (t : Tree) → add_all_unmerged (is ++ js) t ≡ add_all_unmerged js (add_all_unmerged is t)
add_all-append [] js t = refl
add_all-append (i ∷ is) js t = add_all-append is js (add_unmerged t i)

add_all-put_leaf : (is : List ℕ) (t : Tree) (j : ℕ) (x : Option LeafNode) → add_all_unmerged is (put_leaf 0 t j x) ≡ put_leaf 0 (add_all_unmerged is t) j x
add_all-put_leaf [] t j x = refl
add_all-put_leaf (i ∷ is) t j x = ap (add_all_unmerged is) (change_above-put_leaf (with_unmerged i) x i j 0 t) ∙ add_all-put_leaf is (add_unmerged t i) j x

-- leaves that the tree has are leaves of it with one leaf index added
still_inside : (i : ℕ) (is : List ℕ) (t : Tree) → All (λ k. k < leaf_count t) (i ∷ is) → All (λ k. k < leaf_count (add_unmerged t i)) is
still_inside i is t h =
    let count = leaf_count-change_above (with_unmerged i) 0 t i in
    All-weaker (λ k. k < leaf_count t) (λ k. k < leaf_count (add_unmerged t i)) (λ k lt. omega arith) is (All-tail (λ k. k < leaf_count t) i is h)

add_all-extend : (is : List ℕ) (t : Tree) → All (λ k. k < leaf_count t) is → add_all_unmerged is (extend t) ≡ extend (add_all_unmerged is t)
add_all-extend [] t h = refl
add_all-extend (i ∷ is) t h =
    ap (add_all_unmerged is) (add_unmerged-extend t i (All-head (λ k. k < leaf_count t) i is h)) ∙ add_all-extend is (add_unmerged t i) (still_inside i is t h)

overfills-append : (is js : List ℕ) (t : Tree) → overfills (is ++ js) t ≡ (overfills is t || overfills js (add_all_unmerged is t))
overfills-append [] js t = refl
overfills-append (i ∷ is) js t =
    ap (λ b. is_overfilled_above 0 t i || b) (overfills-append is js (add_unmerged t i))
    ∙ sym (or_assoc (is_overfilled_above 0 t i) (overfills is (add_unmerged t i)) (overfills js (add_all_unmerged is (add_unmerged t i))))

pub overfills-put_leaf : (is : List ℕ) (t : Tree) (j : ℕ) (x : Option LeafNode) → overfills is (put_leaf 0 t j x) ≡ overfills is t
overfills-put_leaf [] t j x = refl
overfills-put_leaf (i ∷ is) t j x =
    λ k. is_overfilled_above-put_leaf 0 t i j x k || (ap (overfills is) (change_above-put_leaf (with_unmerged i) x i j 0 t) ∙ overfills-put_leaf is (add_unmerged t i) j x) k

-- ---- one more member

module _ (t : Tree) (added : List ℕ) (inside : All (λ i. i < leaf_count t) added) where
  abbrev listed : Tree
  listed = add_all_unmerged added t

  added_leaf-listed : added_leaf listed ≡ added_leaf t
  added_leaf-listed = λ k. number_or (leaf_count-add_all added t k) (first_blank_leaf-add_all added t k)

  extended-listed : (o : Option ℕ) → add_all_unmerged added (extended_if_full o t) ≡ extended_if_full o listed
  extended-listed None = add_all-extend added t inside
  extended-listed (Some i) = refl

  overfills-extended : (o : Option ℕ) → overfills added (extended_if_full o t) ≡ overfills added t
  overfills-extended None = overfills-extend added t ∙ ap (λ js. overfills js t) (before-all (leaf_count t) added inside).0
  overfills-extended (Some i) = refl

  module _ (x : LeafNode) where
    abbrev wide : Tree
    wide = extended_if_full (first_blank_leaf 0 t) t

    abbrev one : ℕ
    one = added_leaf t

    abbrev seated : Tree
    seated = put_leaf 0 wide one (Some x)

    add_all-seated : add_all_unmerged (added ++ one ∷ []) seated ≡ add listed x
    add_all-seated =
        add_all-append added (one ∷ []) seated
        ∙ ap (λ u. add_unmerged u one) (add_all-put_leaf added wide one (Some x))
        ∙ change_above-put_leaf (with_unmerged one) (Some x) one one 0 (add_all_unmerged added wide)
        ∙ ap (λ u. add_at u one x) (extended-listed (first_blank_leaf 0 t))
        ∙ (λ k. add_at (extended_if_full (sym (first_blank_leaf-add_all added t) k) listed) (sym added_leaf-listed k) x)

    overfills-seated : overfills (added ++ one ∷ []) seated ≡ (overfills added t || is_overfull_add listed)
    overfills-seated =
        overfills-append added (one ∷ []) seated
        ∙ (λ k. (overfills-put_leaf added wide one (Some x) ∙ overfills-extended (first_blank_leaf 0 t)) k || or_nothing (is_overfilled_above 0 (add_all-put_leaf added wide one (Some x) k) one) k)
        ∙ ap (λ b. overfills added t || b)
        (is_overfilled_above-put_leaf 0 (add_all_unmerged added wide) one one (Some x)
        ∙ ap (λ u. is_overfilled_above 0 u one) (extended-listed (first_blank_leaf 0 t))
        ∙ (λ k. is_overfilled_above 0 (extended_if_full (sym (first_blank_leaf-add_all added t) k) listed) (sym added_leaf-listed k)))

    module _ (j : ℕ) (u : Tree) (p : PutsMember t x j u) where
      pub put-index : j ≡ added_leaf listed
      put-index = p.index ∙ sym added_leaf-listed

      pub put-listed : add_all_unmerged (added ++ j ∷ []) u ≡ add listed x
      put-listed =
          ap (add_all_unmerged (added ++ j ∷ [])) p.tree ∙ (λ k. add_all_unmerged (added ++ p.index k ∷ []) (put_leaf 0 wide (p.index k) (Some x))) ∙ add_all-seated

      pub put-overfills : overfills (added ++ j ∷ []) u ≡ (overfills added t || is_overfull_add listed)
      put-overfills =
          ap (overfills (added ++ j ∷ [])) p.tree ∙ (λ k. overfills (added ++ p.index k ∷ []) (put_leaf 0 wide (p.index k) (Some x))) ∙ overfills-seated

-- the tree with the new member is that with its leaf, and the leaf index in the lists
module _ (t : Tree) (x : LeafNode) (j : ℕ) (u : Tree) (p : PutsMember t x j u) where
  pub add-put : add t x ≡ add_unmerged u j
  add-put = sym (put-listed t [] (All-nil (λ i. i < leaf_count t)) x j u p)

  pub leaf_at-put : (i : ℕ) → leaf_at 0 u i ≡ leaf_at 0 (add t x) i
  leaf_at-put i = sym (ap (λ v. leaf_at 0 v i) add-put ∙ leaf_at-change_above (with_unmerged j) 0 u j i)

-- ---- where the members are put

-- the added leaves are in increasing order, and the leaves before `start` are non-blank
pub record ArePlaced (t : Tree) (added : List ℕ) (start : ℕ) : Type 0 where
  pub set : AreNonBlankBelow t start
  pub early : All (λ i. i < start) added
  pub inside : All (λ i. i < leaf_count t) added
  pub up : AllPairs (λ i j. i < j) added

pub placed-start : (t : Tree) → ArePlaced t [] 0
placed-start t = record {
  set = λ i lt. absurd (omega arith);
  early = All-nil (λ i. i < 0);
  inside = All-nil (λ i. i < leaf_count t);
  up = λ i j d lt within. absurd (omega arith);
}

pub placed-up : (t : Tree) (added : List ℕ) (start : ℕ) → ArePlaced t added start → IsStrictlyIncreasing added
placed-up t added start a k within = a.up k (k + 1) 0 (omega arith) within

-- the next member is put after them
before_next : (t : Tree) (added : List ℕ) (start : ℕ) → ArePlaced t added start → (o : Option ℕ) → MatchOption o (AllLeavesNonBlank t) (λ j. IsFirstBlank t j)
    → All (λ i. i < number_or (leaf_count t) o) added
before_next t added start a None all = a.inside
before_next t added start a (Some j) first =
    elim (cases_lt j start) [
      | inl lt ↦ absurd (blank_is_set (leaf_at 0 t j) first.blank (a.set j lt))
      | inr ge ↦ All-weaker (λ i. i < start) (λ i. i < j) (λ i lt. omega arith) added a.early
    ]
  where
    blank_is_set : (o : Option LeafNode) → o ≡ None → IsSome o → ⊥
    blank_is_set None e s = cc
    blank_is_set (Some y) e s = cc

pub wider : (o : Option ℕ) (t : Tree) → leaf_count t ≤ leaf_count (extended_if_full o t)
wider None t = omega arith
wider (Some i) t = omega arith

pub placed-next : (t : Tree) (added : List ℕ) (start : ℕ) (x : LeafNode) (j : ℕ) (u : Tree) → ArePlaced t added start → PutsMember t x j u → ArePlaced u (added ++ j ∷ []) (j + 1)
placed-next t added start x j u a p =
    let index = p.index in
    let inside = p.inside in
    let next = before_next t added start a (first_blank_leaf 0 t) (first_blank_leaf-leftmost t) in
    let later : All (λ i. i < j) added = subst (λ k. All (λ i. i < k) added) (sym index) next in
    let wide = wider (first_blank_leaf 0 t) t in
    let count = ap leaf_count p.tree ∙ leaf_count-put_leaf 0 (extended_if_full (first_blank_leaf 0 t) t) j (Some x) in
    record {
      set = λ i lt. (let low : i < added_leaf t + 1 = omega arith in subst (λ o. IsSome o) (sym (leaf_at-put t x j u p i)) (add-set_below t x i low));
      early = All-push (λ i. i < j + 1) added j (All-weaker (λ i. i < j) (λ i. i < j + 1) (λ i lt. omega arith) added later) (omega arith);
      inside = All-push (λ i. i < leaf_count u) added j (All-weaker (λ i. i < leaf_count t) (λ i. i < leaf_count u) (λ i lt. omega arith) added a.inside) inside;
      up = all_pairs_push (λ i j. i < j) added j a.up (λ k d lt. later k d lt);
    }
