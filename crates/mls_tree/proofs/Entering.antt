-- A number that is inserted into a list and removed again, and the parents above a leaf whose lists can take it.
use Rattle.std.proofs.Common.{◌≡◌, ◌≢◌, ℕ, suc, ◌+◌, ◌*◌, ◌-◌, ◌<◌, List, [], ◌∷◌, ◌++◌, length, take, drop, Option, Some, None, refl, sym, ap, ◌∙◌, subst, inl, inr, arith, unwrap_or, append_assoc}
use Rattle.std.specs.Prelude.{All, Bool, true, false, not, cond, ◌==◌, if◌then◌else◌, ◌||◌, ◌≤◌, nat_le, nat_lt, insert, is_some, position, remove, slice_get}
use Rattle.std.specs.Prelude.{Result, Ok, Err, OnOk, OnErr, IfOk}
use Rattle.std.specs.Bool.{OnTrue, OnFalse}
use Rattle.mls_nodes.specs.Limits.{leaf_limit}
use Rattle.std.specs.List.{list_any, position_or_len}
use Rattle.std.proofs.lemmas.Bool.{cases_Bool, cases_lt, cases_order}
use Rattle.std.proofs.lemmas.Bool.Decides.{nat_tests}
use Rattle.std.proofs.lemmas.List.Elements.{All-nil, All-push, All-weaker}
use Rattle.mls_nodes.specs.declared.parent.ParentNode.{ParentNode}
use Rattle.mls_tree.specs.Tree.{Tree, leaf, branch, leaf_count, listing, parent_entry, IsParentNodeIndex}
use Rattle.mls_tree.specs.TreeOperations.{put_parent, change_parent, insert_before, insert_number, without_number, with_unmerged, is_overfilled, is_overfilled_above}
use Rattle.mls_tree.specs.NodeView.{parent_of}
use Rattle.mls_tree.specs.Paths.{direct_path}
use Rattle.mls_tree.proofs.Choices.{below, from, is_less, here, before, after, same}
use Rattle.mls_tree.proofs.Trees.{leaf_count-positive}
use Rattle.mls_tree.proofs.Arrays.{slice_get-set_same, slice_get-set_other}
use Rattle.mls_tree.proofs.Positions.{node_at-listing, parent_node_index-listing}
use Rattle.mls_tree.proofs.Replacing.{listing-put_parent}
use Rattle.mls_tree.proofs.Kept.{leaf_count-put_parent}
use Rattle.mls_tree.proofs.TakenBack.{put_parent-back}
use Rattle.mls_tree.proofs.AlongPaths.{parent_at, parent_of-entry, parent_at-here, parent_at-left, parent_at-right, IsWithin, IsParentNodeIndex-like}

-- ---- lists

left-again : (i x : ℕ) (xs : List ℕ) (b : Bool) → (x == i) ≡ false → without_number i (insert_before i xs) ≡ xs
    → without_number i (if b then x ∷ insert_before i xs else i ∷ x ∷ xs) ≡ x ∷ xs
left-again i x xs true away ih = ap (λ (t : Bool). if t then insert_before i xs else x ∷ without_number i (insert_before i xs)) away ∙ ap (λ ys. x ∷ ys) ih
left-again i x xs false away ih = same i i (x ∷ xs) (i ∷ without_number i (x ∷ xs)) refl

any-none : (a b : Bool) → (a || b) ≡ false → (a ≡ false) × (b ≡ false)
any-none true b e = absurd cc
any-none false b e = (refl, e)

-- a number that a list does not have is inserted and removed
pub in_lists-left : (i : ℕ) (xs : List ℕ) → list_any (λ x. x == i) xs ≡ false → without_number i (insert_before i xs) ≡ xs
in_lists-left i [] none = same i i [] (i ∷ []) refl
in_lists-left i (x ∷ xs) none =
    let h = any-none (x == i) (list_any (λ x. x == i) xs) none in
    left-again i x xs (nat_lt x i) h.0 (in_lists-left i xs h.1)

-- ---- the first entry that passes a test

less_by_one : (a b c d : ℕ) → c ≡ suc a → d ≡ suc b → nat_lt a b ≡ nat_lt c d
less_by_one a b c d e f = grind (arith, nat_tests)

is_some-by : (b : Bool) (i : ℕ) → is_some (cond b (Some i) None) ≡ b
is_some-by true i = refl
is_some-by false i = refl

some-by : (b : Bool) (i j : ℕ) → cond b (Some i) None ≡ Some j → i ≡ j
some-by true i j e = cc
some-by false i j e = absurd cc

none-by : (b : Bool) (i : ℕ) → cond b (Some i) None ≡ None → b ≡ false
none-by true i e = absurd cc
none-by false i e = refl

module _ (p : ℕ → Bool) where
  first-here : (x : ℕ) (xs : List ℕ) → p x ≡ true → position_or_len p (x ∷ xs) ≡ 0
  first-here x xs e = ap (λ (b : Bool). cond (not b) (1 + position_or_len p xs) 0) e

  first-later : (x : ℕ) (xs : List ℕ) → p x ≡ false → position_or_len p (x ∷ xs) ≡ suc (position_or_len p xs)
  first-later x xs e = let next : 1 + position_or_len p xs ≡ suc (position_or_len p xs) = omega arith in ap (λ (b : Bool). cond (not b) (1 + position_or_len p xs) 0) e ∙ next

  any-first : (xs : List ℕ) → list_any p xs ≡ nat_lt (position_or_len p xs) (length xs)
  any-first [] = refl
  any-first (x ∷ xs) =
      elim (cases_Bool (p x)) [
        | inl e ↦ ap (λ (b : Bool). b || list_any p xs) e ∙ sym (is_less (position_or_len p (x ∷ xs)) (suc (length xs)) (omega (arith, first-here x xs e)))
        | inr e ↦ ap (λ (b : Bool). b || list_any p xs) e ∙ any-first xs ∙ less_by_one _ _ _ _ (first-later x xs e) refl
      ]

  is_some-position : (xs : List ℕ) → is_some (position p xs) ≡ list_any p xs
  is_some-position xs = is_some-by _ _ ∙ sym (any-first xs)

-- whether a list has a number, by the position that was found
pub has-number : (n : ℕ) (xs : List ℕ) (o : Option ℕ) (b : Bool) → o ≡ position (λ x. x == n) xs → is_some o ≡ b → list_any (λ x. x == n) xs ≡ b
has-number n xs o b e f = sym (is_some-position (λ x. x == n) xs) ∙ ap (λ (q : Option ℕ). is_some q) (sym e) ∙ f

-- a number goes before the first entry that is not less
pub before-first : (n : ℕ) (xs : List ℕ) → insert_before n xs ≡ insert xs (position_or_len (λ x. nat_le n x) xs) n
before-first n [] = refl
before-first n (x ∷ xs) =
    let test = λ (y : ℕ). nat_le n y in
    elim (cases_lt x n) [
      | inl lt ↦ below x n (x ∷ insert_before n xs) (n ∷ x ∷ xs) lt ∙ ap (λ ys. x ∷ ys) (before-first n xs) ∙ sym (ap (λ k. insert (x ∷ xs) k n) (first-later test x xs (less_fails n x lt)))
      | inr ge ↦ from x n (x ∷ insert_before n xs) (n ∷ x ∷ xs) ge ∙ sym (ap (λ k. insert (x ∷ xs) k n) (first-here test x xs (rest_passes n x ge)))
    ]
  where
    less_fails : (a b : ℕ) → b < a → nat_le a b ≡ false
    less_fails a b l = grind (arith, nat_tests)

    rest_passes : (a b : ℕ) → a ≤ b → nat_le a b ≡ true
    rest_passes a b l = grind (arith, nat_tests)

-- a list that is made of its entries that are less, the number, and the others
pub made-before : (n : ℕ) (xs ys : List ℕ) (i : ℕ) (less others start front long whole : List ℕ) → ys ≡ xs → i ≡ position_or_len (λ x. nat_le n x) xs
    → less ≡ take i ys → others ≡ drop i ys → start ≡ [] → front ≡ start ++ less → long ≡ front ++ n ∷ [] → whole ≡ long ++ others → whole ≡ insert_before n xs
made-before n xs ys i less others start front long whole same at is_less is_others is_start is_front is_long is_whole =
    let begun : front ≡ take i ys = is_front ∙ ap (λ (zs : List ℕ). zs ++ less) is_start ∙ is_less in
    is_whole ∙ (λ j. is_long j ++ is_others j) ∙ append_assoc front (n ∷ []) (drop i ys) ∙ (λ j. begun j ++ n ∷ drop i ys)
    ∙ ap (λ (zs : List ℕ). insert zs i n) same ∙ ap (λ k. insert xs k n) at ∙ sym (before-first n xs)

-- the first entry that is equal leaves
without-first : (n : ℕ) (xs : List ℕ) → without_number n xs ≡ remove xs (position_or_len (λ x. x == n) xs)
without-first n [] = refl
without-first n (x ∷ xs) =
    let test = λ (y : ℕ). y == n in
    elim (cases_Bool (x == n)) [
      | inl e ↦ ap (λ (b : Bool). if b then xs else x ∷ without_number n xs) e ∙ sym (ap (λ k. remove (x ∷ xs) k) (first-here test x xs e))
      | inr e ↦ ap (λ (b : Bool). if b then xs else x ∷ without_number n xs) e ∙ ap (λ ys. x ∷ ys) (without-first n xs) ∙ sym (ap (λ k. remove (x ∷ xs) k) (first-later test x xs e))
    ]

without-absent : (n : ℕ) (xs : List ℕ) → list_any (λ x. x == n) xs ≡ false → without_number n xs ≡ xs
without-absent n [] none = refl
without-absent n (x ∷ xs) none =
    let h = any-none (x == n) (list_any (λ x. x == n) xs) none in
    ap (λ (b : Bool). if b then xs else x ∷ without_number n xs) h.0 ∙ ap (λ ys. x ∷ ys) (without-absent n xs h.1)

pub without-at : (n : ℕ) (xs : List ℕ) (i : ℕ) → position (λ x. x == n) xs ≡ Some i → without_number n xs ≡ remove xs i
without-at n xs i e = without-first n xs ∙ ap (λ k. remove xs k) (some-by _ _ _ e)

pub without-none : (n : ℕ) (xs : List ℕ) → position (λ x. x == n) xs ≡ None → without_number n xs ≡ xs
without-none n xs e = without-absent n xs (any-first (λ x. x == n) xs ∙ none-by _ _ e)

-- ---- a parent that is put twice, and read

pub put_parent-twice : (first : ℕ) (t : Tree) (p : ℕ) (x y : Option ParentNode) → put_parent first (put_parent first t p x) p y ≡ put_parent first t p y
put_parent-twice first (leaf z) p x y = refl
put_parent-twice first (branch l n r) p x y =
    let m = first + leaf_count l in
    let u = put_parent first l p x in
    let v = put_parent m r p x in
    let c = leaf_count-put_parent first l p x in
    elim (cases_order (p + 1) (2 * m)) [
      | inl at ↦
          ap (λ t. put_parent first t p y) (here (p + 1) (2 * m) (branch l x r) (branch u n r) (branch l n v) at)
          ∙ here (p + 1) (2 * m) (branch l y r) (branch (put_parent first l p y) x r) (branch l x (put_parent m r p y)) at
          ∙ sym (here (p + 1) (2 * m) (branch l y r) (branch (put_parent first l p y) n r) (branch l n (put_parent m r p y)) at)
      | inr (inl lt) ↦
          ap (λ t. put_parent first t p y) (before (p + 1) (2 * m) (branch l x r) (branch u n r) (branch l n v) lt)
          ∙ before (p + 1) (2 * (first + leaf_count u)) (branch u y r) (branch (put_parent first u p y) n r) (branch u n (put_parent (first + leaf_count u) r p y)) (omega arith)
          ∙ ap (λ t. branch t n r) (put_parent-twice first l p x y)
          ∙ sym (before (p + 1) (2 * m) (branch l y r) (branch (put_parent first l p y) n r) (branch l n (put_parent m r p y)) lt)
      | inr (inr gt) ↦
          ap (λ t. put_parent first t p y) (after (p + 1) (2 * m) (branch l x r) (branch u n r) (branch l n v) gt)
          ∙ after (p + 1) (2 * m) (branch l y v) (branch (put_parent first l p y) n v) (branch l n (put_parent m v p y)) gt
          ∙ ap (λ t. branch l n t) (put_parent-twice m r p x y)
          ∙ sym (after (p + 1) (2 * m) (branch l y r) (branch (put_parent first l p y) n r) (branch l n (put_parent m r p y)) gt)
    ]

module _ (t : Tree) (p : ℕ) (x : Option ParentNode) (there : IsParentNodeIndex t p) where
  pub parent_at-put : parent_at 0 (put_parent 0 t p x) p ≡ x
  parent_at-put =
      ap parent_of
      (node_at-listing (put_parent 0 t p x) p
      ∙ ap (λ ls. unwrap_or (slice_get ls p) None) (listing-put_parent t p x there)
      ∙ ap (λ o. unwrap_or o None) (slice_get-set_same (listing t) p (parent_entry x) (((parent_node_index-listing t p).0 there).0)))
      ∙ parent_of-entry x

  pub parent_at-put_other : (q : ℕ) → q ≢ p → parent_at 0 (put_parent 0 t p x) q ≡ parent_at 0 t q
  parent_at-put_other q away =
      ap parent_of
      (node_at-listing (put_parent 0 t p x) q
      ∙ ap (λ ls. unwrap_or (slice_get ls q) None) (listing-put_parent t p x there)
      ∙ ap (λ o. unwrap_or o None) (slice_get-set_other (listing t) p q (parent_entry x) away)
      ∙ sym (node_at-listing t q))

-- its node index is still that of a parent
pub still-parent : (t s : Tree) (p : ℕ) → IsParentNodeIndex t p → s ≡ put_parent 0 t p None → IsParentNodeIndex s p
still-parent t s p there taken = IsParentNodeIndex-like t s (ap leaf_count taken ∙ leaf_count-put_parent 0 t p None) p there

-- a parent that is taken out of a tree, changed, and put back
module _ (t s u : Tree) (p : ℕ) (n m : Option ParentNode) (there : IsParentNodeIndex t p) (at : n ≡ parent_at 0 t p) (taken : s ≡ put_parent 0 t p None) (put : u ≡ put_parent 0 s p m) where
  put-once : u ≡ put_parent 0 t p m
  put-once = put ∙ ap (λ v. put_parent 0 v p m) taken ∙ put_parent-twice 0 t p None m

  pub changed-as : (f : Option ParentNode → Option ParentNode) → m ≡ f n → u ≡ change_parent f 0 t p
  changed-as f e = put-once ∙ ap (put_parent 0 t p) (e ∙ ap f at)

  pub unchanged-as : m ≡ n → u ≡ t
  unchanged-as e = put ∙ (λ i. put_parent 0 (taken i) p ((e ∙ at) i)) ∙ put_parent-back 0 t p None there

  pub changed_back-as : (g : Option ParentNode → Option ParentNode) → g m ≡ n → change_parent g 0 u p ≡ t
  changed_back-as g e =
      ap (λ v. change_parent g 0 v p) put-once
      ∙ ap (λ o. put_parent 0 (put_parent 0 t p m) p (g o)) (parent_at-put t p m there)
      ∙ ap (put_parent 0 (put_parent 0 t p m) p) (e ∙ at)
      ∙ put_parent-back 0 t p m there

-- ---- the lists above a leaf, none of which is full of others

is_same : (i : ℕ) → (i == i) ≡ true
is_same i = grind (arith, nat_tests)

any-inserted : (i x : ℕ) (xs : List ℕ) (b : Bool) → list_any (λ y. y == i) (insert_before i xs) ≡ true → list_any (λ y. y == i) (if b then x ∷ insert_before i xs else i ∷ x ∷ xs) ≡ true
any-inserted i x xs true ih = ap (λ (b : Bool). (x == i) || b) ih ∙ or_true (x == i)
  where
    or_true : (a : Bool) → (a || true) ≡ true
    or_true true = refl
    or_true false = refl
any-inserted i x xs false ih = ap (λ (b : Bool). b || list_any (λ y. y == i) (x ∷ xs)) (is_same i)

is-inserted : (i : ℕ) (xs : List ℕ) → list_any (λ x. x == i) (insert_before i xs) ≡ true
is-inserted i [] = ap (λ (b : Bool). b || false) (is_same i)
is-inserted i (x ∷ xs) = any-inserted i x xs (nat_lt x i) (is-inserted i xs)

inserted-twice : (i : ℕ) (xs : List ℕ) (b : Bool) → list_any (λ x. x == i) xs ≡ b → insert_number i (insert_number i xs) ≡ insert_number i xs
inserted-twice i xs true e =
    let kept : insert_number i xs ≡ xs = ap (λ (b : Bool). if b then xs else insert_before i xs) e in
    ap (insert_number i) kept
inserted-twice i xs false e =
    let put : insert_number i xs ≡ insert_before i xs = ap (λ (b : Bool). if b then xs else insert_before i xs) e in
    ap (insert_number i) put ∙ ap (λ (b : Bool). if b then insert_before i xs else insert_before i (insert_before i xs)) (is-inserted i xs) ∙ sym put

capacity-after : (i : ℕ) (n : Option ParentNode) → is_overfilled i n ≡ false → is_overfilled i (with_unmerged i n) ≡ false
capacity-after i None capacity = refl
capacity-after i (Some a) capacity = ap (λ xs. nat_lt leaf_limit (length xs)) (inserted-twice i a.unmerged (list_any (λ x. x == i) a.unmerged) refl) ∙ capacity

-- the list of the parent at a node index can take i
abbrev pub HasCapacity : ℕ → ℕ → Tree → ℕ → Type 0
HasCapacity i first t p = is_overfilled i (parent_at first t p) ≡ false

-- a node index of a parent whose list can
abbrev IsRoomy : ℕ → ℕ → Tree → ℕ → Type 0
IsRoomy i first t p = IsWithin first (leaf_count t) p × HasCapacity i first t p

capacity-path : (first : ℕ) (t : Tree) (i : ℕ) → is_overfilled_above first t i ≡ false → All (IsRoomy i first t) (direct_path first t i)
capacity-path first (leaf x) i capacity = All-nil _
capacity-path first (branch l n r) i capacity =
    let m = first + leaf_count l in
    let a = leaf_count-positive l in
    let b = leaf_count-positive r in
    let t = branch l n r in
    let h = any-none (if nat_lt i m then is_overfilled_above first l i else is_overfilled_above m r i) (is_overfilled i n) capacity in
    let root : IsRoomy i first t (2 * m - 1) =
    ((omega arith, omega arith, omega arith), ap (is_overfilled i) (parent_at-here first l n r (2 * m - 1) (omega arith)) ∙ h.1) in
    elim (cases_lt i m) [
      | inl lt ↦
          subst (All (IsRoomy i first t)) (ap (λ ps. ps ++ (2 * m - 1) ∷ []) (sym (below i m (direct_path first l i) (direct_path m r i) lt)))
          (All-push (IsRoomy i first t) (direct_path first l i) (2 * m - 1)
          (All-weaker (IsRoomy i first l) (IsRoomy i first t)
          (λ p w.
          let u = w.0.0 in let v = w.0.1 in
          ((u, omega arith, w.0.2), ap (is_overfilled i) (parent_at-left first l n r p (omega arith)) ∙ w.1))
          (direct_path first l i)
          (capacity-path first l i (sym (below i m (is_overfilled_above first l i) (is_overfilled_above m r i) lt) ∙ h.0))) root)
      | inr ge ↦
          subst (All (IsRoomy i first t)) (ap (λ ps. ps ++ (2 * m - 1) ∷ []) (sym (from i m (direct_path first l i) (direct_path m r i) ge)))
          (All-push (IsRoomy i first t) (direct_path m r i) (2 * m - 1)
          (All-weaker (IsRoomy i m r) (IsRoomy i first t)
          (λ p w.
          let u = w.0.0 in let v = w.0.1 in
          ((omega arith, omega arith, w.0.2), ap (is_overfilled i) (parent_at-right first l n r p (omega arith)) ∙ w.1))
          (direct_path m r i)
          (capacity-path m r i (sym (from i m (is_overfilled_above first l i) (is_overfilled_above m r i) ge) ∙ h.0))) root)
    ]

pub capacity-start : (t : Tree) (i : ℕ) (node_indices : List ℕ) → node_indices ≡ direct_path 0 t i → is_overfilled_above 0 t i ≡ false → All (HasCapacity i 0 t) node_indices
capacity-start t i node_indices at capacity =
    subst (All (HasCapacity i 0 t)) (sym at) (All-weaker (IsRoomy i 0 t) (HasCapacity i 0 t) (λ p w. w.1) (direct_path 0 t i) (capacity-path 0 t i capacity))

-- i has entered one of them
module _ (i : ℕ) (t u : Tree) (p : ℕ) (there : IsParentNodeIndex t p) (capacity : HasCapacity i 0 t p) (put : u ≡ change_parent (with_unmerged i) 0 t p) where
  capacity-one : (q : ℕ) → HasCapacity i 0 t q → HasCapacity i 0 u q
  capacity-one q h =
      let x = with_unmerged i (parent_at 0 t p) in
      let after_same : HasCapacity i 0 u p = ap (λ v. is_overfilled i (parent_at 0 v p)) put ∙ ap (is_overfilled i) (parent_at-put t p x there) ∙ capacity-after i (parent_at 0 t p) capacity in
      elim (cases_order q p) [
        | inl at ↦ subst (HasCapacity i 0 u) (sym at) after_same
        | inr (inl lt) ↦ ap (λ v. is_overfilled i (parent_at 0 v q)) put ∙ ap (is_overfilled i) (parent_at-put_other t p x there q (λ e. omega arith)) ∙ h
        | inr (inr gt) ↦ ap (λ v. is_overfilled i (parent_at 0 v q)) put ∙ ap (is_overfilled i) (parent_at-put_other t p x there q (λ e. omega arith)) ∙ h
      ]

  pub capacity-step : (left : List ℕ) → All (HasCapacity i 0 t) left → All (HasCapacity i 0 u) left
  capacity-step left h = All-weaker (HasCapacity i 0 t) (HasCapacity i 0 u) capacity-one left h

-- a blank parent that is taken out
pub blank-stays : (t u : Tree) (p : ℕ) → IsParentNodeIndex t p → None ≡ parent_at 0 t p → u ≡ put_parent 0 t p None → u ≡ t
blank-stays t u p there at put =
    put ∙ ap (put_parent 0 t p) at ∙ sym (put_parent-twice 0 t p None (parent_at 0 t p)) ∙ put_parent-back 0 t p None there

-- ---- clauses on results

module _ {A E : Type 0} where
  pub on_ok : {P Q : Type 0} (r : Result A E) → (P → Q) → OnOk r P → OnOk r Q
  on_ok (Ok a) f h = f h
  on_ok (Err e) f h = tt

  pub on_err : {P Q : Type 0} (r : Result A E) → (P → Q) → OnErr r P → OnErr r Q
  on_err (Ok a) f h = tt
  on_err (Err e) f h = f h

  pub if_ok : {P Q : A → Type 0} (r : Result A E) → ((a : A) → P a → Q a) → IfOk r P → IfOk r Q
  if_ok (Ok a) f h = f a h
  if_ok (Err e) f h = tt

pub on_true : {P Q : Type 0} (b : Bool) → (P → Q) → OnTrue b P → OnTrue b Q
on_true true f h = f h
on_true false f h = tt

pub on_false : {P Q : Type 0} (b : Bool) → (P → Q) → OnFalse b P → OnFalse b Q
on_false true f h = tt
on_false false f h = f h

pub true_gives : {P : Type 0} (b : Bool) → b ≡ true → OnTrue b P → P
true_gives true e h = h
true_gives false e h = absurd cc
