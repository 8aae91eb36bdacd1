-- The parents above several leaves, each replaced once, and the same parents with one leaf added after the other.
use Rattle.std.proofs.Common.{◌≡◌, ◌≢◌, ℕ, zero, suc, ◌+◌, ◌*◌, ◌-◌, ◌<◌, ◌≤◌, List, [], ◌∷◌, ◌++◌, Option, Some, None, refl, sym, ap, ◌∙◌, subst, inl, inr, arith, append_assoc, map, nat_lt, true, false, Bool, length}
use Rattle.std.specs.Prelude.{All, IfSome, slice_get, ◌==◌, ◌||◌}
use Rattle.std.specs.List.{list_any}
use Rattle.std.specs.List.Sorted.{IsStrictlyIncreasing}
use Rattle.std.proofs.lemmas.Bool.{cases_lt}
use Rattle.std.proofs.lemmas.Bool.Decides.{nat_tests}
use Rattle.std.proofs.lemmas.List.{append-nil, map-append}
use Rattle.std.proofs.lemmas.List.Elements.{All-nil, All-cons, All-head, All-tail, All-append, All-pop, All-weaker}
use Rattle.mls_nodes.specs.Limits.{leaf_limit}
use Rattle.mls_nodes.specs.declared.parent.ParentNode.{ParentNode}
use Rattle.mls_nodes.specs.declared.node.Node.{Node}
use Rattle.mls_tree.specs.Tree.{Tree, leaf, branch, height, leaf_count}
use Rattle.mls_tree.specs.TreeInternal.{leaves_at}
use Rattle.mls_tree.specs.NodeArray.{parent_part, tree_in}
use Rattle.mls_tree.specs.TreeOperations.{put_parent, change_above, insert_number, with_unmerged, add_unmerged, add_all_unmerged, is_overfilled, is_overfilled_above, overfills, blank_tree, extend}
use Rattle.mls_tree.specs.MergedLists.{insert_numbers, with_all_unmerged, overfills_parent, overfills_below, leaves_before, leaves_from, new_parent, new_parents, replacement}
use Rattle.mls_tree.specs.declared.merged_parents.NewParent.{NewParent}
use Rattle.mls_tree.proofs.Choices.{below, from, here, before, after, is_less, not_less, false_no_true}
use Rattle.mls_tree.proofs.Trees.{leaf_count-positive}
use Rattle.mls_tree.proofs.Kept.{leaf_count-change_above, leaf_count-put_parent}
use Rattle.mls_tree.proofs.Lists.{insert_number-present, insert_number-absent}
use Rattle.mls_tree.proofs.Walking.{tree_in-split, near-count}
use Rattle.mls_tree.proofs.AlongPaths.{IsWithin}
use Rattle.mls_tree.proofs.MergedLists.{before-near, before-far, from-near, from-far, split-before, split-from}

-- ---- each parent with all leaves below it that are added

abbrev pub merged_tree : ℕ → Tree → List ℕ → Tree
merged_tree first (leaf x) is = leaf x
merged_tree first (branch l n r) is =
    branch (merged_tree first l (leaves_before (first + leaf_count l) is)) (with_all_unmerged is n) (merged_tree (first + leaf_count l) r (leaves_from (first + leaf_count l) is))

with_all-nil : (n : Option ParentNode) → with_all_unmerged [] n ≡ n
with_all-nil None = refl
with_all-nil (Some n) = refl

with_all-cons : (i : ℕ) (is : List ℕ) (n : Option ParentNode) → with_all_unmerged (i ∷ is) n ≡ with_all_unmerged is (with_unmerged i n)
with_all-cons i is None = refl
with_all-cons i is (Some n) = refl

merged-nil : (first : ℕ) (t : Tree) → merged_tree first t [] ≡ t
merged-nil first (leaf x) = refl
merged-nil first (branch l n r) = λ k. branch (merged-nil first l k) (with_all-nil n k) (merged-nil (first + leaf_count l) r k)

-- one more leaf is added first
merged-cons : (first : ℕ) (t : Tree) (i : ℕ) (is : List ℕ) → merged_tree first t (i ∷ is) ≡ merged_tree first (change_above (with_unmerged i) first t i) is
merged-cons first (leaf x) i is = refl
merged-cons first (branch l n r) i is =
    let m = first + leaf_count l in
    let f = with_unmerged i in
    let u = change_above f first l i in
    let v = change_above f m r i in
    let c : leaf_count l ≡ leaf_count u = sym (leaf_count-change_above f first l i) in
    elim (cases_lt i m) [
      | inl lt ↦
          (λ k. branch (merged_tree first l (before-near m i is lt k)) (with_all-cons i is n k) (merged_tree m r (from-near m i is lt k)))
          ∙ ap (λ t. branch t (with_all_unmerged is (f n)) (merged_tree m r (leaves_from m is))) (merged-cons first l i (leaves_before m is))
          ∙ (λ k. branch (merged_tree first u (leaves_before (first + c k) is)) (with_all_unmerged is (f n)) (merged_tree (first + c k) r (leaves_from (first + c k) is)))
          ∙ ap (λ t. merged_tree first t is) (sym (below i m (branch u (f n) r) (branch l (f n) v) lt))
      | inr ge ↦
          (λ k. branch (merged_tree first l (before-far m i is ge k)) (with_all-cons i is n k) (merged_tree m r (from-far m i is ge k)))
          ∙ ap (λ t. branch (merged_tree first l (leaves_before m is)) (with_all_unmerged is (f n)) t) (merged-cons m r i (leaves_from m is))
          ∙ ap (λ t. merged_tree first t is) (sym (from i m (branch u (f n) r) (branch l (f n) v) ge))
    ]

pub add_all_unmerged-merged : (is : List ℕ) (t : Tree) → add_all_unmerged is t ≡ merged_tree 0 t is
add_all_unmerged-merged [] t = sym (merged-nil 0 t)
add_all_unmerged-merged (i ∷ is) t = add_all_unmerged-merged is (add_unmerged t i) ∙ sym (merged-cons 0 t i is)

-- ---- whether a list overflows

either_near : (a d b c e : Bool) → (((a || b) || c) || (d || e)) ≡ ((a || d) || ((b || c) || e))
either_near true d b c e = refl
either_near false true true c e = refl
either_near false true false true e = refl
either_near false true false false e = refl
either_near false false b c e = refl

either_far : (a d b c e : Bool) → ((b || (a || c)) || (d || e)) ≡ ((a || d) || ((b || c) || e))
either_far true d true c e = refl
either_far true d false c e = refl
either_far false true true c e = refl
either_far false true false true e = refl
either_far false true false false e = refl
either_far false false b c e = refl

overfills_below-nil : (first : ℕ) (t : Tree) → overfills_below first t [] ≡ false
overfills_below-nil first (leaf x) = refl
overfills_below-nil first (branch l n r) = λ k. (overfills_below-nil first l k || overfills_below-nil (first + leaf_count l) r k) || false

overfills_below-cons : (first : ℕ) (t : Tree) (i : ℕ) (is : List ℕ)
    → overfills_below first t (i ∷ is) ≡ (is_overfilled_above first t i || overfills_below first (change_above (with_unmerged i) first t i) is)
overfills_below-cons first (leaf x) i is = refl
overfills_below-cons first (branch l n r) i is =
    let m = first + leaf_count l in
    let f = with_unmerged i in
    let u = change_above f first l i in
    let v = change_above f m r i in
    let c : leaf_count l ≡ leaf_count u = sym (leaf_count-change_above f first l i) in
    let on_left = is_overfilled_above first l i in
    let on_right = is_overfilled_above m r i in
    elim (cases_lt i m) [
      | inl lt ↦
          (λ k. (overfills_below first l (before-near m i is lt k) || overfills_below m r (from-near m i is lt k)) || (is_overfilled i n || overfills_parent is (f n)))
          ∙ ap (λ b. (b || overfills_below m r (leaves_from m is)) || (is_overfilled i n || overfills_parent is (f n))) (overfills_below-cons first l i (leaves_before m is))
          ∙ either_near on_left (is_overfilled i n) (overfills_below first u (leaves_before m is)) (overfills_below m r (leaves_from m is)) (overfills_parent is (f n))
          ∙ (λ k. (on_left || is_overfilled i n) || ((overfills_below first u (leaves_before (first + c k) is) || overfills_below (first + c k) r (leaves_from (first + c k) is)) || overfills_parent is (f n)))
          ∙ (λ k. (sym (below i m on_left on_right lt) k || is_overfilled i n) || overfills_below first (sym (below i m (branch u (f n) r) (branch l (f n) v) lt) k) is)
      | inr ge ↦
          (λ k. (overfills_below first l (before-far m i is ge k) || overfills_below m r (from-far m i is ge k)) || (is_overfilled i n || overfills_parent is (f n)))
          ∙ ap (λ b. (overfills_below first l (leaves_before m is) || b) || (is_overfilled i n || overfills_parent is (f n))) (overfills_below-cons m r i (leaves_from m is))
          ∙ either_far on_right (is_overfilled i n) (overfills_below first l (leaves_before m is)) (overfills_below m v (leaves_from m is)) (overfills_parent is (f n))
          ∙ (λ k. (sym (from i m on_left on_right ge) k || is_overfilled i n) || overfills_below first (sym (from i m (branch u (f n) r) (branch l (f n) v) ge) k) is)
    ]

pub overfills-below : (is : List ℕ) (t : Tree) → overfills is t ≡ overfills_below 0 t is
overfills-below [] t = sym (overfills_below-nil 0 t)
overfills-below (i ∷ is) t = ap (λ b. is_overfilled_above 0 t i || b) (overfills-below is (add_unmerged t i)) ∙ sym (overfills_below-cons 0 t i is)

overfills_parent-blank : (is : List ℕ) → overfills_parent is None ≡ false
overfills_parent-blank [] = refl
overfills_parent-blank (i ∷ is) = overfills_parent-blank is

overfills_below-blank : (first h : ℕ) (is : List ℕ) → overfills_below first (blank_tree h) is ≡ false
overfills_below-blank first zero is = refl
overfills_below-blank first (suc h) is =
    let m = first + leaf_count (blank_tree h) in
    λ k. (overfills_below-blank first h (leaves_before m is) k || overfills_below-blank m h (leaves_from m is) k) || overfills_parent-blank is k

alone : (a b c : Bool) → b ≡ false → c ≡ false → ((a || b) || c) ≡ a
alone true b c e f = refl
alone false b c e f = λ k. e k || f k

-- leaves that a tree lacks overfill no list of the tree that is extended
pub overfills-extend : (is : List ℕ) (t : Tree) → overfills is (extend t) ≡ overfills (leaves_before (leaf_count t) is) t
overfills-extend is t =
    let middle = 0 + leaf_count t in
    let right = blank_tree (height t) in
    overfills-below is (extend t)
    ∙ alone (overfills_below 0 t (leaves_before middle is)) (overfills_below middle right (leaves_from middle is)) (overfills_parent is None)
    (overfills_below-blank middle (height t) (leaves_from middle is)) (overfills_parent-blank is)
    ∙ sym (overfills-below (leaves_before middle is) t)
    ∙ ap (λ m. overfills (leaves_before m is) t) (let e : middle ≡ leaf_count t = omega arith in e)

-- a list that takes numbers gets no shorter
longer-by : (i : ℕ) (xs : List ℕ) (b : Bool) → list_any (λ x. x == i) xs ≡ b → length xs ≤ length (insert_number i xs)
longer-by i xs true e = omega (arith, ap length (insert_number-present i xs e))
longer-by i xs false e = omega (arith, insert_number-absent i xs e)

longer : (is xs : List ℕ) → length xs ≤ length (insert_numbers is xs)
longer [] xs = omega arith
longer (i ∷ is) xs = omega (arith, longer-by i xs _ refl, longer is (insert_number i xs))

-- so it overflows if the last list is too long
pub overfills_parent-last : (is : List ℕ) (n : ParentNode) → length n.unmerged ≤ leaf_limit → overfills_parent is (Some n) ≡ nat_lt leaf_limit (length (insert_numbers is n.unmerged))
overfills_parent-last [] n low = sym (not_less leaf_limit (length n.unmerged) low)
overfills_parent-last (i ∷ is) n low =
    let xs = insert_number i n.unmerged in
    let next : ParentNode = record n { unmerged = xs } in
    let more = longer is xs in
    elim (cases_lt leaf_limit (length xs)) [
      | inl lt ↦ ap (λ b. b || overfills_parent is (Some next)) (is_less leaf_limit (length xs) lt) ∙ sym (is_less leaf_limit (length (insert_numbers is xs)) (omega arith))
      | inr ge ↦ ap (λ b. b || overfills_parent is (Some next)) (not_less leaf_limit (length xs) ge) ∙ overfills_parent-last is next ge
    ]

-- ---- parents that are put, the last one first

abbrev pub all_put : ℕ → Tree → List (ℕ × ParentNode) → Tree
all_put first t [] = t
all_put first t (m ∷ ms) = put_parent first (all_put first t ms) m.0 (Some m.1)

pub all_put-append : (first : ℕ) (t : Tree) (ms ns : List (ℕ × ParentNode)) → all_put first t (ms ++ ns) ≡ all_put first (all_put first t ns) ms
all_put-append first t [] ns = refl
all_put-append first t (m ∷ ms) ns = ap (λ u. put_parent first u m.0 (Some m.1)) (all_put-append first t ms ns)

leaf_count-all_put : (first : ℕ) (t : Tree) (ms : List (ℕ × ParentNode)) → leaf_count (all_put first t ms) ≡ leaf_count t
leaf_count-all_put first t [] = refl
leaf_count-all_put first t (m ∷ ms) = leaf_count-put_parent first (all_put first t ms) m.0 (Some m.1) ∙ leaf_count-all_put first t ms

-- the node index of an entry is that of a parent in a tree of `count` leaves from `first` on
abbrev pub IsPutWithin : ℕ → ℕ → (ℕ × ParentNode) → Type 0
IsPutWithin first count m = IsWithin first count m.0

all_put-left : (first : ℕ) (l : Tree) (n : Option ParentNode) (r : Tree) (ms : List (ℕ × ParentNode)) → All (IsPutWithin first (leaf_count l)) ms
    → all_put first (branch l n r) ms ≡ branch (all_put first l ms) n r
all_put-left first l n r [] h = refl
all_put-left first l n r (m ∷ ms) h =
    let u = all_put first l ms in
    let c = leaf_count-all_put first l ms in
    let x = Some m.1 in
    let lt = (All-head (IsPutWithin first (leaf_count l)) m ms h).1 in
    ap (λ t. put_parent first t m.0 x) (all_put-left first l n r ms (All-tail (IsPutWithin first (leaf_count l)) m ms h))
    ∙ before (m.0 + 1) (2 * (first + leaf_count u)) (branch u x r) (branch (put_parent first u m.0 x) n r) (branch u n (put_parent (first + leaf_count u) r m.0 x)) (omega arith)

all_put-right : (first : ℕ) (l : Tree) (n : Option ParentNode) (r : Tree) (ms : List (ℕ × ParentNode)) → All (IsPutWithin (first + leaf_count l) (leaf_count r)) ms
    → all_put first (branch l n r) ms ≡ branch l n (all_put (first + leaf_count l) r ms)
all_put-right first l n r [] h = refl
all_put-right first l n r (m ∷ ms) h =
    let k = first + leaf_count l in
    let u = all_put k r ms in
    let x = Some m.1 in
    let gt = (All-head (IsPutWithin k (leaf_count r)) m ms h).0 in
    ap (λ t. put_parent first t m.0 x) (all_put-right first l n r ms (All-tail (IsPutWithin k (leaf_count r)) m ms h))
    ∙ after (m.0 + 1) (2 * k) (branch l x u) (branch (put_parent first l m.0 x) n u) (branch l n (put_parent k u m.0 x)) (omega arith)

-- ---- the parents that replace those above the leaves

-- a fact of the root, which is put if it is non-blank
new_parent-all : (P : (ℕ × ParentNode) → Type 0) (p : ℕ) (is : List ℕ) (n : Option ParentNode) → ((i : ℕ) (js : List ℕ) → is ≡ i ∷ js → (x : ParentNode) → P (p, x)) → All P (new_parent p is n)
new_parent-all P p [] n h = All-nil P
new_parent-all P p (i ∷ is) None h = All-nil P
new_parent-all P p (i ∷ is) (Some n) h = All-cons P _ [] (h i is refl _) (All-nil P)

pub new_parents-within : (first : ℕ) (t : Tree) (is : List ℕ) → All (IsPutWithin first (leaf_count t)) (new_parents first t is)
new_parents-within first (leaf x) is = All-nil _
new_parents-within first (branch l n r) is =
    let m = first + leaf_count l in
    let a = leaf_count-positive l in
    let b = leaf_count-positive r in
    let on_left = new_parents first l (leaves_before m is) in
    let on_right = new_parents m r (leaves_from m is) in
    let whole = IsPutWithin first (leaf_count l + leaf_count r) in
    let root : IsWithin first (leaf_count l + leaf_count r) (2 * m - 1) = (omega arith, omega arith, omega arith) in
    All-append whole (on_left ++ on_right) (new_parent (2 * m - 1) is n)
    (All-append whole on_left on_right
    (All-weaker (IsPutWithin first (leaf_count l)) whole (λ p w. (w.0, (let v = w.1 in omega arith), w.2)) on_left (new_parents-within first l (leaves_before m is)))
    (All-weaker (IsPutWithin m (leaf_count r)) whole (λ p w. ((let u = w.0 in omega arith), (let v = w.1 in omega arith), w.2)) on_right (new_parents-within m r (leaves_from m is))))
    (new_parent-all whole (2 * m - 1) is n (λ i js e x. root))

root-put : (first : ℕ) (l : Tree) (n : Option ParentNode) (r : Tree) (is : List ℕ)
    → all_put first (branch l n r) (new_parent (2 * (first + leaf_count l) - 1) is n) ≡ branch l (with_all_unmerged is n) r
root-put first l n r [] = ap (λ x. branch l x r) (sym (with_all-nil n))
root-put first l None r (i ∷ is) = refl
root-put first l (Some n) r (i ∷ is) =
    let a = leaf_count-positive l in
    let m = first + leaf_count l in
    let x = with_all_unmerged (i ∷ is) (Some n) in
    here (2 * m - 1 + 1) (2 * m) (branch l x r) (branch (put_parent first l (2 * m - 1) x) (Some n) r) (branch l (Some n) (put_parent m r (2 * m - 1) x)) (omega arith)

pub all_put-merged : (first : ℕ) (t : Tree) (is : List ℕ) → all_put first t (new_parents first t is) ≡ merged_tree first t is
all_put-merged first (leaf x) is = refl
all_put-merged first (branch l n r) is =
    let m = first + leaf_count l in
    let on_left = new_parents first l (leaves_before m is) in
    let on_right = new_parents m r (leaves_from m is) in
    let x = with_all_unmerged is n in
    let u = all_put m r on_right in
    all_put-append first (branch l n r) (on_left ++ on_right) (new_parent (2 * m - 1) is n)
    ∙ ap (λ t. all_put first t (on_left ++ on_right)) (root-put first l n r is)
    ∙ all_put-append first (branch l x r) on_left on_right
    ∙ ap (λ t. all_put first t on_left) (all_put-right first l x r on_right (new_parents-within m r (leaves_from m is)))
    ∙ all_put-left first l x u on_left (new_parents-within first l (leaves_before m is))
    ∙ (λ k. branch (all_put-merged first l (leaves_before m is) k) x (all_put-merged m r (leaves_from m is) k))

-- ---- the walk over the array

pub new_parents-nil : (first : ℕ) (t : Tree) → new_parents first t [] ≡ []
new_parents-nil first (leaf x) = refl
new_parents-nil first (branch l n r) = λ k. (new_parents-nil first l k ++ new_parents-nil (first + leaf_count l) r k) ++ []

-- no leaves, or no parents
module _ (xs : List (Option Node)) (first level : ℕ) (is : List ℕ) (old : List (ℕ × ParentNode)) where
  pub none-pushed : is ≡ [] → old ≡ old ++ new_parents first (tree_in xs level first) is
  none-pushed e = sym (ap (λ v. old ++ new_parents first (tree_in xs level first) v) e ∙ ap (λ v. old ++ v) (new_parents-nil first (tree_in xs level first)) ∙ append-nil old)

  pub leaf-pushed : level ≡ 0 → old ≡ old ++ new_parents first (tree_in xs level first) is
  leaf-pushed e = sym (ap (λ v. old ++ new_parents first (tree_in xs v first) is) e ∙ append-nil old)

  pub none-overfilled : is ≡ [] → overfills_below first (tree_in xs level first) is ≡ false
  none-overfilled e = ap (overfills_below first (tree_in xs level first)) e ∙ overfills_below-nil first (tree_in xs level first)

  pub leaf-overfilled : level ≡ 0 → overfills_below first (tree_in xs level first) is ≡ false
  leaf-overfilled e = ap (λ v. overfills_below first (tree_in xs v first) is) e

-- whether there are leaves
not_zero : (n : ℕ) → 0 < n → (n == 0) ≡ false
not_zero n lt = grind (arith, nat_tests)

pub no_leaves : (is : List ℕ) (b : Bool) → b ≡ (length is == 0) → b ≡ true → is ≡ []
no_leaves [] b e t = refl
no_leaves (i ∷ is) b e t = absurd (false_no_true (sym (e ∙ not_zero (suc (length is)) (omega arith)) ∙ t))

pub some_leaves : (is : List ℕ) (b : Bool) → b ≡ (length is == 0) → b ≡ false → 0 < length is
some_leaves [] b e t = absurd (false_no_true (sym t ∙ e))
some_leaves (i ∷ is) b e t = omega arith

new_parent-blank : (p : ℕ) (is : List ℕ) → new_parent p is None ≡ []
new_parent-blank p [] = refl
new_parent-blank p (i ∷ is) = refl

new_parent-set : (p : ℕ) (is : List ℕ) (n : ParentNode) → 0 < length is → new_parent p is (Some n) ≡ (p, record n { unmerged = insert_numbers is n.unmerged }) ∷ []
new_parent-set p [] n lt = absurd (omega arith)
new_parent-set p (i ∷ is) n lt = refl

module _ (xs : List (Option Node)) (first half level : ℕ) (deep : level ≢ 0) (e : half ≡ leaves_at (level - 1))
    (is front back : List ℕ) (up : IsStrictlyIncreasing is) (whole : is ≡ front ++ back) (low : All (λ i. i < first + half) front) (high : IfSome (slice_get back 0) (λ i. first + half ≤ i)) where
  abbrev near : Tree
  near = tree_in xs (level - 1) first

  abbrev far : Tree
  far = tree_in xs (level - 1) (first + half)

  abbrev root : Option ParentNode
  root = parent_part (slice_get xs (2 * (first + half) - 1))

  new_parents-split : new_parents first (tree_in xs level first) is ≡ (new_parents first near front ++ new_parents (first + half) far back) ++ new_parent (2 * (first + half) - 1) is root
  new_parents-split =
      let c = near-count xs first half level deep e in
      let m = first + half in
      ap (λ t. new_parents first t is) (tree_in-split xs first half level deep e)
      ∙ (λ k. (new_parents first near (leaves_before (first + c k) is) ++ new_parents (first + c k) far (leaves_from (first + c k) is)) ++ new_parent (2 * (first + c k) - 1) is root)
      ∙ (λ k. (new_parents first near (split-before m is front back up whole low high k) ++ new_parents m far (split-from m is front back up whole low high k)) ++ new_parent (2 * m - 1) is root)

  overfills-split : overfills_below first (tree_in xs level first) is ≡ ((overfills_below first near front || overfills_below (first + half) far back) || overfills_parent is root)
  overfills-split =
      let c = near-count xs first half level deep e in
      let m = first + half in
      ap (λ t. overfills_below first t is) (tree_in-split xs first half level deep e)
      ∙ (λ k. (overfills_below first near (leaves_before (first + c k) is) || overfills_below (first + c k) far (leaves_from (first + c k) is)) || overfills_parent is root)
      ∙ (λ k. (overfills_below first near (split-before m is front back up whole low high k) || overfills_below m far (split-from m is front back up whole low high k)) || overfills_parent is root)

  pub near-overfilled : overfills_below first near front ≡ true → overfills_below first (tree_in xs level first) is ≡ true
  near-overfilled full = overfills-split ∙ ap (λ b. (b || overfills_below (first + half) far back) || overfills_parent is root) full

  pub far-overfilled : overfills_below first near front ≡ false → overfills_below (first + half) far back ≡ true → overfills_below first (tree_in xs level first) is ≡ true
  far-overfilled fits full = overfills-split ∙ (λ k. (fits k || full k) || overfills_parent is root)

  module _ (near_fits : overfills_below first near front ≡ false) (far_fits : overfills_below (first + half) far back ≡ false) where
    root_alone : overfills_below first (tree_in xs level first) is ≡ overfills_parent is root
    root_alone = overfills-split ∙ (λ k. (near_fits k || far_fits k) || overfills_parent is root)

    pub root-overfilled : (n : ParentNode) (b : Bool) → root ≡ Some n → overfills_parent is (Some n) ≡ b → overfills_below first (tree_in xs level first) is ≡ b
    root-overfilled n b at full = root_alone ∙ ap (overfills_parent is) at ∙ full

    pub blank-overfilled : root ≡ None → overfills_below first (tree_in xs level first) is ≡ false
    blank-overfilled at = root_alone ∙ ap (overfills_parent is) at ∙ overfills_parent-blank is

  module _ (old one two : List (ℕ × ParentNode)) (left : one ≡ old ++ new_parents first near front) (right : two ≡ one ++ new_parents (first + half) far back) where
    both-pushed : (more : List (ℕ × ParentNode)) → new_parent (2 * (first + half) - 1) is root ≡ more → two ++ more ≡ old ++ new_parents first (tree_in xs level first) is
    both-pushed more at =
        ap (λ v. v ++ more) (right ∙ ap (λ v. v ++ new_parents (first + half) far back) left)
        ∙ ap (λ v. v ++ more) (append_assoc old (new_parents first near front) (new_parents (first + half) far back))
        ∙ append_assoc old (new_parents first near front ++ new_parents (first + half) far back) more
        ∙ ap (λ v. old ++ ((new_parents first near front ++ new_parents (first + half) far back) ++ v)) (sym at)
        ∙ ap (λ v. old ++ v) (sym new_parents-split)

    pub blank-pushed : root ≡ None → two ≡ old ++ new_parents first (tree_in xs level first) is
    blank-pushed at = sym (append-nil two) ∙ both-pushed [] (ap (new_parent (2 * (first + half) - 1) is) at ∙ new_parent-blank (2 * (first + half) - 1) is)

    pub root-pushed : (n x : ParentNode) → 0 < length is → root ≡ Some n → x ≡ record n { unmerged = insert_numbers is n.unmerged }
        → two ++ (2 * (first + half) - 1, x) ∷ [] ≡ old ++ new_parents first (tree_in xs level first) is
    root-pushed n x some at made =
        both-pushed ((2 * (first + half) - 1, x) ∷ [])
        (ap (new_parent (2 * (first + half) - 1) is) at ∙ new_parent-set (2 * (first + half) - 1) is n some
        ∙ ap (λ (v : ParentNode). (2 * (first + half) - 1, v) ∷ []) (sym made))

-- one more parent is pushed
pub replacement-push : (old new : List NewParent) (m : NewParent) → new ≡ old ++ m ∷ [] → map replacement new ≡ map replacement old ++ replacement m ∷ []
replacement-push old new m e = ap (map replacement) e ∙ map-append replacement old (m ∷ [])

-- the last one is put
pub within-popped : (count : ℕ) (all rest : List NewParent) (m : NewParent) → all ≡ rest ++ m ∷ [] → All (IsPutWithin 0 count) (map replacement all)
    → All (IsPutWithin 0 count) (map replacement rest) × IsWithin 0 count m.node_index
within-popped count all rest m split h = All-pop (IsPutWithin 0 count) (map replacement all) (map replacement rest) (Some (replacement m)) (replacement-push rest all m split) h

module _ (t u : Tree) (all rest : List NewParent) (m : NewParent) (split : all ≡ rest ++ m ∷ []) (put : u ≡ put_parent 0 t m.node_index (Some m.parent.value)) where
  pub all_put-step : all_put 0 t (map replacement all) ≡ all_put 0 u (map replacement rest)
  all_put-step =
      ap (all_put 0 t) (replacement-push rest all m split) ∙ all_put-append 0 t (map replacement rest) (replacement m ∷ []) ∙ ap (λ v. all_put 0 v (map replacement rest)) (sym put)

  pub within-step : All (IsPutWithin 0 (leaf_count t)) (map replacement all) → All (IsPutWithin 0 (leaf_count u)) (map replacement rest)
  within-step h =
      subst (λ n. All (IsPutWithin 0 n) (map replacement rest)) (sym (ap leaf_count put ∙ leaf_count-put_parent 0 t m.node_index (Some m.parent.value))) (within-popped (leaf_count t) all rest m split h).0
