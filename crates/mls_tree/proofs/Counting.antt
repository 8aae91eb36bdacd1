-- Counts of non-blank leaves and nodes under each parent.
use Rattle.std.proofs.Common.{◌≡◌, ◌≢◌, ℕ, suc, ◌+◌, ◌*◌, ◌-◌, ◌/◌, ◌<◌, ◌≤◌, zero, List, ◌++◌, length, take, get_or, replicate, Option, Some, None, refl, sym, ap, ◌∙◌, subst, inl, inr, arith, length-set}
use Rattle.std.specs.Prelude.{slice_get, slice_set}
use Rattle.std.proofs.lemmas.Bool.{cases_lt, cases_order}
use Rattle.std.proofs.lemmas.Option.{slice_get-get_or, same_Some}
use Rattle.mls_nodes.specs.declared.leaf.LeafNode.{LeafNode}
use Rattle.mls_nodes.specs.declared.parent.ParentNode.{ParentNode}
use Rattle.mls_nodes.specs.declared.node.Node.{Node}
use Rattle.mls_tree.specs.declared.subtree_counts.Count.{Count}
use Rattle.mls_tree.specs.Tree.{Tree, leaf, branch, height, leaf_count, member_count, IsPerfect}
use Rattle.mls_tree.specs.TreeInternal.{leaves_at}
use Rattle.mls_tree.specs.NodeArray.{parent_part, tree_in}
use Rattle.mls_tree.specs.TreeOperations.{put_leaf, put_parent, change_above, blank_tree, front_subtree, rejoined, extend}
use Rattle.mls_tree.specs.SubtreeCounts.{parent_weight, non_blank_count, subtree_count, zero_count, AreCounts, AreOutside, IsKeptOutside}
use Rattle.mls_tree.proofs.Choices.{below, from, here, before, after}
use Rattle.mls_tree.proofs.Trees.{leaf_count-positive}
use Rattle.mls_tree.proofs.Arrays.{leaf_count-tree_in, slice_get-set_same, slice_get-set_other}
use Rattle.mls_tree.proofs.Fronts.{to_front, to_rejoined, leaves-le, leaf_count-rejoined}
use Rattle.mls_tree.proofs.Growing.{slice_get-take, slice_get-append_left, slice_get-filled}
use Rattle.mls_tree.proofs.Kept.{leaf_count-put_leaf, leaf_count-put_parent, leaf_count-change_above, leaf_count-extend}
use Rattle.mls_tree.proofs.Numbers.{leaves_at-positive}
use Rattle.mls_tree.proofs.Walking.{tree_in-split}

-- ---- counts are small

pub member_count-low : (t : Tree) → member_count t ≤ leaf_count t
member_count-low (leaf None) = omega arith
member_count-low (leaf (Some x)) = omega arith
member_count-low (branch l n r) = omega (arith, member_count-low l, member_count-low r)

parent_weight-low : (n : Option ParentNode) → parent_weight n ≤ 1
parent_weight-low None = omega arith
parent_weight-low (Some p) = omega arith

pub non_blank_count-low : (t : Tree) → non_blank_count t + 1 ≤ 2 * leaf_count t
non_blank_count-low (leaf None) = omega arith
non_blank_count-low (leaf (Some x)) = omega arith
non_blank_count-low (branch l n r) = omega (arith, non_blank_count-low l, non_blank_count-low r, parent_weight-low n)

-- ---- counts rest on the entries between their first and their last

pub AreCounts-same : (cs ds : List Count) (first : ℕ) (t : Tree) → ((p : ℕ) → first ≤ p → p + 1 < first + leaf_count t → slice_get ds p ≡ slice_get cs p)
    → AreCounts first t cs → AreCounts first t ds
AreCounts-same cs ds first (leaf x) e ok = tt
AreCounts-same cs ds first (branch l n r) e ok =
    let a = leaf_count-positive l in
    let b = leaf_count-positive r in (
      AreCounts-same cs ds first l (λ p low high. e p low (omega arith)) ok.0,
      AreCounts-same cs ds (first + leaf_count l) r (λ p low high. e p (omega arith) (omega arith)) ok.1,
      e (first + leaf_count l - 1) (omega arith) (omega arith) ∙ ok.2,
    )

-- ---- the subtree by its children

module _ (xs : List (Option Node)) (first half level : ℕ) (deep : level ≢ 0) (e : half ≡ leaves_at (level - 1)) where
  abbrev near : Tree
  near = tree_in xs (level - 1) first

  abbrev far : Tree
  far = tree_in xs (level - 1) (first + half)

  abbrev node : Option ParentNode
  node = parent_part (slice_get xs (2 * (first + half) - 1))

  near-count : leaf_count near ≡ half
  near-count = leaf_count-tree_in xs (level - 1) first ∙ sym e

  far-count : leaf_count far ≡ half
  far-count = leaf_count-tree_in xs (level - 1) (first + half) ∙ sym e

  whole-count : leaves_at level ≡ half + half
  whole-count = (let up : level ≡ suc (level - 1) = omega arith in ap leaves_at up ∙ (λ i. sym e i + sym e i))

  -- counts of the children and of the root
  pub AreCounts-join : (cs : List Count) → AreCounts first near cs → AreCounts (first + half) far cs → slice_get cs (first + half - 1) ≡ Some (subtree_count (branch near node far))
      → AreCounts first (tree_in xs level first) cs
  AreCounts-join cs a b c =
      subst (λ t. AreCounts first t cs) (sym (tree_in-split xs first half level deep e))
      (a, subst (λ k. AreCounts (first + k) far cs) (sym near-count) b, ap (λ k. slice_get cs (first + k - 1)) near-count ∙ c)

  -- the count of the root
  pub root-subtree_count : (cs : List Count) → AreCounts first (tree_in xs level first) cs → slice_get cs (first + half - 1) ≡ Some (subtree_count (tree_in xs level first))
  root-subtree_count cs ok =
      let split = tree_in-split xs first half level deep e in
      let at = subst (λ t. AreCounts first t cs) split ok in
      ap (λ k. slice_get cs (first + k - 1)) (sym near-count) ∙ at.2 ∙ ap (λ t. Some (subtree_count t)) (sym split)

  pub root-index : (cs : List Count) (d : Count) → first + leaves_at level ≤ length cs + 1 → AreCounts first (tree_in xs level first) cs → get_or cs (first + half - 1) d ≡ subtree_count (tree_in xs level first)
  root-index cs d capacity ok =
      let pos = leaves_at-positive (level - 1) in
      let w = whole-count in
      same_Some (get_or cs (first + half - 1) d) (subtree_count (tree_in xs level first)) (sym (slice_get-get_or cs (first + half - 1) d (omega (arith, e))) ∙ root-subtree_count cs ok)

  -- the sums are small
  abbrev pub SumsLow : Count → Count → ℕ → Type 0
  SumsLow a b own = (a.members + b.members ≤ 2 * half) × (a.nodes + b.nodes ≤ 4 * half) × (a.nodes + b.nodes + own ≤ 4 * half)

  pub sums-low : (a b : Count) (own : ℕ) (o : Option ParentNode) → a ≡ subtree_count near → b ≡ subtree_count far → own ≡ parent_weight o → SumsLow a b own
  sums-low a b own o x y w =
      let c = near-count in
      let d = far-count in
      let pos = leaves_at-positive (level - 1) in
      let i = ap (λ (v : Count). v.members) x in
      let j = ap (λ (v : Count). v.members) y in
      let k = ap (λ (v : Count). v.nodes) x in
      let m = ap (λ (v : Count). v.nodes) y in (
        omega (arith, member_count-low near, member_count-low far),
        omega (arith, non_blank_count-low near, non_blank_count-low far),
        omega (arith, non_blank_count-low near, non_blank_count-low far, parent_weight-low o),
      )

  pub sum-subtree_count : (a b : Count) (own : ℕ) → a ≡ subtree_count near → b ≡ subtree_count far → own ≡ parent_weight node
      → record { members = a.members + b.members; nodes = a.nodes + b.nodes + own } ≡ subtree_count (branch near node far)
  sum-subtree_count a b own x y w = λ i. record { members = (x i).members + (y i).members; nodes = (x i).nodes + (y i).nodes + w i }

  -- the root is non-blank
  module _ (cs ds : List Count) (c : Count) (capacity : first + leaves_at level ≤ length cs + 1) (at : ds ≡ slice_set cs (first + half - 1) c) where
    pub added-kept : IsKeptOutside cs ds first (first + leaves_at level - 1)
    added-kept =
        let pos = leaves_at-positive (level - 1) in
        let w = whole-count in
        record {
          count = ap length at ∙ length-set cs (first + half - 1) c;
          outside = λ p away. ap (λ v. slice_get v p) at ∙ slice_get-set_other cs (first + half - 1) p c (λ q. elim away [ inl below ↦ omega arith | inr above ↦ omega arith ]);
        }

    pub added-counts : c ≡ subtree_count (branch near node far) → AreCounts first near cs → AreCounts (first + half) far cs → AreCounts first (tree_in xs level first) ds
    added-counts is a b =
        let pos = leaves_at-positive (level - 1) in
        let w = whole-count in
        AreCounts-join ds
        (AreCounts-same cs ds first near (λ p low high. ap (λ v. slice_get v p) at ∙ slice_get-set_other cs (first + half - 1) p c (λ q. (let n = near-count in omega arith))) a)
        (AreCounts-same cs ds (first + half) far (λ p low high. ap (λ v. slice_get v p) at ∙ slice_get-set_other cs (first + half - 1) p c (λ q. omega arith)) b)
        (ap (λ v. slice_get v (first + half - 1)) at ∙ slice_get-set_same cs (first + half - 1) c (omega arith) ∙ ap (λ v. Some v) is)

  -- what is next to a leaf, by the children
  pub beside-left : (cs : List Count) (i : ℕ) → i < first + half → AreOutside first (tree_in xs level first) i cs → AreOutside first near i cs × AreCounts (first + half) far cs
  beside-left cs i lt ok =
      let at = subst (λ t. AreOutside first t i cs) (tree_in-split xs first half level deep e) ok in
      let n = near-count in
      let both = at.0 (omega arith) in
      (both.0, subst (λ k. AreCounts (first + k) far cs) near-count both.1)

  pub beside-right : (cs : List Count) (i : ℕ) → first + half ≤ i → AreOutside first (tree_in xs level first) i cs → AreCounts first near cs × AreOutside (first + half) far i cs
  beside-right cs i ge ok =
      let at = subst (λ t. AreOutside first t i cs) (tree_in-split xs first half level deep e) ok in
      let n = near-count in
      let both = at.1 (omega arith) in
      (both.0, subst (λ k. AreOutside (first + k) far i cs) near-count both.1)

  -- a walk in one subtree leaves the other subtree's counts unchanged
  pub kept-far : (cs ds : List Count) → IsKeptOutside cs ds first (first + leaves_at (level - 1) - 1) → AreCounts (first + half) far cs → AreCounts (first + half) far ds
  kept-far cs ds kept ok = AreCounts-same cs ds (first + half) far (λ p low high. kept.outside p (inr (omega (arith, e)))) ok

  pub kept-near : (cs ds : List Count) → IsKeptOutside cs ds (first + half) (first + half + leaves_at (level - 1) - 1) → AreCounts first near cs → AreCounts first near ds
  kept-near cs ds kept ok = AreCounts-same cs ds first near (λ p low high. kept.outside p (inl (let n = near-count in omega arith))) ok

  -- a walk in one subtree, and then one in the whole
  pub kept-left : (cs ds es : List Count) → IsKeptOutside cs ds first (first + leaves_at (level - 1) - 1) → IsKeptOutside ds es first (first + leaves_at level - 1)
      → IsKeptOutside cs es first (first + leaves_at level - 1)
  kept-left cs ds es a b =
      let w = whole-count in
      record {
        count = b.count ∙ a.count;
        outside = λ p away. b.outside p away ∙ a.outside p (elim away [ inl low ↦ inl low | inr high ↦ inr (omega (arith, e)) ]);
      }

  pub kept-right : (cs ds es : List Count) → IsKeptOutside cs ds (first + half) (first + half + leaves_at (level - 1) - 1) → IsKeptOutside ds es first (first + leaves_at level - 1)
      → IsKeptOutside cs es first (first + leaves_at level - 1)
  kept-right cs ds es a b =
      let w = whole-count in
      record {
        count = b.count ∙ a.count;
        outside = λ p away. b.outside p away ∙ a.outside p (elim away [ inl low ↦ inl (omega arith) | inr high ↦ inr (omega (arith, e)) ]);
      }

pub kept-all : (cs : List Count) (low high : ℕ) → IsKeptOutside cs cs low high
kept-all cs low high = record { count = refl; outside = λ p away. refl }

pub AreCounts-leaf : (xs : List (Option Node)) (first level : ℕ) (cs : List Count) → level ≡ 0 → AreCounts first (tree_in xs level first) cs
AreCounts-leaf xs first level cs z = subst (λ k. AreCounts first (tree_in xs k first) cs) (sym z) tt

-- ---- a change of the tree leaves unchanged what is next to it

pub beside : (first : ℕ) (t : Tree) (i : ℕ) (cs : List Count) → AreCounts first t cs → AreOutside first t i cs
beside first (leaf x) i cs ok = tt
beside first (branch l n r) i cs ok =
    (λ lt. (beside first l i cs ok.0, ok.1), λ ge. (ok.0, beside (first + leaf_count l) r i cs ok.1))

beside-in_left : (first : ℕ) (l v : Tree) (n : Option ParentNode) (r : Tree) (i : ℕ) (cs : List Count) → leaf_count v ≡ leaf_count l → i < first + leaf_count l
    → AreOutside first v i cs → AreCounts (first + leaf_count l) r cs → AreOutside first (branch v n r) i cs
beside-in_left first l v n r i cs c lt a b = (λ _. (a, subst (λ k. AreCounts (first + k) r cs) (sym c) b), λ ge. absurd (omega arith))

beside-in_right : (first : ℕ) (l : Tree) (n : Option ParentNode) (v : Tree) (i : ℕ) (cs : List Count) → first + leaf_count l ≤ i
    → AreCounts first l cs → AreOutside (first + leaf_count l) v i cs → AreOutside first (branch l n v) i cs
beside-in_right first l n v i cs ge a b = (λ lt. absurd (omega arith), λ _. (a, b))

pub beside-put_leaf : (first : ℕ) (t : Tree) (i : ℕ) (x : Option LeafNode) (cs : List Count) → AreCounts first t cs → AreOutside first (put_leaf first t i x) i cs
beside-put_leaf first (leaf y) i x cs ok = tt
beside-put_leaf first (branch l n r) i x cs ok =
    let m = first + leaf_count l in
    elim (cases_lt i m) [
      | inl lt ↦
          subst (λ t. AreOutside first t i cs) (sym (below i m (branch (put_leaf first l i x) n r) (branch l n (put_leaf m r i x)) lt))
          (beside-in_left first l (put_leaf first l i x) n r i cs (leaf_count-put_leaf first l i x) lt (beside-put_leaf first l i x cs ok.0) ok.1)
      | inr ge ↦
          subst (λ t. AreOutside first t i cs) (sym (from i m (branch (put_leaf first l i x) n r) (branch l n (put_leaf m r i x)) ge))
          (beside-in_right first l n (put_leaf m r i x) i cs ge ok.0 (beside-put_leaf m r i x cs ok.1))
    ]

pub beside-change_above : (f : Option ParentNode → Option ParentNode) (first : ℕ) (t : Tree) (i : ℕ) (cs : List Count) → AreCounts first t cs
    → AreOutside first (change_above f first t i) i cs
beside-change_above f first (leaf y) i cs ok = tt
beside-change_above f first (branch l n r) i cs ok =
    let m = first + leaf_count l in
    elim (cases_lt i m) [
      | inl lt ↦
          subst (λ t. AreOutside first t i cs) (sym (below i m (branch (change_above f first l i) (f n) r) (branch l (f n) (change_above f m r i)) lt))
          (beside-in_left first l (change_above f first l i) (f n) r i cs (leaf_count-change_above f first l i) lt (beside-change_above f first l i cs ok.0) ok.1)
      | inr ge ↦
          subst (λ t. AreOutside first t i cs) (sym (from i m (branch (change_above f first l i) (f n) r) (branch l (f n) (change_above f m r i)) ge))
          (beside-in_right first l (f n) (change_above f m r i) i cs ge ok.0 (beside-change_above f m r i cs ok.1))
    ]

pub beside-put_parent : (first : ℕ) (t : Tree) (q : ℕ) (x : Option ParentNode) (i : ℕ) (cs : List Count) → i ≡ q / 2 → AreCounts first t cs
    → AreOutside first (put_parent first t q x) i cs
beside-put_parent first (leaf y) q x i cs e ok = tt
beside-put_parent first (branch l n r) q x i cs e ok =
    let m = first + leaf_count l in
    let pos = leaf_count-positive l in
    let on_left = branch (put_parent first l q x) n r in
    let on_right = branch l n (put_parent m r q x) in
    elim (cases_order (q + 1) (2 * m)) [
      | inl at ↦
          subst (λ t. AreOutside first t i cs) (sym (here (q + 1) (2 * m) (branch l x r) on_left on_right at))
          (beside-in_left first l l x r i cs refl (omega arith) (beside first l i cs ok.0) ok.1)
      | inr (inl lt) ↦
          subst (λ t. AreOutside first t i cs) (sym (before (q + 1) (2 * m) (branch l x r) on_left on_right lt))
          (beside-in_left first l (put_parent first l q x) n r i cs (leaf_count-put_parent first l q x) (omega arith) (beside-put_parent first l q x i cs e ok.0) ok.1)
      | inr (inr gt) ↦
          subst (λ t. AreOutside first t i cs) (sym (after (q + 1) (2 * m) (branch l x r) on_left on_right gt))
          (beside-in_right first l n (put_parent m r q x) i cs (omega arith) ok.0 (beside-put_parent m r q x i cs e ok.1))
    ]

-- ---- a part of the tree

pub AreCounts-front : (h : ℕ) (t : Tree) (cs : List Count) → AreCounts 0 t cs → AreCounts 0 (front_subtree h t) cs
AreCounts-front h t cs = to_front h (λ w f. AreCounts 0 w cs → AreCounts 0 f cs) (λ w ok. ok) (λ l n r ge ih ok. ih ok.0) t

pub AreCounts-take : (t : Tree) (cs : List Count) (k : ℕ) → k + 1 ≡ leaf_count t → AreCounts 0 t cs → AreCounts 0 t (take k cs)
AreCounts-take t cs k e ok = AreCounts-same cs (take k cs) 0 t (λ p low high. slice_get-take cs k p (omega arith)) ok

-- ---- a tree whose nodes are all blank

member_count-blank : (h : ℕ) → member_count (blank_tree h) ≡ 0
member_count-blank zero = refl
member_count-blank (suc h) = λ i. member_count-blank h i + member_count-blank h i

non_blank_count-blank : (h : ℕ) → non_blank_count (blank_tree h) ≡ 0
non_blank_count-blank zero = refl
non_blank_count-blank (suc h) = λ i. non_blank_count-blank h i + non_blank_count-blank h i + 0

pub AreCounts-blank : (first h : ℕ) (cs : List Count) → ((p : ℕ) → first ≤ p → p + 1 < first + leaf_count (blank_tree h) → slice_get cs p ≡ Some zero_count)
    → AreCounts first (blank_tree h) cs
AreCounts-blank first zero cs all = tt
AreCounts-blank first (suc h) cs all =
    let b = leaf_count (blank_tree h) in
    let pos = leaf_count-positive (blank_tree h) in (
      AreCounts-blank first h cs (λ p low high. all p low (omega arith)),
      AreCounts-blank (first + b) h cs (λ p low high. all p (omega arith) (omega arith)),
      all (first + b - 1) (omega arith) (omega arith) ∙ (λ i. Some (record { members = sym (member_count-blank (suc h)) i; nodes = sym (non_blank_count-blank (suc h)) i })),
    )

-- ---- a tree made twice as large

pub beside-extend : (t : Tree) (cs : List Count) (n : ℕ) → IsPerfect t → length cs + 1 ≡ leaf_count t → n ≡ length cs + 1 → AreCounts 0 t cs
    → AreOutside 0 (extend t) 0 (cs ++ replicate n zero_count)
beside-extend t cs n perfect count e ok =
    let ds = cs ++ replicate n zero_count in
    let pos = leaf_count-positive t in
    let twice : leaf_count t + leaf_count (blank_tree (height t)) ≡ 2 * leaf_count t = leaf_count-extend t perfect in (
      λ lt. (
        beside 0 t 0 ds (AreCounts-same cs ds 0 t (λ p low high. slice_get-append_left cs (replicate n zero_count) p (omega arith)) ok),
        AreCounts-blank (0 + leaf_count t) (height t) ds (λ p low high. slice_get-filled cs n p zero_count (omega arith) (omega arith)),
      ),
      λ ge. absurd (omega arith),
    )

-- ---- a tree that becomes the leftmost subtree of its height

module _ (t : Tree) (perfect : IsPerfect t) (front whole new : List Count) (short : length front + 1 ≡ leaf_count t) (put : (p : ℕ) → p < length front → slice_get new p ≡ slice_get front p)
    (rest : (p : ℕ) → length front ≤ p → slice_get new p ≡ slice_get whole p) (ok : AreCounts 0 t front) where
  pub beside-rejoined : (w : Tree) → IsPerfect w → AreCounts 0 w whole → AreOutside 0 (rejoined t w) 0 new
  beside-rejoined =
      to_rejoined t (λ w v. IsPerfect w → AreCounts 0 w whole → AreOutside 0 v 0 new)
      (λ w low b at. beside 0 t 0 new (AreCounts-same front new 0 t (λ p low high. put p (omega (arith, short))) ok))
      (λ l n r ge ih b at.
      beside-in_left 0 l (rejoined t l) n r 0 new (leaf_count-rejoined t l perfect b.1 ge) (omega (arith, leaf_count-positive l)) (ih b.1 at.0)
      (AreCounts-same whole new (0 + leaf_count l) r (λ p low high. rest p (omega (arith, short, leaves-le t l perfect b.1 ge))) at.1))
