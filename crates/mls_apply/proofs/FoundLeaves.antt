-- The leaves that added members take, found in the tree before the first of them is added.
use Rattle.std.proofs.Common.{◌≡◌, ◌∙◌, ℕ, ◌+◌, ◌-◌, ◌<◌, ◌≤◌, max, true, false, List, [], ◌∷◌, ◌++◌, length, drop, Option, Some, None, IsSome, refl, sym, ap, subst, inl, inr, arith}
use Rattle.std.specs.Prelude.{All, IfSome, MatchOption, slice_get}
use Rattle.std.proofs.lemmas.Bool.{cases_lt}
use Rattle.std.proofs.Math.Nat.{le-max_left, le-max_right, max-le}
use Rattle.mls_nodes.specs.Limits.{leaf_limit}
use Rattle.mls_nodes.specs.declared.leaf.LeafNode.{LeafNode}
use Rattle.mls_msgs.specs.declared.key_package.KeyPackage.{KeyPackage}
use Rattle.mls_msgs.specs.declared.proposal.Proposal.TheVariants.{Add}
use Rattle.mls_tree.specs.Tree.{Tree, leaf, branch, height, leaf_count, member_count, leaf_at}
use Rattle.mls_tree.specs.BlankLeaves.{first_blank_leaf, next_blank_leaf, IsFirstBlank, AllLeavesNonBlank, AreNonBlankBelow}
use Rattle.mls_tree.specs.TreeOperations.{put_leaf, extended_if_full, added_leaf, number_or, blank_tree, add_all_unmerged, overfills}
use Rattle.mls_tree.specs.MergedLists.{leaves_before}
use Rattle.mls_tree.proofs.Choices.{below, from, same}
use Rattle.mls_tree.proofs.Trees.{leaf_count-positive}
use Rattle.mls_tree.proofs.Kept.{leaf_count-put_leaf}
use Rattle.mls_tree.proofs.Lookups.{leaf_at-past}
use Rattle.mls_tree.proofs.FirstBlanks.{next_blank_leaf-found, next_blank_leaf-none, first_blank_leaf-leftmost}
use Rattle.mls_tree.proofs.MergedLists.{before-all, before-low, before-nested, split-before}
use Rattle.mls_tree.proofs.MergedParents.{overfills-extend}
use Rattle.mls_apply.specs.AppliedList.{AppliedTree, applied_tree, after_adds, new_members}
use Rattle.mls_apply.specs.AddSteps.{PutsMember}
use Rattle.mls_apply.specs.Outline.{IsOutline}
use Rattle.mls_apply.specs.declared.list_item.ListItem.{ListItem}
use Rattle.mls_apply.proofs.AddedAtOnce.{leaf_at-put, overfills-put_leaf, wider, placed-up}
use Rattle.mls_apply.proofs.Adding.{Adding, adding-start, adding-other, adding-capacity, adding-member, adding-all, adding-refused}
use Rattle.mls_apply.proofs.AddedLeaves.{leaf_beside, leaf_outside}

not_both : (o : Option LeafNode) → o ≡ None → IsSome o → ⊥
not_both None e s = cc
not_both (Some x) e s = cc

-- ---- a tree has at least the members at its first leaves, where these are non-blank

filled-count : (first : ℕ) (t : Tree) (k : ℕ) → k ≤ leaf_count t → ((i : ℕ) → first ≤ i → i < first + k → IsSome (leaf_at first t i)) → k ≤ member_count t
filled-count first (leaf None) k le set =
    elim (cases_lt 0 k) [
      | inl lt ↦ absurd (not_both (leaf_at first (leaf None) first) (same first first None None refl) (set first (omega arith) (omega arith)))
      | inr ge ↦ omega arith
    ]
filled-count first (leaf (Some x)) k le set = omega arith
filled-count first (branch l n r) k le set =
    let m = first + leaf_count l in
    let near : (i : ℕ) → i < m → leaf_at first (branch l n r) i ≡ leaf_at first l i = λ i lt. below i m (leaf_at first l i) (leaf_at m r i) lt in
    let far : (i : ℕ) → m ≤ i → leaf_at first (branch l n r) i ≡ leaf_at m r i = λ i ge. from i m (leaf_at first l i) (leaf_at m r i) ge in
    elim (cases_lt k (leaf_count l)) [
      | inl lt ↦
          (let left = filled-count first l k (omega arith) (λ i a b. subst (λ o. IsSome o) (near i (omega arith)) (set i a b)) in
          omega arith)
      | inr ge ↦
          (let left = filled-count first l (leaf_count l) (omega arith) (λ i a b. subst (λ o. IsSome o) (near i b) (set i a (omega arith))) in
          let right = filled-count m r (k - leaf_count l) (omega arith) (λ i a b. subst (λ o. IsSome o) (far i a) (set i (omega arith) (omega arith))) in
          omega arith)
    ]

set-inside : (t : Tree) (k : ℕ) → AreNonBlankBelow t k → k ≤ leaf_count t
set-inside t k set =
    elim (cases_lt (leaf_count t) k) [
      | inl lt ↦ absurd (not_both (leaf_at 0 t (leaf_count t)) (leaf_at-past 0 t (leaf_count t) (omega arith)) (set (leaf_count t) lt))
      | inr ge ↦ ge
    ]

set-count : (t : Tree) (k : ℕ) → AreNonBlankBelow t k → k ≤ member_count t
set-count t k set = filled-count 0 t k (set-inside t k set) (λ i a b. set i (omega arith))

-- the leaf of an added member is behind them
set-answer : (t : Tree) (k : ℕ) → AreNonBlankBelow t k → (o : Option ℕ) → MatchOption o (AllLeavesNonBlank t) (λ j. IsFirstBlank t j) → k ≤ number_or (leaf_count t) o
set-answer t k set None all = set-inside t k set
set-answer t k set (Some j) h =
    elim (cases_lt j k) [
      | inl lt ↦ absurd (not_both (leaf_at 0 t j) h.blank (set j lt))
      | inr ge ↦ ge
    ]

added-count : (t : Tree) → added_leaf t ≤ member_count t
added-count t = go (first_blank_leaf 0 t) (first_blank_leaf-leftmost t)
  where
    go : (o : Option ℕ) → MatchOption o (AllLeavesNonBlank t) (λ j. IsFirstBlank t j) → number_or (leaf_count t) o ≤ member_count t
    go None all = set-count t (leaf_count t) all
    go (Some j) h = set-count t j h.earlier

-- ---- a leaf that is found in the tree before the members, `first`, is that in the tree with those so far, `t`

module _ (first t : Tree) (start : ℕ) (set : AreNonBlankBelow t start) (others : (i : ℕ) → start ≤ i → leaf_at 0 t i ≡ leaf_at 0 first i) (wide : leaf_count first ≤ leaf_count t) where
  -- the first leaf index that `first` lacks
  abbrev past : ℕ
  past = max start (leaf_count first)

  past_blank : leaf_at 0 t past ≡ None
  past_blank = others past (le-max_left start (leaf_count first)) ∙ leaf_at-past 0 first past (omega (arith, le-max_right start (leaf_count first)))

  -- no leaf before j is blank, which is no leaf of `first`
  past_is : (j : ℕ) → start ≤ j → leaf_count first ≤ j → AreNonBlankBelow t j → number_or past (next_blank_leaf start 0 first) ≡ j
  past_is j late outside filled =
      let le : past ≤ j = max-le late outside in
      let none = next_blank_leaf-none start first (λ i a b. subst (λ o. IsSome o) (others i a) (filled i (omega arith))) in
      ap (number_or past) none
      ∙ (elim (cases_lt past j) [
        | inl lt ↦ absurd (not_both (leaf_at 0 t past) past_blank (filled past lt))
        | inr ge ↦ (let e : past ≡ j = omega arith in e)
      ])

  found-added : number_or past (next_blank_leaf start 0 first) ≡ added_leaf t
  found-added = go (first_blank_leaf 0 t) (first_blank_leaf-leftmost t)
    where
      go : (o : Option ℕ) → MatchOption o (AllLeavesNonBlank t) (λ j. IsFirstBlank t j) → number_or past (next_blank_leaf start 0 first) ≡ number_or (leaf_count t) o
      go None all = past_is (leaf_count t) (set-inside t start set) wide all
      go (Some j) h =
          let late = set-answer t start set (Some j) h in
          elim (cases_lt j (leaf_count first)) [
            | inl lt ↦
                ap (number_or past)
                (next_blank_leaf-found start first j
                (record {
                  late = late;
                  inside = lt;
                  blank = sym (others j late) ∙ h.blank;
                  earlier = λ i a b. subst (λ o. IsSome o) (others i a) (h.earlier i b);
                }))
            | inr ge ↦ past_is j late ge h.earlier
          ]

-- ---- the unmerged lists

-- leaf indices of `t` overfill its lists if and only if those that `first` has overfill the lists of `first`
abbrev HasListsOf : Tree → Tree → Type 0
HasListsOf first t = (is : List ℕ) → All (λ i. i < leaf_count t) is → overfills is t ≡ overfills (leaves_before (leaf_count first) is) first

lists-same : (t : Tree) → HasListsOf t t
lists-same t is inside = ap (λ js. overfills js t) (sym (before-all (leaf_count t) is inside).0)

lists-extended : (first t : Tree) (o : Option ℕ) → leaf_count first ≤ leaf_count t → HasListsOf first t → HasListsOf first (extended_if_full o t)
lists-extended first t None wide lists is inside =
    overfills-extend is t
    ∙ lists (leaves_before (leaf_count t) is) (before-low (leaf_count t) is)
    ∙ ap (λ js. overfills js first) (before-nested (leaf_count first) (leaf_count t) is wide)
lists-extended first t (Some i) wide lists is inside = lists is inside

lists-put_leaf : (first t : Tree) (j : ℕ) (x : Option LeafNode) → HasListsOf first t → HasListsOf first (put_leaf 0 t j x)
lists-put_leaf first t j x lists is inside = overfills-put_leaf is t j x ∙ lists is (subst (λ n. All (λ i. i < n) is) (leaf_count-put_leaf 0 t j x) inside)

-- ---- the walk along the list

-- where a walk stands, before the rest of the list: `tree` is the tree `first` with the members so far at the leaves
-- that were found
pub record Finding (whole : Option AppliedTree) (rest : List ListItem) (first : Tree) (added : List ℕ) (start : ℕ) : Type 0 where
  pub tree : Tree
  pub adding : Adding whole rest tree added start
  pub others : (i : ℕ) → start ≤ i → leaf_at 0 tree i ≡ leaf_at 0 first i
  pub wide : leaf_count first ≤ leaf_count tree
  pub lists : HasListsOf first tree

pub finding-start : (items : List ListItem) (t : Tree) → member_count t + length (new_members items) ≤ leaf_limit
    → Finding (after_adds (new_members items) t) items t [] 0
finding-start items t capacity = record {
  tree = t;
  adding = adding-start items t capacity;
  others = λ i a. refl;
  wide = omega arith;
  lists = lists-same t;
}

-- the tree has the leaf of a new member once it is extended
inside_extended : (t : Tree) (o : Option ℕ) → MatchOption o (AllLeavesNonBlank t) (λ j. IsFirstBlank t j) → number_or (leaf_count t) o < leaf_count (extended_if_full o t)
inside_extended t None all = omega (arith, leaf_count-positive (blank_tree (height t)))
inside_extended t (Some j) h = h.inside

module _ (whole : Option AppliedTree) (x : ListItem) (xs : List ListItem) (first : Tree) (added : List ℕ) (start : ℕ)
    (f : Finding whole (x ∷ xs) first added start) where
  pub finding-other : ((k : KeyPackage) → x.proposal ≡ Add k → ⊥) → Finding whole xs first added start
  finding-other none = record {
    tree = f.tree;
    adding = adding-other whole x xs f.tree added start f.adding none;
    others = f.others;
    wide = f.wide;
    lists = f.lists;
  }

  module _ (k : KeyPackage) (e : x.proposal ≡ Add k) (j : ℕ) (found : j ≡ number_or (max start (leaf_count first)) (next_blank_leaf start 0 first)) where
    index : j ≡ added_leaf f.tree
    index = found ∙ found-added first f.tree start f.adding.placed.set f.others f.wide

    pub finding-small : j < leaf_limit
    finding-small = omega (arith, index, added-count f.tree, adding-capacity whole x xs f.tree added start f.adding k e)

    pub finding-member : Finding whole xs first (added ++ j ∷ []) (j + 1)
    finding-member =
        let t = f.tree in
        let o = first_blank_leaf 0 t in
        let u = put_leaf 0 (extended_if_full o t) j (Some k.leaf_node) in
        let count : leaf_count u ≡ leaf_count (extended_if_full o t) = leaf_count-put_leaf 0 (extended_if_full o t) j (Some k.leaf_node) in
        let puts : PutsMember t k.leaf_node j u = record {
          index = index;
          tree = refl;
          inside = omega (arith, index, count, inside_extended t o (first_blank_leaf-leftmost t));
          small = finding-small;
        } in
        let late = set-answer t start f.adding.placed.set o (first_blank_leaf-leftmost t) in
        record {
          tree = u;
          adding = adding-member whole x xs t added start f.adding k e j u puts;
          others = λ i after.
              leaf_at-put t k.leaf_node j u puts i
              ∙ leaf_beside t k.leaf_node i (λ same. omega (arith, index))
              ∙ f.others i (omega arith);
          wide = omega (arith, f.wide, wider o t, count);
          lists = lists-put_leaf first (extended_if_full o t) j (Some k.leaf_node) (lists-extended first t o f.wide f.lists);
        }

-- all members have their leaves
module _ (items : List ListItem) (i : ℕ) (first : Tree) (added front back : List ℕ) (start : ℕ) (past : length items ≤ i)
    (f : Finding (after_adds (new_members items) first) (drop i items) first added start)
    (split : added ≡ front ++ back) (low : All (λ i. i < leaf_count first) front) (high : IfSome (slice_get back 0) (λ i. leaf_count first ≤ i)) where
  abbrev whole : Option AppliedTree
  whole = after_adds (new_members items) first

  same_lists : overfills added f.tree ≡ overfills front first
  same_lists =
      f.lists added f.adding.placed.inside
      ∙ ap (λ js. overfills js first) (split-before (leaf_count first) added front back (placed-up f.tree added start f.adding.placed) split low high)

  -- a list gets too long
  pub finding-refused : overfills front first ≡ true → whole ≡ None
  finding-refused full = adding-refused whole items i f.tree added start past f.adding (same_lists ∙ full)

  pub finding-all : overfills front first ≡ false → IsOutline whole added first
  finding-all fits =
      let u = add_all_unmerged added f.tree in
      let is = adding-all whole items i f.tree added start past f.adding u (same_lists ∙ fits) refl in
      record {
        tree = u;
        is = is;
        others = λ j apart. sym (leaf_outside (new_members items) first (applied_tree u added) j is apart);
      }
