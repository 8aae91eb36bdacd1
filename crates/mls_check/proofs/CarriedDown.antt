-- Unmerged lists that are carried down are consistent.
use Rattle.std.proofs.Common.{◌≡◌, ◌∙◌, ℕ, ◌+◌, ◌*◌, ◌<◌, ◌≤◌, Bool, true, false, List, [], ◌∷◌, ◌++◌, Option, Some, None, refl, sym, ap, subst, IsTrue}
use Rattle.std.specs.Prelude.{nat_lt, ◌&&◌, if◌then◌else◌, All}
use Rattle.std.specs.List.{list_all}
use Rattle.std.specs.List.Sorted.{IsStrictlyIncreasing}
use Rattle.std.proofs.lemmas.Option.{same_Some}
use Rattle.mls_nodes.specs.declared.parent.ParentNode.{ParentNode}
use Rattle.mls_tree.specs.Tree.{Tree, leaf, branch, leaf_count, subtree_at, entry_of}
use Rattle.mls_tree.specs.NodeView.{HasChildren}
use Rattle.mls_check.specs.UnmergedInAll.{is_listed_by_next, is_listed_by_next_at, is_carried_down, IsCarriedDownAt, AreCarriedDown}
use Rattle.mls_check.specs.UnmergedLists.{is_unmerged_in_all, is_consistent, HasConsistentUnmerged, HasSortedList, HasStrictlyIncreasingLists}
use Rattle.mls_check.proofs.Elements.{all-each, contains-found, contains-head}
use Rattle.mls_check.proofs.Everywhere.{Everywhere, everywhere-at, everywhere-from}
use Rattle.mls_check.proofs.Placing.{in_half, halves-apart, asked_everywhere}

-- ---- from the subtrees to the lists

-- each list of a tree is carried down
abbrev AllCarried : ℕ → Tree → Type 0
AllCarried = Everywhere (λ first t. IsTrue (is_carried_down first t))

half : (b x y u v : Bool) → (x ≡ true → u ≡ true) → (y ≡ true → v ≡ true) → (if b then x else y) ≡ true → (if b then u else v) ≡ true
half true x y u v f g h = f h
half false x y u v f g h = g h

in_half_that_holds : (i first : ℕ) (l r : Tree)
    → (is_listed_by_next i first l ≡ true → is_unmerged_in_all i first l ≡ true)
    → (is_listed_by_next i (first + leaf_count l) r ≡ true → is_unmerged_in_all i (first + leaf_count l) r ≡ true)
    → is_listed_by_next i first (branch l None r) ≡ true → is_unmerged_in_all i first (branch l None r) ≡ true
in_half_that_holds i first l r f g h =
    half (nat_lt i (first + leaf_count l)) (is_listed_by_next i first l) (is_listed_by_next i (first + leaf_count l) r)
    (is_unmerged_in_all i first l) (is_unmerged_in_all i (first + leaf_count l) r) f g h

-- so what the next parent lists, every parent lists
listed_in_all : (i first : ℕ) (t : Tree) → AllCarried first t → is_listed_by_next i first t ≡ true → is_unmerged_in_all i first t ≡ true
listed_in_all i first (leaf x) c h = h
listed_in_all i first (branch l None r) c h =
    in_half_that_holds i first l r (listed_in_all i first l c.1) (listed_in_all i (first + leaf_count l) r c.2) h
listed_in_all i first (branch l (Some p) r) c h =
    ap (λ a. a && is_unmerged_in_all i first (branch l None r)) h
    ∙ in_half_that_holds i first l r (listed_in_all i first l c.1) (listed_in_all i (first + leaf_count l) r c.2)
    (all-each (λ k. is_listed_by_next k first (branch l None r)) p.unmerged i c.0 (contains-found p.unmerged i h))

-- a weaker test
all-more : (f g : ℕ → Bool) (xs : List ℕ) → ((i : ℕ) → f i ≡ true → g i ≡ true) → list_all f xs ≡ true → list_all g xs ≡ true
all-more f g [] m h = refl
all-more f g (x ∷ xs) m h =
    let here : f x ≡ true = all-each f (x ∷ xs) x h (contains-head x xs) in
    let later : list_all f xs ≡ true = sym (ap (λ b. b && list_all f xs) here) ∙ h in
    ap (λ b. b && list_all g xs) (m x here) ∙ all-more f g xs m later

carried_consistent : (first : ℕ) (t : Tree) → AllCarried first t → IsTrue (is_consistent first t)
carried_consistent first (leaf x) c = refl
carried_consistent first (branch l None r) c = refl
carried_consistent first (branch l (Some p) r) c =
    all-more (λ i. is_listed_by_next i first (branch l None r)) (λ i. is_unmerged_in_all i first (branch l None r)) p.unmerged
    (λ i h. in_half_that_holds i first l r (listed_in_all i first l c.1) (listed_in_all i (first + leaf_count l) r c.2) h) c.0

pub carried_everywhere : (t : Tree) (n : ℕ) → n + 1 ≡ 2 * leaf_count t → ((p : ℕ) → p < n → IsCarriedDownAt t p) → AreCarriedDown t
carried_everywhere t n e h = asked_everywhere (λ s. IsTrue (is_carried_down s.first s.tree)) t n e h

pub carried_are_consistent : (t : Tree) → AreCarriedDown t → HasConsistentUnmerged t
carried_are_consistent t c p s a =
    let all : AllCarried 0 t = everywhere-from (λ first u. IsTrue (is_carried_down first u)) 0 t c in
    carried_consistent s.first s.tree (everywhere-at (λ first u. IsTrue (is_carried_down first u)) 0 t p s a all)

-- ---- from the halves of a parent to its list

module _ (t : Tree) (p q u m : ℕ) (n : Option ParentNode) (h : HasChildren t p q u m n) (leaves before after : List ℕ)
    (whole : leaves ≡ before ++ after) (low : All (λ i. i < m) before) (high : All (λ i. m ≤ i) after) where
  -- what is listed in both halves
  abbrev pub in_both : Bool
  in_both = list_all (λ i. is_listed_by_next_at (subtree_at 0 t q) i) before && list_all (λ i. is_listed_by_next_at (subtree_at 0 t u) i) after

  in_halves : list_all (in_half is_listed_by_next t p q u m n h) leaves ≡ in_both
  in_halves = halves-apart is_listed_by_next t p q u m n h leaves before after whole low high

  -- is listed under a blank parent
  pub under_blank : n ≡ None → list_all (λ i. is_listed_by_next_at (subtree_at 0 t p) i) leaves ≡ in_both
  under_blank e =
      (λ j. list_all (λ i. is_listed_by_next_at (h.whole j) i) leaves)
      ∙ ap (λ o. list_all (λ i. is_listed_by_next i h.first (branch h.left o h.right)) leaves) e
      ∙ in_halves

  -- and a list is carried down if it is listed in both halves
  pub under_own : (own : ParentNode) → n ≡ Some own → own.unmerged ≡ leaves → (r : Bool) → r ≡ in_both → (IsTrue r → IsCarriedDownAt t p) × (IsCarriedDownAt t p → IsTrue r)
  under_own own e f r found =
      let g : list_all (in_half is_listed_by_next t p q u m n h) own.unmerged ≡ r = ap (λ xs. list_all (in_half is_listed_by_next t p q u m n h) xs) f ∙ in_halves ∙ sym found in (
        λ w s a. let k : record { first = h.first; tree = branch h.left n h.right } ≡ s = same_Some _ s (sym h.whole ∙ a) in
            subst (λ v. IsTrue (is_carried_down v.first v.tree)) k
            (subst (λ o. IsTrue (is_carried_down h.first (branch h.left o h.right))) (sym e) (g ∙ w)),
        λ w. sym g ∙ subst (λ o. IsTrue (is_carried_down h.first (branch h.left o h.right))) e (w (record { first = h.first; tree = branch h.left n h.right }) h.whole),
      )

-- the list of a parent in a tree with increasing lists
pub own_list_increases : (t : Tree) (p q u m : ℕ) (n : ParentNode) → HasChildren t p q u m (Some n) → HasStrictlyIncreasingLists t → IsStrictlyIncreasing n.unmerged
own_list_increases t p q u m n h sorted = subst (λ o. HasSortedList (entry_of o)) h.whole (sorted p)
