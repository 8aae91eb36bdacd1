-- Entries that are placed, by the halves of their parent.
use Rattle.std.proofs.Common.{◌≡◌, ◌≢◌, ℕ, ◌+◌, ◌*◌, ◌<◌, ◌≤◌, Bool, true, false, List, [], ◌∷◌, ◌++◌, Option, Some, None, is_some, refl, sym, ap, ◌∙◌, subst, inl, inr, arith, length, get_or, IsTrue}
use Rattle.std.specs.Prelude.{nat_lt, ◌==◌, ◌&&◌, if◌then◌else◌, All}
use Rattle.std.specs.List.{Contains, list_all}
use Rattle.std.specs.List.Sorted.{IsStrictlyIncreasing}
use Rattle.std.proofs.lemmas.Option.{same_Some, none-some}
use Rattle.std.proofs.lemmas.Bool.{cases_lt, cases_Bool, false≢true, eqb-true}
use Rattle.std.proofs.lemmas.List.Elements.{All-weaker, Contains-get_or}
use Rattle.std.proofs.lemmas.List.Folds.{list_all-append}
use Rattle.mls_nodes.specs.declared.leaf.LeafNode.{LeafNode}
use Rattle.mls_nodes.specs.declared.parent.ParentNode.{ParentNode}
use Rattle.mls_tree.specs.Tree.{Tree, leaf, branch, leaf_count, Subtree, subtree_at, entry_of}
use Rattle.mls_tree.specs.NodeView.{HasChildren}
use Rattle.mls_tree.proofs.Choices.{below, from}
use Rattle.mls_tree.proofs.Descent.{depth}
use Rattle.mls_check.specs.UnmergedInAll.{holds_at, is_unmerged_in_all_at}
use Rattle.mls_check.specs.UnmergedLists.{is_blank_or_lists, is_unmerged_in_all, is_consistent, HasConsistentUnmergedAt, IsSortedAt, HasSortedList}
use Rattle.mls_check.proofs.Elements.{contains-head, contains-tail, all-each, and-left}
use Rattle.mls_check.proofs.Outside.{outside_above}
use Rattle.mls_check.proofs.Walks.{one-fails, list_all-and, list_all-same, contained}

-- where there is no subtree, no test of a leaf holds
pub none-entered : (test : ℕ → ℕ → Tree → Bool) (t : Tree) (p : ℕ) (leaves : List ℕ) → 0 < length leaves → subtree_at 0 t p ≡ None → false ≡ list_all (λ i. holds_at test (subtree_at 0 t p) i) leaves
none-entered test t p leaves l e =
    one-fails (λ i. holds_at test (subtree_at 0 t p) i) leaves 0 l (λ h. false≢true (sym (ap (λ s. holds_at test s (get_or leaves 0 0)) e) ∙ h))

-- under a leaf, a test that holds of that leaf alone
module _ (test : ℕ → ℕ → Tree → Bool) (t : Tree) (p index : ℕ) (x : Option LeafNode) (alone : (i : ℕ) → test i index (leaf x) ≡ ((i == index) && is_some x))
    (at : subtree_at 0 t p ≡ Some (record { first = index; tree = leaf x })) (leaves : List ℕ) where
  entered-here : list_all (λ i. holds_at test (subtree_at 0 t p) i) leaves ≡ list_all (λ i. (i == index) && is_some x) leaves
  entered-here = (λ j. list_all (λ i. holds_at test (at j) i) leaves) ∙ (λ j. list_all (λ i. alone i j) leaves)

  pub others-entered : 0 < length leaves → IsStrictlyIncreasing leaves → leaves ≢ index ∷ [] → false ≡ list_all (λ i. holds_at test (subtree_at 0 t p) i) leaves
  others-entered l increasing n = go leaves l increasing n ∙ sym entered-here
    where
      same : (xs : List ℕ) → list_all (λ i. (i == index) && is_some x) xs ≡ true → (k : ℕ) → k < length xs → get_or xs k 0 ≡ index
      same xs h k l = eqb-true (get_or xs k 0) index (and-left (get_or xs k 0 == index) (is_some x) (all-each (λ i. (i == index) && is_some x) xs (get_or xs k 0) h (Contains-get_or xs k 0 l)))

      all : (xs : List ℕ) → 0 < length xs → IsStrictlyIncreasing xs → xs ≢ index ∷ [] → list_all (λ i. (i == index) && is_some x) xs ≡ true → ⊥
      all [] l r n h = omega (arith, l)
      all (y ∷ []) l r n h = n (ap (λ k. k ∷ []) (same (y ∷ []) h 0 l))
      all (y ∷ z ∷ zs) l r n h = (let a = same (y ∷ z ∷ zs) h 0 l in let b = same (y ∷ z ∷ zs) h 1 (omega arith) in let c = r 0 (omega arith) in omega (arith, a, b, c))

      go : (xs : List ℕ) → 0 < length xs → IsStrictlyIncreasing xs → xs ≢ index ∷ [] → false ≡ list_all (λ i. (i == index) && is_some x) xs
      go xs l r n = elim (cases_Bool (list_all (λ i. (i == index) && is_some x) xs)) [ inl e ↦ absurd (all xs l r n e) | inr e ↦ sym e ]

-- the left child of a parent is nearer to the leaves
pub left_lower : (t : Tree) (p q u m : ℕ) (n : Option ParentNode) (h : HasChildren t p q u m n) → depth (subtree_at 0 t q) < depth (subtree_at 0 t p)
left_lower t p q u m n h = omega (arith, ap depth h.left_child, ap depth h.whole)

-- under a parent, a test of the leaves in the half that they lie in
module _ (test : ℕ → ℕ → Tree → Bool) (t : Tree) (p q u m : ℕ) (n : Option ParentNode) (h : HasChildren t p q u m n) where
  abbrev pub in_half : ℕ → Bool
  in_half i = if nat_lt i (h.first + leaf_count h.left) then test i h.first h.left else test i (h.first + leaf_count h.left) h.right

  pub halves-apart : (leaves before after : List ℕ) → leaves ≡ before ++ after → All (λ i. i < m) before → All (λ i. m ≤ i) after
      → list_all in_half leaves ≡ (list_all (λ i. holds_at test (subtree_at 0 t q) i) before && list_all (λ i. holds_at test (subtree_at 0 t u) i) after)
  halves-apart leaves before after e low high =
      ap (λ xs. list_all in_half xs) e
      ∙ list_all-append in_half before after
      ∙ ap (λ a. a && list_all in_half after)
      (list_all-same in_half (λ i. holds_at test (subtree_at 0 t q) i) before
      (All-weaker (λ i. i < m) (λ i. in_half i ≡ holds_at test (subtree_at 0 t q) i)
      (λ i l. below i (h.first + leaf_count h.left) (test i h.first h.left) (test i (h.first + leaf_count h.left) h.right) (let s = h.split in omega (arith, l, s)) ∙ sym (ap (λ s. holds_at test s i) h.left_child)) before low))
      ∙ ap (λ a. list_all (λ i. holds_at test (subtree_at 0 t q) i) before && a)
      (list_all-same in_half (λ i. holds_at test (subtree_at 0 t u) i) after
      (All-weaker (λ i. m ≤ i) (λ i. in_half i ≡ holds_at test (subtree_at 0 t u) i)
      (λ i l. from i (h.first + leaf_count h.left) (test i h.first h.left) (test i (h.first + leaf_count h.left) h.right) (let s = h.split in omega (arith, l, s)) ∙ sym (ap (λ s. holds_at test s i) h.right_child)) after high))

-- under a parent, those that it lists and that are entered in the half that they lie in
module _ (t : Tree) (p q u m : ℕ) (n : Option ParentNode) (h : HasChildren t p q u m n) where
  abbrev pub in_child : ℕ → Bool
  in_child i = in_half is_unmerged_in_all t p q u m n h i

  pub parent-entered : (leaves : List ℕ) → list_all (λ i. is_unmerged_in_all_at (subtree_at 0 t p) i) leaves ≡ (list_all (λ i. is_blank_or_lists n i) leaves && list_all in_child leaves)
  parent-entered leaves = (λ j. list_all (λ i. is_unmerged_in_all_at (h.whole j) i) leaves) ∙ list_all-and (λ i. is_blank_or_lists n i) in_child leaves

  pub apart-entered : (leaves before after : List ℕ) → leaves ≡ before ++ after → All (λ i. i < m) before → All (λ i. m ≤ i) after → list_all (λ i. is_blank_or_lists n i) leaves ≡ true
      → list_all (λ i. is_unmerged_in_all_at (subtree_at 0 t p) i) leaves
      ≡ (list_all (λ i. is_unmerged_in_all_at (subtree_at 0 t q) i) before && list_all (λ i. is_unmerged_in_all_at (subtree_at 0 t u) i) after)
  apart-entered leaves before after e low high listed =
      parent-entered leaves ∙ ap (λ a. a && list_all in_child leaves) listed ∙ halves-apart is_unmerged_in_all t p q u m n h leaves before after e low high

-- a parent lists each of its own leaves
own-listed : (n : ParentNode) (xs : List ℕ) → ((i : ℕ) → Contains xs i → Contains n.unmerged i) → list_all (λ i. is_blank_or_lists (Some n) i) xs ≡ true
own-listed n [] h = refl
own-listed n (x ∷ xs) h = ap (λ a. a && list_all (λ i. is_blank_or_lists (Some n) i) xs) (contained n.unmerged x (h x (contains-head x xs))) ∙ own-listed n xs (λ i c. h i (contains-tail x xs i c))

module _ (t : Tree) (p q u m : ℕ) where
  pub consistent-parent : (n : ParentNode) → (h : HasChildren t p q u m (Some n))
      → list_all (λ i. is_unmerged_in_all_at (subtree_at 0 t p) i) n.unmerged ≡ is_consistent h.first (branch h.left (Some n) h.right)
  consistent-parent n h = parent-entered t p q u m (Some n) h n.unmerged ∙ ap (λ a. a && list_all (in_child t p q u m (Some n) h) n.unmerged) (own-listed n n.unmerged (λ i c. c))

  -- what the entries of the parent were found to be
  pub consistent_here : (n : ParentNode) → HasChildren t p q u m (Some n) → (r : Bool) → r ≡ list_all (λ i. is_unmerged_in_all_at (subtree_at 0 t p) i) n.unmerged
      → (IsTrue r → HasConsistentUnmergedAt t p) × (HasConsistentUnmergedAt t p → IsTrue r)
  consistent_here n h r e =
      let f = e ∙ consistent-parent n h in (
        λ w s a. let k : record { first = h.first; tree = branch h.left (Some n) h.right } ≡ s = same_Some _ s (sym h.whole ∙ a) in
            subst (λ v. IsTrue (is_consistent v.first v.tree)) k (sym f ∙ w),
        λ w. f ∙ w (record { first = h.first; tree = branch h.left (Some n) h.right }) h.whole,
      )

-- there is nothing to ask past the last place
pub asked_everywhere : (P : Subtree → Type 0) (t : Tree) (n : ℕ) → n + 1 ≡ 2 * leaf_count t
    → ((p : ℕ) → p < n → (s : Subtree) → subtree_at 0 t p ≡ Some s → P s) → (p : ℕ) (s : Subtree) → subtree_at 0 t p ≡ Some s → P s
asked_everywhere P t n e h p s a =
    elim (cases_lt p n) [ inl l ↦ h p l s a | inr g ↦ absurd (none-some s (sym (outside_above t p n e g) ∙ a)) ]

pub consistent_everywhere : (t : Tree) (n : ℕ) → n + 1 ≡ 2 * leaf_count t → ((p : ℕ) → p < n → HasConsistentUnmergedAt t p) → (p : ℕ) → HasConsistentUnmergedAt t p
consistent_everywhere t n e h = asked_everywhere (λ s. IsTrue (is_consistent s.first s.tree)) t n e h

pub sorted_everywhere : (t : Tree) (n : ℕ) → n + 1 ≡ 2 * leaf_count t → ((p : ℕ) → p < n → IsSortedAt t p) → (p : ℕ) → IsSortedAt t p
sorted_everywhere t n e h p =
    elim (cases_lt p n) [ inl l ↦ h p l | inr g ↦ subst (λ o. HasSortedList (entry_of o)) (sym (outside_above t p n e g)) tt ]
