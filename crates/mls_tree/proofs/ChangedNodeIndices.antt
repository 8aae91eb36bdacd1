-- The node indices at which a tree differs from the tree before a change.
use Rattle.std.proofs.Common.{◌≡◌, ◌≢◌, get_or, ℕ, Bool, cond, zero, suc, ◌+◌, ◌*◌, ◌-◌, ◌/◌, ◌<◌, ◌≤◌, List, [], ◌∷◌, ◌++◌, drop, length, Option, Some, None, true, false, refl, sym, ap, ◌∙◌, subst, inl, inr, arith, unwrap_or, nat_lt, Box, Global}
use Rattle.std.specs.Prelude.{slice_get, ◌⊎◌, ◌==◌, ◌&&◌, if◌then◌else◌, is_some}
use Rattle.std.specs.List.{list_any, filter, range_with_len}
use Rattle.std.proofs.lemmas.Bool.{cases_lt, eqb-true}
use Rattle.std.proofs.lemmas.Bool.Decides.{nat_tests}
use Rattle.std.proofs.lemmas.List.{append_assoc, drop_more}
use Rattle.std.proofs.lemmas.List.Elements.{filter-append}
use Rattle.std.proofs.lemmas.List.Folds.{list_any-append}
use Rattle.std.proofs.lemmas.Map.Views.{any-filter_same}
use Rattle.std.proofs.lemmas.Option.{slice_get_past}
use Rattle.std.proofs.Math.ListN.{drop_of_length-le}
use Rattle.mls_nodes.specs.declared.leaf.LeafNode.{LeafNode}
use Rattle.mls_nodes.specs.declared.parent.ParentNode.{ParentNode}
use Rattle.mls_nodes.specs.NodeModel.{NodeValue}
use Rattle.mls_tree.specs.Tree.{Tree, leaf, branch, height, leaf_count, listing, leaf_entry, parent_entry, node_at, Subtree, subtree_at, IsBranch, IsParent, IsPerfect, entry_of}
use Rattle.mls_tree.specs.TreeInternal.{leaves_at}
use Rattle.mls_tree.specs.RatchetTree.{HasShape, RatchetTree}
use Rattle.mls_tree.specs.PublicTreeModel.{KeptTree}
use Rattle.mls_tree.specs.TreeOperations.{put_leaf, put_parent, left_subtree, rejoined}
use Rattle.mls_tree.specs.Journals.{undone, all_undone}
use Rattle.mls_tree.specs.ChangedNodes.{AgreeExceptAt}
use Rattle.mls_tree.specs.declared.journal.UndoEntry.{UndoEntry}
use Rattle.mls_tree.specs.declared.journal.UndoEntry.TheVariants.{Leaf, Parent, AddedUnmerged, Extended, Truncated, Hash}
use Rattle.mls_tree.proofs.Arrays.{slice_get-set_other}
use Rattle.mls_tree.proofs.Choices.{false_no_true, below}
use Rattle.mls_tree.proofs.Elsewhere.{put_parent-elsewhere}
use Rattle.mls_tree.proofs.Growing.{slice_get-append_left}
use Rattle.mls_tree.proofs.Kept.{either, or_none, height-put_leaf, IsPerfect-put_leaf, leaf_count-put_leaf, leaf_count-put_parent}
use Rattle.mls_tree.proofs.Positions.{node_at-listing}
use Rattle.mls_tree.proofs.Fronts.{rejoined-low, shape-rejoined, fewer-leaves, leaves-le, leaf_count-rejoined, subtree_at-kept, node_at-behind}
use Rattle.mls_tree.proofs.Replacing.{listing-put_leaf, listing-put_parent}
use Rattle.mls_tree.proofs.Trees.{leaf_count-positive, leaf_count-perfect, length-listing, subtree_at-none}
use Rattle.mls_tree.proofs.Numbers.{leaves_at-low}

-- ---- lists of node indices

-- what two lists name together
pub same-append : (old mid new : Tree) (ps qs : List ℕ) → AgreeExceptAt qs old mid → AgreeExceptAt ps mid new → AgreeExceptAt (ps ++ qs) old new
same-append old mid new ps qs a b p out = let e = or_none _ _ (sym (list_any-append (λ q. q == p) ps qs) ∙ out) in a p e.1 ∙ b p e.0

is_one : (q p : ℕ) → p ≡ q → (q == p) ≡ true
is_one q p e = grind (arith, nat_tests)

not_one : (q p : ℕ) → (q == p) ≡ false → p ≢ q
not_one q p out e = false_no_true (sym out ∙ is_one q p e)

-- a node index that is not in a range
outside : (a n p : ℕ) → list_any (λ q. q == p) (range_with_len a n) ≡ false → (p < a) ⊎ (a + n ≤ p)
outside a zero p out = elim (cases_lt p a) [ inl lt ↦ inl lt | inr ge ↦ inr (omega arith) ]
outside a (suc n) p out =
    let parts = or_none (a == p) (list_any (λ q. q == p) (range_with_len (a + 1) n)) out in
    let away = not_one a p parts.0 in
    elim (outside (a + 1) n p parts.1) [
      | inl lt ↦ inl (elim (cases_lt p a) [ inl less ↦ less | inr ge ↦ absurd (away (omega arith)) ])
      | inr ge ↦ inr (omega arith)
    ]

-- a range by one node index longer
range-more : (a n : ℕ) → range_with_len a (n + 1) ≡ range_with_len a n ++ (a + n) ∷ []
range-more a zero = ap (λ k. k ∷ []) (let e : a ≡ a + 0 = omega arith in e)
range-more a (suc n) =
    ap (λ k. range_with_len a k) (let e : suc n + 1 ≡ suc (n + 1) = omega arith in e)
    ∙ ap (λ v. a ∷ v) (range-more (a + 1) n)
    ∙ ap (λ k. a ∷ (range_with_len (a + 1) n ++ k ∷ [])) (let e : a + 1 + n ≡ a + suc n = omega arith in e)

-- the non-blank nodes of a range by one node index longer
pub non_blank-more : (u : Tree) (old mid new : List ℕ) (a n : ℕ) (b : Bool) → mid ≡ old ++ filter (λ q. is_some (node_at u q)) (range_with_len a n)
    → is_some (node_at u (a + n)) ≡ b → new ≡ mid ++ cond b ((a + n) ∷ []) [] → new ≡ old ++ filter (λ q. is_some (node_at u q)) (range_with_len a (n + 1))
non_blank-more u old mid new a n b e here pushed =
    let test : ℕ → Bool = λ q. is_some (node_at u q) in
    let last = cond b ((a + n) ∷ []) [] in
    pushed ∙ ap (λ v. v ++ last) e ∙ append_assoc old (filter test (range_with_len a n)) last
    ∙ ap (λ v. old ++ v)
    (sym
    (ap (filter test) (range-more a n) ∙ filter-append test (range_with_len a n) ((a + n) ∷ [])
    ∙ ap (λ k. filter test (range_with_len a n) ++ cond k ((a + n) ∷ []) []) here))

not_both : (o : Option NodeValue) (b : Bool) → (is_some o && b) ≡ false → (o ≡ None) ⊎ (b ≡ false)
not_both None b e = inl refl
not_both (Some x) b e = inr e

-- a node index that is not among the non-blank nodes of a range
not_listed : (u : Tree) (a n p : ℕ) → list_any (λ q. q == p) (filter (λ q. is_some (node_at u q)) (range_with_len a n)) ≡ false
    → (node_at u p ≡ None) ⊎ ((p < a) ⊎ (a + n ≤ p))
not_listed u a n p out =
    let whole = any-filter_same (λ q. q == p) (λ q. is_some (node_at u q)) (is_some (node_at u p)) (λ q e. ap (λ k. is_some (node_at u k)) (eqb-true q p e)) (range_with_len a n) in
    elim (not_both (node_at u p) (list_any (λ q. q == p) (range_with_len a n)) (sym whole ∙ out)) [ inl blank ↦ inl blank | inr none ↦ inr (outside a n p none) ]

-- ---- one node is replaced

same-put_leaf : (t : Tree) (i : ℕ) (x : Option LeafNode) → i < leaf_count t → AgreeExceptAt (2 * i ∷ []) (put_leaf 0 t i x) t
same-put_leaf t i x inside p out =
    let away = not_one (2 * i) p ((or_none (2 * i == p) false out).0) in
    node_at-listing (put_leaf 0 t i x) p
    ∙ ap (λ v. unwrap_or (slice_get v p) None) (listing-put_leaf t i x inside)
    ∙ ap (λ o. unwrap_or o None) (slice_get-set_other (listing t) (2 * i) p (leaf_entry x) away)
    ∙ sym (node_at-listing t p)

branch_or_not : (t : Tree) → IsBranch t ⊎ (¬ IsBranch t)
branch_or_not (leaf x) = inr (λ h. h)
branch_or_not (branch l n r) = inl tt

parent_or_not : (o : Option Subtree) → IsParent o ⊎ (¬ IsParent o)
parent_or_not None = inr (λ h. h)
parent_or_not (Some s) = branch_or_not s.tree

same-put_parent : (t : Tree) (q : ℕ) (x : Option ParentNode) → AgreeExceptAt (q ∷ []) (put_parent 0 t q x) t
same-put_parent t q x p out =
    let away = not_one q p ((or_none (q == p) false out).0) in
    elim (parent_or_not (subtree_at 0 t q)) [
      | inl there ↦
          node_at-listing (put_parent 0 t q x) p
          ∙ ap (λ v. unwrap_or (slice_get v p) None) (listing-put_parent t q x there)
          ∙ ap (λ o. unwrap_or o None) (slice_get-set_other (listing t) q p (parent_entry x) away)
          ∙ sym (node_at-listing t p)
      | inr none ↦ ap (λ v. node_at v p) (put_parent-elsewhere t q x none)
    ]

-- ---- a right subtree is added or removed

-- the left subtree has the nodes of the whole except those from the root on
left-entry : (l : Tree) (n : Option ParentNode) (r : Tree) (p : ℕ) → (p < 2 * leaf_count l - 1) ⊎ (2 * leaf_count l - 1 + 2 * leaf_count r ≤ p)
    → node_at l p ≡ node_at (branch l n r) p
left-entry l n r p away =
    let whole = length-listing (branch l n r) in
    node_at-listing l p
    ∙ ap (λ o. unwrap_or o None)
    (elim away [
      | inl lt ↦ sym (slice_get-append_left (listing l) (parent_entry n ∷ listing r) p (omega (arith, length-listing l)))
      | inr ge ↦
          slice_get_past (listing l) p (omega (arith, length-listing l))
          ∙ sym (slice_get_past (listing (branch l n r)) p (omega (arith, whole, length-listing l)))
    ])
    ∙ sym (node_at-listing (branch l n r) p)

halves-count : (l r : Tree) (n : Option ParentNode) → IsPerfect (branch l n r) → leaf_count l ≡ leaf_count r
halves-count l r n h = leaf_count-perfect l h.1 ∙ ap leaves_at h.0 ∙ sym (leaf_count-perfect r h.2)

-- ---- the shape of the tree before one change

pub height-put_parent : (first : ℕ) (t : Tree) (p : ℕ) (x : Option ParentNode) → height (put_parent first t p x) ≡ height t
height-put_parent first (leaf _) p x = refl
height-put_parent first (branch l n r) p x =
    either (λ t. height t ≡ suc (height l)) (p + 1 == 2 * (first + leaf_count l)) (branch l x r)
    (if nat_lt (p + 1) (2 * (first + leaf_count l)) then branch (put_parent first l p x) n r else branch l n (put_parent (first + leaf_count l) r p x)) refl
    (either (λ t. height t ≡ suc (height l)) (nat_lt (p + 1) (2 * (first + leaf_count l))) (branch (put_parent first l p x) n r) (branch l n (put_parent (first + leaf_count l) r p x))
    (ap (λ k. suc k) (height-put_parent first l p x)) refl)

IsPerfect-put_parent : (first : ℕ) (t : Tree) (p : ℕ) (x : Option ParentNode) → IsPerfect t → IsPerfect (put_parent first t p x)
IsPerfect-put_parent first (leaf _) p x h = h
IsPerfect-put_parent first (branch l n r) p x h =
    either IsPerfect (p + 1 == 2 * (first + leaf_count l)) (branch l x r)
    (if nat_lt (p + 1) (2 * (first + leaf_count l)) then branch (put_parent first l p x) n r else branch l n (put_parent (first + leaf_count l) r p x)) h
    (either IsPerfect (nat_lt (p + 1) (2 * (first + leaf_count l))) (branch (put_parent first l p x) n r) (branch l n (put_parent (first + leaf_count l) r p x))
    (height-put_parent first l p x ∙ h.0, IsPerfect-put_parent first l p x h.1, h.2)
    (h.0 ∙ sym (height-put_parent (first + leaf_count l) r p x), h.1, IsPerfect-put_parent (first + leaf_count l) r p x h.2))

shape-put_leaf : (t : Tree) (i : ℕ) (x : Option LeafNode) → HasShape t → HasShape (put_leaf 0 t i x)
shape-put_leaf t i x s = record { perfect = IsPerfect-put_leaf 0 t i x s.perfect; low = let low = s.low in omega (arith, height-put_leaf 0 t i x) }

shape-put_parent : (t : Tree) (p : ℕ) (x : Option ParentNode) → HasShape t → HasShape (put_parent 0 t p x)
shape-put_parent t p x s = record { perfect = IsPerfect-put_parent 0 t p x s.perfect; low = let low = s.low in omega (arith, height-put_parent 0 t p x) }

shape-left_subtree : (t : Tree) → HasShape t → HasShape (left_subtree t)
shape-left_subtree (leaf x) s = s
shape-left_subtree (branch l n r) s = record { perfect = s.perfect.1; low = let low = s.low in omega arith }

shape-before : (x : UndoEntry) (t : Tree) → HasShape t → HasShape (undone x t)
shape-before (Leaf i x) t s =
    either HasShape (nat_lt i (leaf_count t)) (put_leaf 0 t i x) t (shape-put_leaf t i x s) s
shape-before (Parent p x) t s = shape-put_parent t p _ s
shape-before (AddedUnmerged p i) t s = shape-put_parent t p _ s
shape-before Extended t s = shape-left_subtree t s
shape-before (Truncated b) t s = shape-rejoined t b.value.tree s b.value.shape
shape-before (Hash b) t s = s

-- ---- the node indices of one change

-- the tree before a change of a tree of n leaves has m leaves; and the node indices of `new` are those of `old` and each at which
-- the change has done something
pub record Lists (u : Tree) (old new : List ℕ) (n m : ℕ) (x : UndoEntry) : Type 0 where
  pub count : (t : RatchetTree) → leaf_count t.tree ≡ n → leaf_count (undone x t.tree) ≡ m
  pub node_indices : (t : RatchetTree) → leaf_count t.tree ≡ n → AgreeExceptAt old t.tree u → AgreeExceptAt new (undone x t.tree) u

-- if the node indices of the change are added
lists_changes-added : (u : Tree) (old new more : List ℕ) (n m : ℕ) (x : UndoEntry) → new ≡ old ++ more
    → ((t : RatchetTree) → leaf_count t.tree ≡ n → (leaf_count (undone x t.tree) ≡ m) × AgreeExceptAt more (undone x t.tree) t.tree) → Lists u old new n m x
lists_changes-added u old new more n m x pushed changes_listed = record {
  count = λ t e. (changes_listed t e).0;
  node_indices = λ t e same.
      subst (λ ps. AgreeExceptAt ps (undone x t.tree) u) (sym pushed) (same-append (undone x t.tree) t.tree u old more ((changes_listed t e).1) same);
}

-- where the change was none
lists_changes-none : (u : Tree) (old new : List ℕ) (n : ℕ) (x : UndoEntry) → new ≡ old → ((t : RatchetTree) → leaf_count t.tree ≡ n → undone x t.tree ≡ t.tree) → Lists u old new n n x
lists_changes-none u old new n x stays none = record {
  count = λ t e. ap leaf_count (none t e) ∙ e;
  node_indices = λ t e same p out. ap (λ v. node_at v p) (none t e) ∙ same p (ap (λ ps. list_any (λ q. q == p) ps) (sym stays) ∙ out);
}

module _ (u : Tree) (old new : List ℕ) (n : ℕ) where
  pub lists_changes-leaf : (i : ℕ) (x : _) → i < n → new ≡ old ++ 2 * i ∷ [] → Lists u old new n n (Leaf i x)
  lists_changes-leaf i x inside pushed =
      lists_changes-added u old new (2 * i ∷ []) n n (Leaf i x) pushed
      (λ t e.
      let put : undone (Leaf i x) t.tree ≡ put_leaf 0 t.tree i x = below i (leaf_count t.tree) (put_leaf 0 t.tree i x) t.tree (omega arith) in (
        ap leaf_count put ∙ leaf_count-put_leaf 0 t.tree i x ∙ e,
        subst (λ w. AgreeExceptAt (2 * i ∷ []) w t.tree) (sym put) (same-put_leaf t.tree i x (omega arith)),
      ))

  pub lists_changes-parent : (p : ℕ) (x : _) → new ≡ old ++ p ∷ [] → Lists u old new n n (Parent p x)
  lists_changes-parent p x pushed =
      lists_changes-added u old new (p ∷ []) n n (Parent p x) pushed (λ t e. (leaf_count-put_parent 0 t.tree p _ ∙ e, same-put_parent t.tree p _))

  pub lists_changes-in_lists : (p i : ℕ) → new ≡ old ++ p ∷ [] → Lists u old new n n (AddedUnmerged p i)
  lists_changes-in_lists p i pushed =
      lists_changes-added u old new (p ∷ []) n n (AddedUnmerged p i) pushed (λ t e. (leaf_count-put_parent 0 t.tree p _ ∙ e, same-put_parent t.tree p _))

-- a tree of one leaf has no subtree
no_half : (t : Tree) → leaf_count t ≡ 1 → left_subtree t ≡ t
no_half (leaf x) e = refl
no_half (branch l n r) e = absurd (omega (arith, leaf_count-positive l, leaf_count-positive r))

pub lists_changes-one : (u : Tree) (old new : List ℕ) (n : ℕ) → n ≡ 1 → new ≡ old → Lists u old new n 1 Extended
lists_changes-one u old new n one stays = subst (λ m. Lists u old new n m Extended) one (lists_changes-none u old new n Extended stays (λ t e. no_half t.tree (e ∙ one)))

-- the left subtree, and its nodes
half-kept : (t : Tree) (n half : ℕ) → IsPerfect t → leaf_count t ≡ n → n ≢ 1 → half ≡ n / 2
    → (leaf_count (left_subtree t) ≡ half) × ((p : ℕ) → (p < 2 * half - 1) ⊎ (2 * half - 1 + 2 * (n - half) ≤ p) → node_at (left_subtree t) p ≡ node_at t p)
half-kept (leaf x) n half h e more at = absurd (more (sym e))
half-kept (branch l v r) n half h e more at =
    let level = halves-count l r v h in (
      omega arith,
      λ p away. left-entry l v r p (elim away [ inl lt ↦ inl (omega arith) | inr ge ↦ inr (omega arith) ]),
    )

-- after the left subtree only the non-blank nodes of the changed tree are listed
pub lists_changes-grown : (u : Tree) (old new : List ℕ) (n half : ℕ) → n ≢ 1 → half ≡ n / 2
    → new ≡ old ++ filter (λ q. is_some (node_at u q)) (range_with_len (2 * half - 1) (2 * (n - half))) → Lists u old new n half Extended
lists_changes-grown u old new n half more at pushed =
    let a = 2 * half - 1 in
    let count = 2 * (n - half) in
    let added = filter (λ q. is_some (node_at u q)) (range_with_len a count) in
    record {
      count = λ t e. (half-kept t.tree n half t.shape.perfect e more at).0;
      node_indices = λ t e same p out.
          let kept = half-kept t.tree n half t.shape.perfect e more at in
          let parts = or_none _ _ (sym (list_any-append (λ q. q == p) old added) ∙ ap (λ ps. list_any (λ q. q == p) ps) (sym pushed) ∙ out) in
          let elsewhere : (p < a) ⊎ (a + count ≤ p) → node_at (left_subtree t.tree) p ≡ node_at u p = λ away. kept.1 p away ∙ same p parts.0 in
          elim (not_listed u a count p parts.1) [
            | inl blank ↦
                elim (cases_lt p a) [
                  | inl lt ↦ elsewhere (inl lt)
                  | inr ge ↦ let long = kept.0 in ap entry_of (subtree_at-none 0 (left_subtree t.tree) p (omega arith)) ∙ sym blank
                ]
            | inr away ↦ elsewhere away
          ];
    }

pub few-leaves : (t : Tree) → HasShape t → leaf_count t ≤ 1048576
few-leaves t s = omega (arith, leaf_count-perfect t s.perfect, leaves_at-low (height t) s.low)

-- a tree with as many leaves is as high
not-higher : (t w : Tree) → IsPerfect t → IsPerfect w → leaf_count w ≤ leaf_count t → height w ≤ height t
not-higher t w a b le = elim (cases_lt (height t) (height w)) [ inl lt ↦ absurd (let more = fewer-leaves t w a b lt in omega arith) | inr ge ↦ ge ]

pub lists_changes-no_whole : (u : Tree) (old new : List ℕ) (n : ℕ) (b : Box KeptTree Global) → leaf_count b.value.tree ≤ n → new ≡ old → Lists u old new n n (Truncated b)
lists_changes-no_whole u old new n b low stays =
    let w = b.value in
    lists_changes-none u old new n (Truncated b) stays (λ t e. rejoined-low t.tree w.tree (not-higher t.tree w.tree t.shape.perfect w.shape.perfect (omega arith)))

-- after the leftmost subtree are the nodes of the whole
same-rejoined : (t w : Tree) (n m : ℕ) → IsPerfect t → IsPerfect w → leaf_count t ≡ n → leaf_count w ≡ m → n < m
    → (leaf_count (rejoined t w) ≡ m) × ((p : ℕ) → list_any (λ q. q == p) (filter (λ q. is_some (node_at w q)) (range_with_len (2 * n - 1) (2 * (m - n)))) ≡ false
    → node_at (rejoined t w) p ≡ node_at t p)
same-rejoined t w n m a b few many more =
    let low : height t ≤ height w = elim (cases_lt (height w) (height t)) [ inl lt ↦ absurd (let less = leaves-le w t b a (omega arith) in omega arith) | inr ge ↦ ge ] in
    let count = leaf_count-rejoined t w a b low in
    let none : (p : ℕ) → 2 * n - 1 ≤ p → node_at t p ≡ None = λ p ge. ap entry_of (subtree_at-none 0 t p (omega arith)) in (
      count ∙ many,
      λ p out. elim (cases_lt p (2 * n - 1)) [
        | inl lt ↦ ap entry_of (subtree_at-kept t w p (omega arith))
        | inr ge ↦
            elim (not_listed w (2 * n - 1) (2 * (m - n)) p out) [
              | inl blank ↦ node_at-behind t w p a b (omega arith) ∙ blank ∙ sym (none p ge)
              | inr away ↦ ap entry_of (subtree_at-none 0 (rejoined t w) p (elim away [ inl lt ↦ absurd (omega arith) | inr past ↦ omega arith ])) ∙ sym (none p ge)
            ]
      ],
    )

pub lists_changes-truncated : (u : Tree) (old new : List ℕ) (n m : ℕ) (b : Box KeptTree Global) → m ≡ leaf_count b.value.tree → n < m
    → new ≡ old ++ filter (λ q. is_some (node_at b.value.tree q)) (range_with_len (2 * n - 1) (2 * (m - n))) → Lists u old new n m (Truncated b)
lists_changes-truncated u old new n m b whole more pushed =
    let w = b.value in
    lists_changes-added u old new (filter (λ q. is_some (node_at w.tree q)) (range_with_len (2 * n - 1) (2 * (m - n)))) n m (Truncated b) pushed
    (λ t e. same-rejoined t.tree w.tree n m t.shape.perfect w.shape.perfect e (sym whole) more)

-- ---- the node indices of the last changes of a journal

-- the tree before the changes xs has n leaves, and the node indices are those of all these changes
pub record AreListedOf (xs : List UndoEntry) (t : Tree) (node_indices : List ℕ) (n : ℕ) : Type 0 where
  pub shape : HasShape (all_undone xs t)
  pub count : leaf_count (all_undone xs t) ≡ n
  pub same : AgreeExceptAt node_indices (all_undone xs t) t

pub changes_listed-start : (all : List UndoEntry) (t : Tree) (node_indices : List ℕ) (n : ℕ) → HasShape t → node_indices ≡ [] → n ≡ leaf_count t → AreListedOf (drop (length all) all) t node_indices n
changes_listed-start all t node_indices n s none count =
    subst (λ xs. AreListedOf xs t node_indices n) (sym (drop_of_length-le all (omega arith))) (record { shape = s; count = sym count; same = λ p out. refl })

pub changes_listed-positive : (xs : List UndoEntry) (t : Tree) (node_indices : List ℕ) (n : ℕ) → AreListedOf xs t node_indices n → 0 < n
changes_listed-positive xs t node_indices n changes_listed = let e = changes_listed.count in omega (arith, leaf_count-positive (all_undone xs t))

pub changes_listed-low : (xs : List UndoEntry) (t : Tree) (node_indices : List ℕ) (n : ℕ) → AreListedOf xs t node_indices n → n ≤ 1048576
changes_listed-low xs t node_indices n changes_listed =
    let e = changes_listed.count in
    omega (arith, few-leaves (all_undone xs t) changes_listed.shape)

-- the change before
module _ (all : List UndoEntry) (i : ℕ) (x : UndoEntry) (t : Tree) (old : List ℕ) (n : ℕ) (changes_listed : AreListedOf (drop i all) t old n)
    (some : 0 < i) (inside : i ≤ length all) (here : x ≡ get_or all (i - 1) x) where
  one_before : drop (i - 1) all ≡ x ∷ drop i all
  one_before =
      let next : i - 1 + 1 ≡ i = omega arith in
      drop_more all (i - 1) x (omega arith) ∙ (λ j. sym here j ∷ drop (next j) all)

  pub changes_listed-step : (new : List ℕ) (m : ℕ)
      → ((t : RatchetTree) → leaf_count t.tree ≡ n → leaf_count (undone x t.tree) ≡ m)
      → ((u : RatchetTree) → leaf_count u.tree ≡ n → AgreeExceptAt old u.tree t → AgreeExceptAt new (undone x u.tree) t)
      → AreListedOf (drop (i - 1) all) t new m
  changes_listed-step new m count node_indices =
      let u : RatchetTree = record { tree = all_undone (drop i all) t; shape = changes_listed.shape } in
      subst (λ xs. AreListedOf xs t new m) (sym one_before)
      (record { shape = shape-before x u.tree changes_listed.shape; count = count u changes_listed.count; same = node_indices u changes_listed.count changes_listed.same })

-- all changes
pub changes_listed-all : (all : List UndoEntry) (i : ℕ) (t : Tree) (node_indices : List ℕ) (n : ℕ) → AreListedOf (drop i all) t node_indices n → i ≡ 0 → AgreeExceptAt node_indices (all_undone all t) t
changes_listed-all all i t node_indices n changes_listed first = subst (λ k. AgreeExceptAt node_indices (all_undone (drop k all) t) t) first changes_listed.same
