-- Members that are added one after the other.
use Rattle.std.proofs.Common.{◌≡◌, ◌∙◌, ℕ, ◌+◌, ◌<◌, ◌≤◌, Bool, true, false, List, [], ◌∷◌, ◌++◌, length, drop, get_or, Option, Some, None, refl, sym, ap, subst, arith}
use Rattle.std.specs.Prelude.{if◌then◌else◌, ◌||◌, option_map, MatchOption}
use Rattle.std.proofs.lemmas.Bool.{false≢true}
use Rattle.std.proofs.lemmas.List.{append_assoc, append-nil, drop_all}
use Rattle.mls_nodes.specs.declared.leaf.LeafNode.{LeafNode}
use Rattle.mls_msgs.specs.declared.key_package.KeyPackage.{KeyPackage}
use Rattle.mls_msgs.specs.declared.proposal.Proposal.{Proposal}
use Rattle.mls_msgs.specs.declared.proposal.Proposal.TheVariants.{Add, Update, Remove, ContextExtensions, PreSharedKey, ReInit, ExternalInit}
use Rattle.mls_nodes.specs.Limits.{leaf_limit}
use Rattle.mls_tree.specs.Tree.{Tree, height, leaf_count, member_count, leaf_at}
use Rattle.mls_tree.specs.BlankLeaves.{first_blank_leaf, IsFirstBlank, AllLeavesNonBlank}
use Rattle.mls_tree.specs.TreeOperations.{extend, add, add_at, added_leaf, extended_if_full, number_or, blank_tree, add_unmerged, with_unmerged, add_all_unmerged, overfills}
use Rattle.mls_tree.proofs.Trees.{leaf_count-positive}
use Rattle.mls_tree.proofs.Kept.{leaf_at-change_above, leaf_count-change_above, leaf_at-extend}
use Rattle.mls_tree.proofs.FirstBlanks.{first_blank_leaf-leftmost}
use Rattle.mls_tree.proofs.Lookups.{leaf_at-past}
use Rattle.mls_apply.specs.AppliedList.{AppliedTree, applied_tree, after_leaf, after_adds, added_to, new_members}
use Rattle.mls_apply.specs.AddSteps.{is_add, is_overfull_add, PutsMember}
use Rattle.mls_apply.specs.declared.list_item.ListItem.{ListItem}
use Rattle.mls_apply.proofs.AddedAtOnce.{add-put, put-index, put-listed, put-overfills, ArePlaced, placed-start, placed-next}
use Rattle.mls_apply.proofs.Updating.{next_item}
use Rattle.mls_apply.proofs.LeavesAreValid.{member_count-change_above, member_count-put_leaf, member_count-extend, member_count-full}

-- ---- how many members are added

-- where an item adds none
pub same_members : (p : Proposal) (xs : List LeafNode) → is_add p ≡ false → added_to p xs ≡ xs
same_members (Add k) xs e = absurd (false≢true (sym e))
same_members (Update x) xs e = refl
same_members (Remove i) xs e = refl
same_members (ContextExtensions es) xs e = refl
same_members (PreSharedKey es) xs e = refl
same_members (ReInit es) xs e = refl
same_members (ExternalInit es) xs e = refl

pub new_members-add : (x : ListItem) (xs : List ListItem) → is_add x.proposal ≡ true → length (new_members (x ∷ xs)) ≡ length (new_members xs) + 1
unfolding new_members
new_members-add x xs e = go x.proposal e
  where
    go : (p : Proposal) → is_add p ≡ true → length (added_to p (new_members xs)) ≡ length (new_members xs) + 1
    go (Add k) e = omega arith
    go (Update y) e = absurd (false≢true e)
    go (Remove i) e = absurd (false≢true e)
    go (ContextExtensions es) e = absurd (false≢true e)
    go (PreSharedKey es) e = absurd (false≢true e)
    go (ReInit es) e = absurd (false≢true e)
    go (ExternalInit es) e = absurd (false≢true e)

pub new_members-other : (x : ListItem) (xs : List ListItem) → is_add x.proposal ≡ false → length (new_members (x ∷ xs)) ≡ length (new_members xs)
unfolding new_members
new_members-other x xs e = ap length (same_members x.proposal (new_members xs) e)

-- a count of the Adds in a walk along the list
module _ (items : List ListItem) (i : ℕ) (x : ListItem) (count : ℕ) (lt : i < length items) (e : x ≡ get_or items i x)
    (known : count + length (new_members (drop i items)) ≡ length (new_members items)) where
  pub count-more : is_add x.proposal ≡ true → count + 1 + length (new_members (drop (i + 1) items)) ≡ length (new_members items)
  count-more a =
      let here = ap (λ xs. length (new_members xs)) (next_item items i x lt e) in
      let one = new_members-add x (drop (i + 1) items) a in
      omega arith

  pub count-same : is_add x.proposal ≡ false → count + length (new_members (drop (i + 1) items)) ≡ length (new_members items)
  count-same a =
      let here = ap (λ xs. length (new_members xs)) (next_item items i x lt e) in
      let none = new_members-other x (drop (i + 1) items) a in
      omega arith

pub count-all : (items : List ListItem) (i count : ℕ) → length items ≤ i → count + length (new_members (drop i items)) ≡ length (new_members items)
    → count ≡ length (new_members items)
unfolding new_members
count-all items i count past known = let none = ap (λ xs. length (new_members xs)) (drop_all i items past) in omega arith

-- ---- one member is added

-- where the new member's leaf is blank
module _ (u : Tree) (j : ℕ) (x : LeafNode) (inside : j < leaf_count u) (blank : leaf_at 0 u j ≡ None) where
  member_count-add_at : member_count (add_at u j x) ≡ member_count u + 1
  member_count-add_at =
      let count = leaf_count-change_above (with_unmerged j) 0 u j in
      member_count-put_leaf 0 (add_unmerged u j) j x (omega arith) (omega arith) (leaf_at-change_above (with_unmerged j) 0 u j j ∙ blank)
      ∙ ap (λ n. n + 1) (member_count-change_above (with_unmerged j) 0 u j)

-- with a new member there is one more, by the leftmost blank leaf
one_member : (t : Tree) (x : LeafNode) (o : Option ℕ) → MatchOption o (AllLeavesNonBlank t) (λ j. IsFirstBlank t j)
    → member_count (add_at (extended_if_full o t) (number_or (leaf_count t) o) x) ≡ member_count t + 1
one_member t x None all =
    member_count-add_at (extend t) (leaf_count t) x (omega (arith, leaf_count-positive (blank_tree (height t))))
    (leaf_at-extend t (leaf_count t) ∙ leaf_at-past 0 t (leaf_count t) (omega arith))
    ∙ ap (λ n. n + 1) (member_count-extend t)
one_member t x (Some j) first = member_count-add_at t j x first.inside first.blank

pub blank_inside : (t : Tree) (j : ℕ) → first_blank_leaf 0 t ≡ Some j → j < leaf_count t
blank_inside t j e =
    let first : IsFirstBlank t j = subst (λ o. MatchOption o (AllLeavesNonBlank t) (λ j. IsFirstBlank t j)) e (first_blank_leaf-leftmost t) in
    first.inside

pub member_count-add : (t : Tree) (x : LeafNode) → member_count (add t x) ≡ member_count t + 1
member_count-add t x = one_member t x (first_blank_leaf 0 t) (first_blank_leaf-leftmost t)

-- its leaf is put
member_count-put : (t : Tree) (x : LeafNode) (j : ℕ) (u : Tree) → PutsMember t x j u → member_count u ≡ member_count t + 1
member_count-put t x j u p = sym (ap member_count (add-put t x j u p) ∙ member_count-change_above (with_unmerged j) 0 u j) ∙ member_count-add t x

-- a tree grows only where it has fewer leaves than a group has members
pub room_to_grow : (t : Tree) → first_blank_leaf 0 t ≡ None → member_count t < leaf_limit → leaf_count t ≡ 1048576 → ⊥
room_to_grow t e capacity full = let all = member_count-full 0 t e in omega arith

-- ---- a walk along the list

-- what is added behind these leaves
abbrev pub append_parent_hash : List ℕ → AppliedTree → AppliedTree
append_parent_hash added g = applied_tree g.tree (added ++ g.added)

-- where a walk stands, before the rest of the list: the members have their leaves, and the unmerged lists are unchanged
pub record Adding (whole : Option AppliedTree) (rest : List ListItem) (t : Tree) (added : List ℕ) (start : ℕ) : Type 0 where
  pub so_far : whole ≡ (if overfills added t then None else option_map (append_parent_hash added) (after_adds (new_members rest) (add_all_unmerged added t)))
  pub placed : ArePlaced t added start
  pub capacity : member_count t + length (new_members rest) ≤ leaf_limit

none_before : (o : Option AppliedTree) → o ≡ option_map (append_parent_hash []) o
none_before None = refl
none_before (Some g) = refl

pub adding-start : (items : List ListItem) (t : Tree) → member_count t + length (new_members items) ≤ leaf_limit
    → Adding (after_adds (new_members items) t) items t [] 0
adding-start items t capacity = record {
  so_far = none_before (after_adds (new_members items) t);
  placed = placed-start t;
  capacity = capacity;
}

adding-end : (whole : Option AppliedTree) (t : Tree) (added : List ℕ) (start : ℕ) → Adding whole [] t added start
    → whole ≡ (if overfills added t then None else Some (applied_tree (add_all_unmerged added t) added))
unfolding new_members after_adds
adding-end whole t added start a = a.so_far ∙ ap (λ js. if overfills added t then None else Some (applied_tree (add_all_unmerged added t) js)) (append-nil added)

-- all members have their leaves
module _ (whole : Option AppliedTree) (items : List ListItem) (i : ℕ) (t : Tree) (added : List ℕ) (start : ℕ) (past : length items ≤ i)
    (a : Adding whole (drop i items) t added start) where
  adding-last : whole ≡ (if overfills added t then None else Some (applied_tree (add_all_unmerged added t) added))
  adding-last = adding-end whole t added start (subst (λ xs. Adding whole xs t added start) (drop_all i items past) a)

  pub adding-all : (u : Tree) → overfills added t ≡ false → u ≡ add_all_unmerged added t → whole ≡ Some (applied_tree u added)
  adding-all u fits listed =
      adding-last ∙ ap (λ (b : Bool). if b then None else Some (applied_tree (add_all_unmerged added t) added)) fits ∙ ap (λ v. Some (applied_tree v added)) (sym listed)

  -- a list gets too long
  pub adding-refused : overfills added t ≡ true → whole ≡ None
  adding-refused full = adding-last ∙ ap (λ (b : Bool). if b then None else Some (applied_tree (add_all_unmerged added t) added)) full

-- a proposal that is no Add
pub no_add : (p : Proposal) → ((k : KeyPackage) → p ≡ Add k → ⊥) → is_add p ≡ false
no_add (Add k) none = absurd (none k refl)
no_add (Update x) none = refl
no_add (Remove i) none = refl
no_add (ContextExtensions es) none = refl
no_add (PreSharedKey es) none = refl
no_add (ReInit es) none = refl
no_add (ExternalInit es) none = refl

one_more : (added : List ℕ) (j : ℕ) (o : Option AppliedTree)
    → option_map (append_parent_hash added) (option_map (after_leaf j) o) ≡ option_map (append_parent_hash (added ++ j ∷ [])) o
one_more added j None = refl
one_more added j (Some g) = ap (λ js. Some (applied_tree g.tree js)) (sym (append_assoc added (j ∷ []) g.added))

-- one of two tests holds
either_full : (a b : Bool) (added : List ℕ) (j : ℕ) (o : Option AppliedTree)
    → (if a then None else option_map (append_parent_hash added) (if b then None else option_map (after_leaf j) o))
    ≡ (if a || b then None else option_map (append_parent_hash (added ++ j ∷ [])) o)
either_full true b added j o = refl
either_full false true added j o = refl
either_full false false added j o = one_more added j o

module _ (whole : Option AppliedTree) (x : ListItem) (xs : List ListItem) (t : Tree) (added : List ℕ) (start : ℕ)
    (a : Adding whole (x ∷ xs) t added start) where
  abbrev lists : Tree
  lists = add_all_unmerged added t

  pub adding-other : ((k : KeyPackage) → x.proposal ≡ Add k → ⊥) → Adding whole xs t added start
  unfolding new_members
  adding-other none =
      let same = same_members x.proposal (new_members xs) (no_add x.proposal none) in
      record {
        so_far = a.so_far ∙ ap (λ ms. if overfills added t then None else option_map (append_parent_hash added) (after_adds ms lists)) same;
        placed = a.placed;
        capacity = subst (λ ms. member_count t + length ms ≤ leaf_limit) same a.capacity;
      }

  module _ (k : KeyPackage) (e : x.proposal ≡ Add k) where
    so_far_member : whole ≡ (if overfills added t then None else option_map (append_parent_hash added) (after_adds (k.leaf_node ∷ new_members xs) lists))
    unfolding new_members
    so_far_member = a.so_far ∙ ap (λ p. if overfills added t then None else option_map (append_parent_hash added) (after_adds (added_to p (new_members xs)) lists)) e

    room_member : member_count t + length (k.leaf_node ∷ new_members xs) ≤ leaf_limit
    unfolding new_members
    room_member = subst (λ p. member_count t + length (added_to p (new_members xs)) ≤ leaf_limit) e a.capacity

    -- the tree has capacity for it
    pub adding-capacity : member_count t < leaf_limit
    adding-capacity = let r = room_member in omega arith

    -- its leaf was put
    pub adding-member : (j : ℕ) (u : Tree) → PutsMember t k.leaf_node j u → Adding whole xs u (added ++ j ∷ []) (j + 1)
    unfolding after_adds
    adding-member j u p =
        let r = room_member in
        let more = member_count-put t k.leaf_node j u p in
        let inside = a.placed.inside in
        record {
          so_far =
              so_far_member
              ∙ either_full (overfills added t) (is_overfull_add lists) added (added_leaf lists) (after_adds (new_members xs) (add lists k.leaf_node))
              ∙ sym
              (λ i. if put-overfills t added inside k.leaf_node j u p i then None
              else option_map (append_parent_hash (added ++ put-index t added inside k.leaf_node j u p i ∷ [])) (after_adds (new_members xs) (put-listed t added inside k.leaf_node j u p i)));
          placed = placed-next t added start k.leaf_node j u a.placed p;
          capacity = omega arith;
        }
