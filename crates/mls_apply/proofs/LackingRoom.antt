-- Whether a list can be applied but for its Adds, and how many members are left then, told of the tree before it.
use Rattle.std.proofs.Common.{◌≡◌, ◌∙◌, ℕ, ◌+◌, ◌*◌, ◌-◌, ◌<◌, ◌≤◌, ◌/◌, ◌%◌, Bool, true, false, List, [], ◌∷◌, Option, Some, None, IsSome, length, get_or, set, replicate, refl, sym, ap, inl, inr, arith}
use Rattle.std.specs.Prelude.{◌==◌, ◌&&◌, ◌||◌, not, nat_le, nat_lt, if◌then◌else◌, is_some, option_and_then}
use Rattle.std.specs.List.{cons_option}
use Rattle.std.proofs.lemmas.Bool.{cases_lt, cases_eq, false≢true}
use Rattle.std.proofs.lemmas.Bool.Decides.{nat_tests}
use Rattle.std.proofs.lemmas.List.{get_or-set_same, get_or-set_other, get_or-replicate, get_or_past, length-replicate}
use Rattle.std.proofs.lemmas.Option.{none-some, same_Some, option_and_then_some, cond_some}
use Rattle.mls_nodes.specs.Limits.{leaf_limit}
use Rattle.mls_nodes.specs.declared.leaf.LeafNode.{LeafNode}
use Rattle.mls_msgs.specs.declared.framed_content.Sender.{Sender}
use Rattle.mls_msgs.specs.declared.proposal.Proposal.{Proposal}
use Rattle.mls_msgs.specs.declared.proposal.Proposal.TheVariants.{Add, Update, Remove, ContextExtensions, PreSharedKey, ReInit, ExternalInit}
use Rattle.mls_tree.specs.Tree.{Tree, member_count, leaf_at}
use Rattle.mls_tree.specs.RatchetTree.{HasShape}
use Rattle.mls_tree.specs.TreeOperations.{put_leaf, blank_path, update, remove}
use Rattle.mls_tree.proofs.Counting.{member_count-low}
use Rattle.mls_tree.proofs.Descent.{leaf_count-limit}
use Rattle.mls_tree.proofs.Kept.{leaf_at-truncate}
use Rattle.mls_apply.specs.declared.list_item.ListItem.{ListItem}
use Rattle.mls_apply.specs.ListRules.{removed_leaf, is_leaf_number, maps_to, maps_once}
use Rattle.mls_apply.specs.Senders.{member_index, leaf_of_member}
use Rattle.mls_apply.specs.AppliedList.{updated_at, after_update, after_updates, after_remove, after_removes, without_adds, new_members, ExceedsCapacity}
use Rattle.mls_apply.specs.TargetLeaves.{removed_by, removed_leaves, number_in, removed_in, is_non_blank_if_some, updates_non_blank_leaf, update_non_blank_leaves, targets_non_blank_leaf, target_non_blank_leaves, map_to_non_blank}
use Rattle.mls_apply.proofs.Leaves.{leaf_inside, kept_beside, put_there}
use Rattle.mls_apply.proofs.Encodings.{taken_out}
use Rattle.mls_apply.proofs.LeavesAreValid.{member_count-change_above, member_count-replaced, member_count-blanked, member_count-truncate}

both : (a b : Bool) → (a && b) ≡ true → (a ≡ true) × (b ≡ true)
both true b h = (refl, h)
both false b h = absurd (false≢true h)

joined : (a b c : Bool) → ((a && b) && c) ≡ (a && (b && c))
joined true b c = refl
joined false b c = refl

and_true : (b : Bool) → b ≡ (b && true)
and_true true = refl
and_true false = refl

and_false : (b : Bool) → false ≡ (b && false)
and_false true = refl
and_false false = refl

-- ---- which leaves are set after a change

-- after an Update the same leaves are set
set-update : (t : Tree) (i : ℕ) (y : LeafNode) → IsSome (leaf_at 0 t i) → (j : ℕ) → is_some (leaf_at 0 (update t i y) j) ≡ is_some (leaf_at 0 t j)
set-update t i y set j =
    elim (cases_eq j i) [
      | inl same ↦ ap is_some (put_there t i j (Some y) set same) ∙ sym (ap (λ k. is_some (leaf_at 0 t k)) same ∙ set)
      | inr away ↦ ap is_some (kept_beside t i j (Some y) set away)
    ]

-- after a Remove all but its leaf are
set-remove : (t : Tree) (i : ℕ) → IsSome (leaf_at 0 t i) → (j : ℕ) → is_some (leaf_at 0 (remove t i) j) ≡ (is_some (leaf_at 0 t j) && not (j == i))
set-remove t i set j =
    ap is_some (leaf_at-truncate 0 (blank_path (put_leaf 0 t i None) i) j)
    ∙ elim (cases_eq j i) [
      | inl same ↦
          ap is_some (put_there t i j None set same)
          ∙ and_false (is_some (leaf_at 0 t j))
          ∙ sym (let e : (j == i) ≡ true = grind (arith, nat_tests) in ap (λ b. is_some (leaf_at 0 t j) && not b) e)
      | inr away ↦
          ap is_some (kept_beside t i j None set away)
          ∙ and_true (is_some (leaf_at 0 t j))
          ∙ sym (let e : (j == i) ≡ false = grind (arith, nat_tests) in ap (λ b. is_some (leaf_at 0 t j) && not b) e)
    ]

-- ---- leaves that are told

module _ (f : ListItem → Option ℕ) where
  -- in trees whose set leaves are the same
  mapped-alike : (t u : Tree) → ((j : ℕ) → is_some (leaf_at 0 u j) ≡ is_some (leaf_at 0 t j)) → (xs : List ListItem) → map_to_non_blank f u xs ≡ map_to_non_blank f t xs
  mapped-alike t u alike [] = refl
  mapped-alike t u alike (x ∷ xs) = (λ i. one (f x) i && mapped-alike t u alike xs i)
    where
      one : (o : Option ℕ) → is_non_blank_if_some u o ≡ is_non_blank_if_some t o
      one None = refl
      one (Some j) = alike j

  -- in a tree that has one set leaf less
  mapped-less : (t u : Tree) (i : ℕ) → ((j : ℕ) → is_some (leaf_at 0 u j) ≡ (is_some (leaf_at 0 t j) && not (j == i))) → (xs : List ListItem)
      → map_to_non_blank f u xs ≡ (map_to_non_blank f t xs && not (maps_to f xs (Some i)))
  mapped-less t u i less [] = refl
  mapped-less t u i less (x ∷ xs) =
      (λ k. one (f x) k && mapped-less t u i less xs k)
      ∙ regrouped (is_non_blank_if_some t (f x)) (is_leaf_number (f x) i) (map_to_non_blank f t xs) (maps_to f xs (Some i))
    where
      one : (o : Option ℕ) → is_non_blank_if_some u o ≡ (is_non_blank_if_some t o && not (is_leaf_number o i))
      one None = refl
      one (Some j) = less j

      regrouped : (a p b q : Bool) → ((a && not p) && (b && not q)) ≡ ((a && b) && not (p || q))
      regrouped true true true true = refl
      regrouped true true true false = refl
      regrouped true true false q = refl
      regrouped true false b q = refl
      regrouped false p b q = refl

  -- each that is told is set
  mapped_set : (t : Tree) (xs : List ListItem) → map_to_non_blank f t xs ≡ true → (i : ℕ) → maps_to f xs (Some i) ≡ true → IsSome (leaf_at 0 t i)
  mapped_set t [] all i e = absurd (false≢true e)
  mapped_set t (x ∷ xs) all i e =
      go (mapped_set t xs (both (is_non_blank_if_some t (f x)) (map_to_non_blank f t xs) all).1 i) (f x) (is_leaf_number (f x) i) refl refl
    where
      go : (maps_to f xs (Some i) ≡ true → IsSome (leaf_at 0 t i)) → (o : Option ℕ) (b : Bool) → f x ≡ o → is_leaf_number (f x) i ≡ b → IsSome (leaf_at 0 t i)
      go later o false h m = later (sym (ap (λ b. b || maps_to f xs (Some i)) m) ∙ e)
      go later None true h m = absurd (false≢true (sym (ap (λ o. is_leaf_number o i) h) ∙ m))
      go later (Some j) true h m =
          let same : j ≡ i = (let t : (j == i) ≡ true = sym (ap (λ o. is_leaf_number o i) h) ∙ m in grind (arith, nat_tests)) in
          ap (λ k. is_some (leaf_at 0 t k)) (sym same) ∙ sym (ap (is_non_blank_if_some t) h) ∙ (both (is_non_blank_if_some t (f x)) (map_to_non_blank f t xs) all).0

-- those that Updates and those that Removes concern
concerned-parts : (t : Tree) (xs : List ListItem) → target_non_blank_leaves t xs ≡ (update_non_blank_leaves t xs && map_to_non_blank removed_by t xs)
concerned-parts t [] = refl
concerned-parts t (x ∷ xs) =
    ap (λ b. targets_non_blank_leaf t x && b) (concerned-parts t xs)
    ∙ regrouped (updates_non_blank_leaf t x.sender x.proposal) (is_non_blank_if_some t (removed_by x)) (update_non_blank_leaves t xs) (map_to_non_blank removed_by t xs)
  where
    regrouped : (a b c d : Bool) → ((a && b) && (c && d)) ≡ ((a && c) && (b && d))
    regrouped true true c d = refl
    regrouped true false true d = refl
    regrouped true false false d = refl
    regrouped false b c d = refl

-- the members that update their leaves, in trees whose set leaves are the same
updates-alike : (t u : Tree) → ((j : ℕ) → is_some (leaf_at 0 u j) ≡ is_some (leaf_at 0 t j)) → (xs : List ListItem) → update_non_blank_leaves u xs ≡ update_non_blank_leaves t xs
updates-alike t u alike [] = refl
updates-alike t u alike (x ∷ xs) = (λ i. one x.proposal i && updates-alike t u alike xs i)
  where
    of_member : (o : Option ℕ) → is_some (leaf_of_member u o) ≡ is_some (leaf_of_member t o)
    of_member None = refl
    of_member (Some j) = alike j

    one : (p : Proposal) → updates_non_blank_leaf u x.sender p ≡ updates_non_blank_leaf t x.sender p
    one (Add k) = refl
    one (Update y) = of_member (member_index x.sender)
    one (Remove i) = refl
    one (ContextExtensions es) = refl
    one (PreSharedKey id) = refl
    one (ReInit r) = refl
    one (ExternalInit output) = refl

-- a tree has no more members than leaves
pub members_low : (t : Tree) → HasShape t → member_count t ≤ leaf_limit
members_low t shape = omega (arith, member_count-low t, leaf_count-limit (record { tree = t; shape = shape }))

-- ---- Updates

updates_set : (xs : List ListItem) (t : Tree) → is_some (after_updates xs t) ≡ update_non_blank_leaves t xs
unfolding after_updates
updates_set [] t = refl
updates_set (x ∷ xs) t = go (updates_set xs) x.proposal
  where
    Later : Type 0
    Later = (u : Tree) → is_some (after_updates xs u) ≡ update_non_blank_leaves u xs

    at : Later → (i : ℕ) (y : LeafNode) (b : Bool) → is_some (leaf_at 0 t i) ≡ b
        → is_some (option_and_then (after_updates xs) (if b then Some (update t i y) else None)) ≡ (b && update_non_blank_leaves t xs)
    at later i y true set = later (update t i y) ∙ updates-alike t (update t i y) (set-update t i y set) xs
    at later i y false blank = refl

    of_member : Later → (y : LeafNode) (o : Option ℕ)
        → is_some (option_and_then (after_updates xs) (updated_at o y t)) ≡ (is_some (leaf_of_member t o) && update_non_blank_leaves t xs)
    of_member later y None = refl
    of_member later y (Some i) = at later i y (is_some (leaf_at 0 t i)) refl

    go : Later → (p : Proposal) → is_some (option_and_then (after_updates xs) (after_update x.sender p t)) ≡ (updates_non_blank_leaf t x.sender p && update_non_blank_leaves t xs)
    go later (Add k) = later t
    go later (Remove i) = later t
    go later (ContextExtensions es) = later t
    go later (PreSharedKey es) = later t
    go later (ReInit es) = later t
    go later (ExternalInit es) = later t
    go later (Update y) = of_member later y (member_index x.sender)

-- the same leaves are set after them, and as many
pub record KeepsMembers (t u : Tree) : Type 0 where
  pub alike : (j : ℕ) → is_some (leaf_at 0 u j) ≡ is_some (leaf_at 0 t j)
  pub count : member_count u ≡ member_count t

kept_members : (t u : Tree) → u ≡ t → KeepsMembers t u
kept_members t u e = record { alike = λ j. ap (λ (v : Tree). is_some (leaf_at 0 v j)) e; count = ap member_count e }

updated_member : (o : Option ℕ) (y : LeafNode) (t u : Tree) → updated_at o y t ≡ Some u → KeepsMembers t u
updated_member None y t u e = absurd (none-some u e)
updated_member (Some i) y t u e =
    let parts = cond_some (is_some (leaf_at 0 t i)) (update t i y) u e in
    let inside = leaf_inside t i parts.0 in
    record {
      alike = λ j. ap (λ (v : Tree). is_some (leaf_at 0 v j)) (sym parts.1) ∙ set-update t i y parts.0 j;
      count =
          ap member_count (sym parts.1)
          ∙ member_count-change_above (λ _. None) 0 (put_leaf 0 t i (Some y)) i
          ∙ member_count-replaced 0 t i y (omega arith) (omega arith) parts.0;
    }

updated : (sender : Sender) (p : Proposal) (t u : Tree) → after_update sender p t ≡ Some u → KeepsMembers t u
updated sender (Add k) t u e = kept_members t u (sym (same_Some t u e))
updated sender (Remove i) t u e = kept_members t u (sym (same_Some t u e))
updated sender (ContextExtensions es) t u e = kept_members t u (sym (same_Some t u e))
updated sender (PreSharedKey es) t u e = kept_members t u (sym (same_Some t u e))
updated sender (ReInit es) t u e = kept_members t u (sym (same_Some t u e))
updated sender (ExternalInit es) t u e = kept_members t u (sym (same_Some t u e))
updated sender (Update y) t u e = updated_member (member_index sender) y t u e

pub updates_keep : (xs : List ListItem) (t u : Tree) → after_updates xs t ≡ Some u → KeepsMembers t u
unfolding after_updates
updates_keep [] t u e = kept_members t u (sym (same_Some t u e))
updates_keep (x ∷ xs) t u e =
    option_and_then_some (after_updates xs) (after_update x.sender x.proposal t) u e
    (λ v a b.
    let first = updated x.sender x.proposal t v a in
    let rest = updates_keep xs v u b in
    record { alike = λ j. rest.alike j ∙ first.alike j; count = rest.count ∙ first.count })

-- ---- Removes

removes_set : (xs : List ListItem) (t : Tree) → is_some (after_removes xs t) ≡ (map_to_non_blank removed_by t xs && maps_once removed_by xs)
unfolding after_removes
removes_set [] t = refl
removes_set (x ∷ xs) t = go (removes_set xs) x.proposal
  where
    Later : Type 0
    Later = (u : Tree) → is_some (after_removes xs u) ≡ (map_to_non_blank removed_by u xs && maps_once removed_by xs)

    at : Later → (i : ℕ) (b : Bool) → is_some (leaf_at 0 t i) ≡ b
        → is_some (option_and_then (after_removes xs) (if b then Some (remove t i) else None))
        ≡ ((b && map_to_non_blank removed_by t xs) && (not (maps_to removed_by xs (Some i)) && maps_once removed_by xs))
    at later i true set =
        later (remove t i)
        ∙ ap (λ b. b && maps_once removed_by xs) (mapped-less removed_by t (remove t i) i (set-remove t i set) xs)
        ∙ joined (map_to_non_blank removed_by t xs) (not (maps_to removed_by xs (Some i))) (maps_once removed_by xs)
    at later i false blank = refl

    go : Later → (p : Proposal) → is_some (option_and_then (after_removes xs) (after_remove p t))
        ≡ ((is_non_blank_if_some t (removed_leaf p) && map_to_non_blank removed_by t xs) && (not (maps_to removed_by xs (removed_leaf p)) && maps_once removed_by xs))
    go later (Add k) = later t
    go later (Update y) = later t
    go later (ContextExtensions es) = later t
    go later (PreSharedKey es) = later t
    go later (ReInit es) = later t
    go later (ExternalInit es) = later t
    go later (Remove i) = at later i (is_some (leaf_at 0 t i)) refl

-- each takes one member
removed : (p : Proposal) (others : ℕ) (rest : List ℕ) (t u : Tree) → after_remove p t ≡ Some u → others + length rest ≡ member_count u
    → others + length (cons_option (removed_leaf p) rest) ≡ member_count t
removed (Add k) others rest t u e h = h ∙ ap member_count (sym (same_Some t u e))
removed (Update y) others rest t u e h = h ∙ ap member_count (sym (same_Some t u e))
removed (ContextExtensions es) others rest t u e h = h ∙ ap member_count (sym (same_Some t u e))
removed (PreSharedKey es) others rest t u e h = h ∙ ap member_count (sym (same_Some t u e))
removed (ReInit es) others rest t u e h = h ∙ ap member_count (sym (same_Some t u e))
removed (ExternalInit es) others rest t u e h = h ∙ ap member_count (sym (same_Some t u e))
removed (Remove i) others rest t u e h =
    let parts = cond_some (is_some (leaf_at 0 t i)) (remove t i) u e in
    let inside = leaf_inside t i parts.0 in
    let fewer = member_count-blanked 0 t i (omega arith) (omega arith) parts.0 in
    let cleared = member_count-change_above (λ _. None) 0 (put_leaf 0 t i None) i in
    let shrunk = member_count-truncate (blank_path (put_leaf 0 t i None) i) in
    let there = ap member_count parts.1 in
    omega arith

removes_count : (xs : List ListItem) (t u : Tree) → after_removes xs t ≡ Some u → member_count u + length (removed_leaves xs) ≡ member_count t
unfolding after_removes
removes_count [] t u e = let a = ap member_count (same_Some t u e) in omega arith
removes_count (x ∷ xs) t u e =
    option_and_then_some (after_removes xs) (after_remove x.proposal t) u e
    (λ v a b. removed x.proposal (member_count u) (removed_leaves xs) t v a (removes_count xs v u b))

-- ---- windows of leaves

-- a leaf of a window has its number there
number_there : (first k : ℕ) → k < 65536 → (o : Option ℕ) → is_leaf_number (number_in first o) k ≡ is_leaf_number o (first + k)
number_there first k low None = refl
number_there first k low (Some j) = go (nat_le first j && nat_lt j (first + 65536)) refl
  where
    go : (b : Bool) → (nat_le first j && nat_lt j (first + 65536)) ≡ b → is_leaf_number (if b then Some (j - first) else None) k ≡ (j == (first + k))
    go true e = grind (arith, nat_tests)
    go false e = grind (arith, nat_tests)

-- the numbers of a window are few
pub number_low : (first : ℕ) (o : Option ℕ) (k : ℕ) → number_in first o ≡ Some k → k < 65536
number_low first None k e = absurd (none-some k e)
number_low first (Some i) k e =
    let parts = cond_some (nat_le first i && nat_lt i (first + 65536)) (i - first) k e in
    let inside : (nat_le first i && nat_lt i (first + 65536)) ≡ true = parts.0 in
    let there : i - first ≡ k = parts.1 in
    grind (arith, nat_tests)

mapped_there : (first k : ℕ) → k < 65536 → (xs : List ListItem) → maps_to (removed_in first) xs (Some k) ≡ maps_to removed_by xs (Some (first + k))
mapped_there first k low [] = refl
mapped_there first k low (x ∷ xs) = λ i. number_there first k low (removed_by x) i || mapped_there first k low xs i

-- the flag of a number
abbrev pub flag : List Bool → ℕ → Bool
flag flags k = get_or flags k false

-- none is, at first
pub flag-clear : (n i : ℕ) → flag (replicate n false) i ≡ false
flag-clear n i =
    elim (cases_lt i n) [
      | inl lt ↦ get_or-replicate n i false false lt
      | inr ge ↦ get_or_past (replicate n false) i false (omega (arith, length-replicate n false))
    ]

-- a flag is set
pub flag-set : (flags : List Bool) (i : ℕ) → i < length flags → (j : ℕ) → flag (set flags i true) j ≡ ((j == i) || flag flags j)
flag-set flags i inside j =
    elim (cases_eq j i) [
      | inl same ↦
          ap (λ k. flag (set flags i true) k) same ∙ get_or-set_same flags i true false inside
          ∙ sym (let e : (j == i) ≡ true = grind (arith, nat_tests) in ap (λ b. b || flag flags j) e)
      | inr away ↦
          get_or-set_other flags i j true false away
          ∙ sym (let e : (j == i) ≡ false = grind (arith, nat_tests) in ap (λ b. b || flag flags j) e)
    ]

-- where no leaf is removed twice, none of a window is
pub window_once : (first : ℕ) (xs : List ListItem) → maps_once removed_by xs ≡ true → maps_once (removed_in first) xs ≡ true
window_once first [] once = refl
window_once first (x ∷ xs) once =
    let parts = both (not (maps_to removed_by xs (removed_by x))) (maps_once removed_by xs) once in
    go (removed_by x) parts.0 (window_once first xs parts.1)
  where
    go : (o : Option ℕ) → not (maps_to removed_by xs o) ≡ true → maps_once (removed_in first) xs ≡ true
        → (not (maps_to (removed_in first) xs (number_in first o)) && maps_once (removed_in first) xs) ≡ true
    go None new rest = rest
    go (Some i) new rest = at (nat_le first i && nat_lt i (first + 65536)) refl
      where
        at : (b : Bool) → (nat_le first i && nat_lt i (first + 65536)) ≡ b
            → (not (maps_to (removed_in first) xs (if b then Some (i - first) else None)) && maps_once (removed_in first) xs) ≡ true
        at true inside =
            let low : i - first < 65536 = grind (arith, nat_tests) in
            let same : first + (i - first) ≡ i = grind (arith, nat_tests) in
            ap (λ b. not b && maps_once (removed_in first) xs) (mapped_there first (i - first) low xs ∙ ap (λ k. maps_to removed_by xs (Some k)) same)
            ∙ ap (λ b. b && maps_once (removed_in first) xs) new ∙ rest
        at false outside = rest

-- where some leaf of a window is, some leaf is
pub window_twice : (first : ℕ) (xs : List ListItem) → maps_once (removed_in first) xs ≡ false → false ≡ maps_once removed_by xs
window_twice first xs twice = go (maps_once removed_by xs) refl
  where
    go : (b : Bool) → maps_once removed_by xs ≡ b → false ≡ maps_once removed_by xs
    go true once = absurd (false≢true (sym twice ∙ window_once first xs once))
    go false once = sym once

-- a leaf has this number in its window
number_of : (w k i : ℕ) → k < 65536 → w * 65536 + k ≡ i → number_in (w * 65536) (Some i) ≡ Some k
number_of w k i below split =
    let inside : (nat_le (w * 65536) i && nat_lt i (w * 65536 + 65536)) ≡ true = grind (arith, nat_tests) in
    ap (λ b. if b then Some (i - w * 65536) else None) inside ∙ ap Some (let e : i - w * 65536 ≡ k = omega arith in e)

-- where none of any window is, no leaf of these windows is
pub windows_once : (xs : List ListItem) → ((i : ℕ) → maps_to removed_by xs (Some i) ≡ true → i < leaf_limit)
    → ((w : ℕ) → w < 16 → maps_once (removed_in (w * 65536)) xs ≡ true) → maps_once removed_by xs ≡ true
windows_once [] low once = refl
windows_once (x ∷ xs) low once =
    ap (λ b. b && maps_once removed_by xs) (first (removed_by x) refl)
    ∙ windows_once xs (λ i e. low i (ap (λ b. is_leaf_number (removed_by x) i || b) e ∙ or_true (is_leaf_number (removed_by x) i))) (λ w within. (parts w within).1)
  where
    or_true : (b : Bool) → (b || true) ≡ true
    or_true true = refl
    or_true false = refl

    parts : (w : ℕ) → w < 16 → (not (maps_to (removed_in (w * 65536)) xs (number_in (w * 65536) (removed_by x))) ≡ true) × (maps_once (removed_in (w * 65536)) xs ≡ true)
    parts w within = both (not (maps_to (removed_in (w * 65536)) xs (number_in (w * 65536) (removed_by x)))) (maps_once (removed_in (w * 65536)) xs) (once w within)

    first : (o : Option ℕ) → removed_by x ≡ o → not (maps_to removed_by xs o) ≡ true
    first None e = refl
    first (Some i) e =
        let own : is_leaf_number (removed_by x) i ≡ true = ap (λ o. is_leaf_number o i) e ∙ (let t : (i == i) ≡ true = grind (arith, nat_tests) in t) in
        let small : i < 1048576 = low i (ap (λ b. b || maps_to removed_by xs (Some i)) own) in
        let w = i / 65536 in
        let k = i % 65536 in
        let within : w < 16 = omega arith in
        let below : k < 65536 = omega arith in
        let split : w * 65536 + k ≡ i = omega arith in
        let number : number_in (w * 65536) (Some i) ≡ Some k = number_of w k i below split in
        ap not (sym (mapped_there (w * 65536) k below xs ∙ ap (λ j. maps_to removed_by xs (Some j)) split))
        ∙ sym (ap (λ o. not (maps_to (removed_in (w * 65536)) xs o)) (ap (number_in (w * 65536)) e ∙ number)) ∙ (parts w within).0

-- ---- the whole list

-- what the tree after its Updates and Removes comes from
steps : (items : List ListItem) (t v : Tree) → without_adds items t ≡ Some v → (u : Tree) × (after_updates items t ≡ Some u) × (after_removes items u ≡ Some v)
steps items t v e = option_and_then_some (after_removes items) (after_updates items t) v e (λ u a b. (u, a, b))

module _ (items : List ListItem) (t : Tree) where
  -- those that Removes concern are told alike of the tree after the Updates
  removes_after : (u : Tree) → after_updates items t ≡ Some u → is_some (after_removes items u) ≡ (map_to_non_blank removed_by t items && maps_once removed_by items)
  removes_after u e =
      removes_set items u ∙ ap (λ b. b && maps_once removed_by items) (mapped-alike removed_by t u (updates_keep items t u e).alike items)

  -- as many are left as were, without those that are removed
  left : (v : Tree) → without_adds items t ≡ Some v → member_count v + length (removed_leaves items) ≡ member_count t
  left v e =
      let s = steps items t v e in
      removes_count items s.0 v s.2 ∙ (updates_keep items t s.0 s.1).count

  -- each leaf that is removed may be one of a tree's
  pub removed_low : (shape : HasShape t) → target_non_blank_leaves t items ≡ true → (i : ℕ) → maps_to removed_by items (Some i) ≡ true → i < leaf_limit
  removed_low shape all i e =
      let parts = both (update_non_blank_leaves t items) (map_to_non_blank removed_by t items) (sym (concerned-parts t items) ∙ all) in
      let inside = leaf_inside t i (mapped_set removed_by t items parts.1 i e) in
      let limit = leaf_count-limit (record { tree = t; shape = shape }) in
      omega arith

  -- a list whose leaves are set, none of which is removed twice, can be applied but for its Adds
  pub room_lacking : (leaf_limit + length (removed_leaves items) < member_count t + length (new_members items))
      → target_non_blank_leaves t items ≡ true → maps_once removed_by items ≡ true → ExceedsCapacity items t
  room_lacking many all once =
      let parts = both (update_non_blank_leaves t items) (map_to_non_blank removed_by t items) (sym (concerned-parts t items) ∙ all) in
      let u = taken_out (after_updates items t) (updates_set items t ∙ parts.0) in
      let v = taken_out (after_removes items u.0) (removes_after u.0 u.1 ∙ (λ k. parts.1 k && once k)) in
      let applied : without_adds items t ≡ Some v.0 = ap (option_and_then (after_removes items)) u.1 ∙ v.1 in
      let count = left v.0 applied in
      record { tree = v.0; applied = applied; full = omega arith }

  -- and no other one lacks room
  pub lacking_room : ExceedsCapacity items t
      → (leaf_limit + length (removed_leaves items) < member_count t + length (new_members items)) × (target_non_blank_leaves t items ≡ true) × (maps_once removed_by items ≡ true)
  lacking_room h =
      let s = steps items t h.tree h.applied in
      let replaced = sym (updates_set items t) ∙ ap is_some s.1 in
      let parts = both (map_to_non_blank removed_by t items) (maps_once removed_by items) (sym (removes_after s.0 s.1) ∙ ap is_some s.2) in
      let count = left h.tree h.applied in
      let full = h.full in
      (omega arith, concerned-parts t items ∙ (λ k. replaced k && parts.0 k), parts.1)
