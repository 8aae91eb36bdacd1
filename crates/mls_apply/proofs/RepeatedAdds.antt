-- Two Adds with one encryption key make two nodes with one encryption key.
use Rattle.std.proofs.Common.{◌≡◌, ◌≢◌, ◌∙◌, ℕ, ◌+◌, ◌*◌, Bool, true, false, not, List, [], ◌∷◌, map, filter_map, length, Option, Some, None, IsSome, refl, sym, ap, subst, arith}
use Rattle.std.specs.Prelude.{◌&&◌, ◌||◌, is_some, nat_le, option_map, MatchOption}
use Rattle.std.specs.List.{cons_option}
use Rattle.std.specs.Str.{bytes_eq}
use Rattle.std.proofs.lemmas.Bool.{false≢true}
use Rattle.std.proofs.lemmas.Option.{same_Some, option_and_then_some}
use Rattle.std.proofs.lemmas.Slice.Eq.{bytes_eq-Decides}
use Rattle.mls_nodes.specs.Limits.{leaf_limit}
use Rattle.mls_nodes.specs.declared.leaf.LeafNode.{LeafNode}
use Rattle.mls_msgs.specs.declared.proposal.Proposal.{Proposal}
use Rattle.mls_msgs.specs.declared.proposal.Proposal.TheVariants.{Add, Update, Remove, ContextExtensions, PreSharedKey, ReInit, ExternalInit}
use Rattle.mls_tree.specs.Tree.{Tree, height, leaf_count, member_count, leaf_at, leaf_entry}
use Rattle.mls_tree.specs.BlankLeaves.{first_blank_leaf, IsFirstBlank, AllLeavesNonBlank}
use Rattle.mls_tree.specs.TreeOperations.{blank_tree, extend, add, add_at, added_leaf, extended_if_full, number_or, is_overfilled_above}
use Rattle.mls_tree.proofs.Trees.{leaf_count-positive}
use Rattle.mls_tree.proofs.Kept.{leaf_at-extend}
use Rattle.mls_tree.proofs.FirstBlanks.{first_blank_leaf-leftmost}
use Rattle.mls_tree.proofs.Added.{leaf_at-add_at, leaf_at-add_at_other}
use Rattle.mls_tree.proofs.Positions.{node_at-listing, leaf_at-listing}
use Rattle.mls_check.specs.DistinctKeys.{encryption_key, encryption_key_at, IsDistinct, has_key, are_distinct, has_distinct_keys}
use Rattle.mls_check.proofs.Distinctness.{distinct-by_keys}
use Rattle.mls_apply.specs.declared.list_item.ListItem.{ListItem}
use Rattle.mls_apply.specs.AppliedList.{AppliedTree, applied_tree, outcome, with_members, new_members, added_to, without_adds, after_leaf, after_adds}
use Rattle.mls_apply.specs.AddedKeys.{key_of_add, added_encryption_key, have_distinct_added_keys, RepeatedAddsRepeatKeys}
use Rattle.mls_apply.proofs.Leaves.{leaf_inside}
use Rattle.mls_apply.proofs.SoundOutcomes.{unless, where_so, mapped}

-- the keys of leaf nodes
abbrev keys_of : List LeafNode → List (List ℕ)
keys_of xs = map (λ (x : LeafNode). x.encryption_key) xs

-- ---- the keys of a list's Adds are those of its new members

one_key : (p : Proposal) (xs : List LeafNode) (keys : List (List ℕ)) → keys ≡ keys_of xs → cons_option (key_of_add p) keys ≡ keys_of (added_to p xs)
one_key (Add k) xs keys e = ap (λ ks. k.leaf_node.encryption_key ∷ ks) e
one_key (Update _) xs keys e = e
one_key (Remove _) xs keys e = e
one_key (ContextExtensions _) xs keys e = e
one_key (PreSharedKey _) xs keys e = e
one_key (ReInit _) xs keys e = e
one_key (ExternalInit _) xs keys e = e

added_keys_are : (items : List ListItem) → filter_map added_encryption_key items ≡ keys_of (new_members items)
unfolding new_members
added_keys_are [] = refl
added_keys_are (x ∷ xs) = one_key x.proposal (new_members xs) (filter_map added_encryption_key xs) (added_keys_are xs)

-- ---- where a member is added

-- the leaf was blank, and is that of the member
pub record AddedAt (t : Tree) (x : LeafNode) (j : ℕ) (u : Tree) : Type 0 where
  pub there : leaf_at 0 u j ≡ Some x
  pub others : (i : ℕ) → IsSome (leaf_at 0 t i) → (i ≢ j) × (leaf_at 0 u i ≡ leaf_at 0 t i)

added_by : (t : Tree) (x : LeafNode) (o : Option ℕ) → MatchOption o (AllLeavesNonBlank t) (λ j. IsFirstBlank t j)
    → AddedAt t x (number_or (leaf_count t) o) (add_at (extended_if_full o t) (number_or (leaf_count t) o) x)
added_by t x None h = record {
  there = leaf_at-add_at (extend t) (leaf_count t) x (omega (arith, leaf_count-positive (blank_tree (height t))));
  others = λ i set. (
    λ e. omega (arith, leaf_inside t i set, e),
    leaf_at-add_at_other (extend t) (leaf_count t) i x (omega (arith, leaf_count-positive (blank_tree (height t)))) (λ e. omega (arith, leaf_inside t i set, e)) ∙ leaf_at-extend t i,
  );
}
added_by t x (Some j) h = record {
  there = leaf_at-add_at t j x h.inside;
  others = λ i set. (away i set, leaf_at-add_at_other t j i x h.inside (away i set));
}
  where
    away : (i : ℕ) → IsSome (leaf_at 0 t i) → i ≢ j
    away i set e = false≢true (sym (ap is_some (ap (λ k. leaf_at 0 t k) e ∙ h.blank)) ∙ set)

pub added-at : (t : Tree) (x : LeafNode) → AddedAt t x (added_leaf t) (add t x)
added-at t x = added_by t x (first_blank_leaf 0 t) (first_blank_leaf-leftmost t)

-- ---- the leaves of members that are added are unchanged by later Adds

pub leaf_stays : (xs : List LeafNode) (t : Tree) (g : AppliedTree) (j : ℕ) (y : LeafNode) → after_adds xs t ≡ Some g → leaf_at 0 t j ≡ Some y → leaf_at 0 g.tree j ≡ Some y
unfolding after_adds
leaf_stays [] t g j y e at = subst (λ (v : AppliedTree). leaf_at 0 v.tree j ≡ Some y) (same_Some (applied_tree t []) g e) at
leaf_stays (x ∷ xs) t g j y e at =
    let m = mapped (added_leaf t) (after_adds xs (add t x)) g (unless (is_overfilled_above 0 (extended_if_full (first_blank_leaf 0 t) t) (added_leaf t)) (option_map (after_leaf (added_leaf t)) (after_adds xs (add t x))) g e) in
    subst (λ (v : Tree). leaf_at 0 v j ≡ Some y) m.2 (leaf_stays xs (add t x) m.0 j y m.1 (((added-at t x).others j (ap is_some at)).1 ∙ at))

-- the key of a leaf by its node index
leaf_key : (t : Tree) (j : ℕ) (y : LeafNode) → leaf_at 0 t j ≡ Some y → encryption_key_at t (2 * j) ≡ Some y.encryption_key
leaf_key t j y at = ap (option_map encryption_key) (node_at-listing t (2 * j) ∙ sym (leaf_at-listing t j) ∙ ap leaf_entry at)

differing : (b : Bool) → (b ≡ true → ⊥) → b ≡ false
differing true n = absurd (n refl)
differing false n = refl

-- no member that is added has the key of a leaf of the tree
no_key_again : (xs : List LeafNode) (t : Tree) (g : AppliedTree) (j : ℕ) (y : LeafNode) → after_adds xs t ≡ Some g → IsDistinct g.tree → leaf_at 0 t j ≡ Some y
    → has_key (keys_of xs) y.encryption_key ≡ false
unfolding after_adds
no_key_again [] t g j y e d at = refl
no_key_again (x ∷ xs) t g j y e d at =
    let m = mapped (added_leaf t) (after_adds xs (add t x)) g (unless (is_overfilled_above 0 (extended_if_full (first_blank_leaf 0 t) t) (added_leaf t)) (option_map (after_leaf (added_leaf t)) (after_adds xs (add t x))) g e) in
    let a = added-at t x in
    let beside = a.others j (ap is_some at) in
    let distinct : IsDistinct m.0.tree = subst (λ (v : Tree). IsDistinct v) (sym m.2) d in
    let first : bytes_eq x.encryption_key y.encryption_key ≡ false = differing (bytes_eq x.encryption_key y.encryption_key) (λ same.
    let one : x.encryption_key ≡ y.encryption_key = (bytes_eq-Decides x.encryption_key y.encryption_key).0 same in
    distinct (2 * j) (2 * added_leaf t) (λ e. beside.0 (omega (arith, e))) (record {
      key = y.encryption_key;
      here = leaf_key m.0.tree j y (leaf_stays xs (add t x) m.0 j y m.1 (beside.1 ∙ at));
      there = leaf_key m.0.tree (added_leaf t) x (leaf_stays xs (add t x) m.0 (added_leaf t) x m.1 a.there) ∙ ap Some one;
    })) in
    ap (λ b. b || has_key (keys_of xs) y.encryption_key) first ∙ no_key_again xs (add t x) m.0 j y m.1 distinct (beside.1 ∙ at)

-- no two members that are added have one key
keys_apart : (xs : List LeafNode) (t : Tree) (g : AppliedTree) → after_adds xs t ≡ Some g → IsDistinct g.tree → are_distinct (keys_of xs) ≡ true
unfolding after_adds are_distinct
keys_apart [] t g e d = refl
keys_apart (x ∷ xs) t g e d =
    let m = mapped (added_leaf t) (after_adds xs (add t x)) g (unless (is_overfilled_above 0 (extended_if_full (first_blank_leaf 0 t) t) (added_leaf t)) (option_map (after_leaf (added_leaf t)) (after_adds xs (add t x))) g e) in
    let distinct : IsDistinct m.0.tree = subst (λ (v : Tree). IsDistinct v) (sym m.2) d in
    ap (λ b. not b && are_distinct (keys_of xs)) (no_key_again xs (add t x) m.0 (added_leaf t) x m.1 distinct (added-at t x).there)
    ∙ keys_apart xs (add t x) m.0 m.1 distinct

pub repeated_adds_repeat_keys : RepeatedAddsRepeatKeys
unfolding outcome with_members have_distinct_added_keys
repeated_adds_repeat_keys items t g e repeated =
    differing (has_distinct_keys g.tree) (λ distinct.
    let d = (distinct-by_keys g.tree).0 distinct in
    let apart = option_and_then_some (with_members (new_members items)) (without_adds items t) g e
    (λ w a b. keys_apart (new_members items) w g (where_so (nat_le (member_count w + length (new_members items)) leaf_limit) (after_adds (new_members items) w) g b) d) in
    false≢true (sym repeated ∙ ap are_distinct (added_keys_are items) ∙ apart))
