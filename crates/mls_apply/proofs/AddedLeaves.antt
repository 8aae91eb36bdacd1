-- The leaves of the tree after Adds: those that were added, and the others.
use Rattle.std.proofs.Common.{◌≡◌, ◌≢◌, ◌∙◌, ℕ, ◌+◌, List, [], ◌∷◌, length, Option, Some, None, refl, sym, ap, subst, arith}
use Rattle.std.specs.Prelude.{nat_le, option_map, MatchOption}
use Rattle.std.proofs.lemmas.Option.{same_Some, none-some, option_and_then_some}
use Rattle.mls_nodes.specs.Limits.{leaf_limit}
use Rattle.mls_nodes.specs.declared.leaf.LeafNode.{LeafNode}
use Rattle.mls_tree.specs.Tree.{Tree, height, leaf_count, member_count, leaf_at}
use Rattle.mls_tree.specs.BlankLeaves.{first_blank_leaf, IsFirstBlank, AllLeavesNonBlank}
use Rattle.mls_tree.specs.TreeOperations.{blank_tree, extend, add, add_at, added_leaf, extended_if_full, number_or, is_overfilled_above}
use Rattle.mls_tree.proofs.Trees.{leaf_count-positive}
use Rattle.mls_tree.proofs.Kept.{leaf_at-extend}
use Rattle.mls_tree.proofs.FirstBlanks.{first_blank_leaf-leftmost}
use Rattle.mls_tree.proofs.Added.{leaf_at-add_at_other}
use Rattle.mls_apply.specs.declared.list_item.ListItem.{ListItem}
use Rattle.mls_apply.specs.AppliedList.{AppliedTree, applied_tree, outcome, with_members, new_members, without_adds, after_leaf, after_adds}
use Rattle.mls_apply.specs.Outline.{IsApart}
use Rattle.mls_apply.specs.OutlineInternal.{AreAt}
use Rattle.mls_apply.proofs.SoundOutcomes.{unless, where_so}
use Rattle.mls_apply.proofs.RepeatedAdds.{added-at, leaf_stays}

-- ---- a leaf that is not the added one

beside_by : (t : Tree) (x : LeafNode) (i : ℕ) (o : Option ℕ) → MatchOption o (AllLeavesNonBlank t) (λ j. IsFirstBlank t j) → i ≢ number_or (leaf_count t) o
    → leaf_at 0 (add_at (extended_if_full o t) (number_or (leaf_count t) o) x) i ≡ leaf_at 0 t i
beside_by t x i None h away =
    leaf_at-add_at_other (extend t) (leaf_count t) i x (omega (arith, leaf_count-positive (blank_tree (height t)))) away ∙ leaf_at-extend t i
beside_by t x i (Some j) h away = leaf_at-add_at_other t j i x h.inside away

pub leaf_beside : (t : Tree) (x : LeafNode) (i : ℕ) → i ≢ added_leaf t → leaf_at 0 (add t x) i ≡ leaf_at 0 t i
leaf_beside t x i away = beside_by t x i (first_blank_leaf 0 t) (first_blank_leaf-leftmost t) away

-- what a tree after one more Add is made of
pub one_added : (t : Tree) (x : LeafNode) (xs : List LeafNode) (g : AppliedTree) → after_adds (x ∷ xs) t ≡ Some g
    → (h : AppliedTree) × (after_adds xs (add t x) ≡ Some h) × (h.tree ≡ g.tree) × (added_leaf t ∷ h.added ≡ g.added)
unfolding after_adds
one_added t x xs g e =
    go (after_adds xs (add t x)) refl
    (unless (is_overfilled_above 0 (extended_if_full (first_blank_leaf 0 t) t) (added_leaf t)) (option_map (after_leaf (added_leaf t)) (after_adds xs (add t x))) g e)
  where
    go : (o : Option AppliedTree) → after_adds xs (add t x) ≡ o → option_map (after_leaf (added_leaf t)) o ≡ Some g
        → (h : AppliedTree) × (after_adds xs (add t x) ≡ Some h) × (h.tree ≡ g.tree) × (added_leaf t ∷ h.added ≡ g.added)
    go None is f = absurd (none-some g f)
    go (Some h) is f =
        let same = same_Some (after_leaf (added_leaf t) h) g f in
        (h, is, ap (λ (v : AppliedTree). v.tree) same, ap (λ (v : AppliedTree). v.added) same)

-- a leaf that is none of the added ones stays as it is
pub leaf_outside : (xs : List LeafNode) (t : Tree) (g : AppliedTree) (j : ℕ) → after_adds xs t ≡ Some g → IsApart g.added j → leaf_at 0 g.tree j ≡ leaf_at 0 t j
unfolding after_adds
leaf_outside [] t g j e a = ap (λ (v : AppliedTree). leaf_at 0 v.tree j) (sym (same_Some (applied_tree t []) g e))
leaf_outside (x ∷ xs) t g j e a =
    let m = one_added t x xs g e in
    let apart = subst (λ js. IsApart js j) (sym m.3) a in
    ap (λ v. leaf_at 0 v j) (sym m.2) ∙ leaf_outside xs (add t x) m.0 j m.1 apart.1 ∙ leaf_beside t x j apart.0

-- ---- the added leaves are those of the new members

pub members_at : (xs : List LeafNode) (t : Tree) (g : AppliedTree) → after_adds xs t ≡ Some g → AreAt g.tree xs g.added
unfolding after_adds
members_at [] t g e = subst (λ (v : AppliedTree). AreAt v.tree [] v.added) (same_Some (applied_tree t []) g e) tt
members_at (x ∷ xs) t g e =
    let m = one_added t x xs g e in
    let there = leaf_stays xs (add t x) m.0 (added_leaf t) x m.1 (added-at t x).there in
    subst (λ v. AreAt v (x ∷ xs) g.added) m.2 (subst (λ js. AreAt m.0.tree (x ∷ xs) js) m.3 (there, members_at xs (add t x) m.0 m.1))

pub outcome_members : (items : List ListItem) (t : Tree) (g : AppliedTree) → outcome items t ≡ Some g → AreAt g.tree (new_members items) g.added
unfolding outcome with_members
outcome_members items t g e =
    option_and_then_some (with_members (new_members items)) (without_adds items t) g e
    (λ w a b. members_at (new_members items) w g (where_so (nat_le (member_count w + length (new_members items)) leaf_limit) (after_adds (new_members items) w) g b))
