-- A tree stays sound under the proposals of a commit.
use Rattle.std.proofs.Common.{◌≡◌, ℕ, ◌+◌, Bool, true, false, List, [], ◌∷◌, length, Option, Some, None, is_some, refl, ap, subst}
use Rattle.std.specs.Prelude.{if◌then◌else◌, nat_le, option_map}
use Rattle.std.proofs.lemmas.Option.{none-some, same_Some, option_and_then_some, cond_some}
use Rattle.mls_nodes.specs.Limits.{leaf_limit}
use Rattle.mls_nodes.specs.declared.leaf.LeafNode.{LeafNode}
use Rattle.mls_msgs.specs.declared.framed_content.Sender.{Sender}
use Rattle.mls_msgs.specs.declared.proposal.Proposal.{Proposal}
use Rattle.mls_msgs.specs.declared.proposal.Proposal.TheVariants.{Add, Update, Remove, ContextExtensions, PreSharedKey, ReInit, ExternalInit}
use Rattle.mls_tree.specs.Tree.{Tree, member_count, leaf_at}
use Rattle.mls_tree.specs.BlankLeaves.{first_blank_leaf}
use Rattle.mls_tree.specs.TreeOperations.{update, remove, add, added_leaf, extended_if_full, is_overfilled_above}
use Rattle.mls_apply.specs.declared.list_item.ListItem.{ListItem}
use Rattle.mls_apply.specs.Senders.{member_index}
use Rattle.mls_apply.specs.AppliedList.{AppliedTree, applied_tree, outcome, with_members, new_members, without_adds, after_leaf, after_adds, updated_at, after_update, after_updates, after_remove, after_removes}
use Rattle.mls_check.specs.PreservedValidity.{IsParentHashValidTree}
use Rattle.mls_check.proofs.Remaining.{update_parents, remove_parents, parts_sound}
use Rattle.mls_check.proofs.Adding.{sound_add}

pub unless : (b : Bool) (o : Option AppliedTree) (g : AppliedTree) → (if b then None else o) ≡ Some g → o ≡ Some g
unless true o g e = absurd (none-some g e)
unless false o g e = e

pub where_so : (b : Bool) (o : Option AppliedTree) (g : AppliedTree) → (if b then o else None) ≡ Some g → o ≡ Some g
where_so true o g e = e
where_so false o g e = absurd (none-some g e)

pub mapped : (j : ℕ) (o : Option AppliedTree) (g : AppliedTree) → option_map (after_leaf j) o ≡ Some g → (h : AppliedTree) × (o ≡ Some h) × (h.tree ≡ g.tree)
mapped j None g e = absurd (none-some g e)
mapped j (Some h) g e = (h, refl, ap (λ (v : AppliedTree). v.tree) (same_Some (after_leaf j h) g e))

module _ (H : List ℕ → List ℕ) where
  member-sound : (o : Option ℕ) (x : LeafNode) (t u : Tree) → updated_at o x t ≡ Some u → IsParentHashValidTree H t → IsParentHashValidTree H u
  member-sound None x t u e h = absurd (none-some u e)
  member-sound (Some i) x t u e h =
      subst (IsParentHashValidTree H) (cond_some (is_some (leaf_at 0 t i)) (update t i x) u e).1 (parts_sound H (update t i x) t (update_parents t i x) h)

  update-sound : (sender : Sender) (p : Proposal) (t u : Tree) → after_update sender p t ≡ Some u → IsParentHashValidTree H t → IsParentHashValidTree H u
  update-sound sender (Add k) t u e h = subst (IsParentHashValidTree H) (same_Some t u e) h
  update-sound sender (Remove i) t u e h = subst (IsParentHashValidTree H) (same_Some t u e) h
  update-sound sender (ContextExtensions es) t u e h = subst (IsParentHashValidTree H) (same_Some t u e) h
  update-sound sender (PreSharedKey es) t u e h = subst (IsParentHashValidTree H) (same_Some t u e) h
  update-sound sender (ReInit es) t u e h = subst (IsParentHashValidTree H) (same_Some t u e) h
  update-sound sender (ExternalInit es) t u e h = subst (IsParentHashValidTree H) (same_Some t u e) h
  update-sound sender (Update x) t u e h = member-sound (member_index sender) x t u e h

  remove-sound : (p : Proposal) (t u : Tree) → after_remove p t ≡ Some u → IsParentHashValidTree H t → IsParentHashValidTree H u
  remove-sound (Add k) t u e h = subst (IsParentHashValidTree H) (same_Some t u e) h
  remove-sound (Update x) t u e h = subst (IsParentHashValidTree H) (same_Some t u e) h
  remove-sound (ContextExtensions es) t u e h = subst (IsParentHashValidTree H) (same_Some t u e) h
  remove-sound (PreSharedKey es) t u e h = subst (IsParentHashValidTree H) (same_Some t u e) h
  remove-sound (ReInit es) t u e h = subst (IsParentHashValidTree H) (same_Some t u e) h
  remove-sound (ExternalInit es) t u e h = subst (IsParentHashValidTree H) (same_Some t u e) h
  remove-sound (Remove i) t u e h =
      subst (IsParentHashValidTree H) (cond_some (is_some (leaf_at 0 t i)) (remove t i) u e).1 (parts_sound H (remove t i) t (remove_parents t i) h)

  updates-sound : (items : List ListItem) (t u : Tree) → after_updates items t ≡ Some u → IsParentHashValidTree H t → IsParentHashValidTree H u
  unfolding after_updates
  updates-sound [] t u e h = subst (IsParentHashValidTree H) (same_Some t u e) h
  updates-sound (x ∷ xs) t u e h =
      option_and_then_some (after_updates xs) (after_update x.sender x.proposal t) u e
      (λ v a b. updates-sound xs v u b (update-sound x.sender x.proposal t v a h))

  removes-sound : (items : List ListItem) (t u : Tree) → after_removes items t ≡ Some u → IsParentHashValidTree H t → IsParentHashValidTree H u
  unfolding after_removes
  removes-sound [] t u e h = subst (IsParentHashValidTree H) (same_Some t u e) h
  removes-sound (x ∷ xs) t u e h =
      option_and_then_some (after_removes xs) (after_remove x.proposal t) u e
      (λ v a b. removes-sound xs v u b (remove-sound x.proposal t v a h))

  adds-sound : (xs : List LeafNode) (t : Tree) (g : AppliedTree) → after_adds xs t ≡ Some g → IsParentHashValidTree H t → IsParentHashValidTree H g.tree
  unfolding after_adds
  adds-sound [] t g e h = subst (λ (v : AppliedTree). IsParentHashValidTree H v.tree) (same_Some (applied_tree t []) g e) h
  adds-sound (x ∷ xs) t g e h =
      let m = mapped (added_leaf t) (after_adds xs (add t x)) g (unless (is_overfilled_above 0 (extended_if_full (first_blank_leaf 0 t) t) (added_leaf t)) (option_map (after_leaf (added_leaf t)) (after_adds xs (add t x))) g e) in
      subst (IsParentHashValidTree H) m.2 (adds-sound xs (add t x) m.0 m.1 (sound_add H t x h))

  pub outcome-sound : (items : List ListItem) (t : Tree) (g : AppliedTree) → outcome items t ≡ Some g → IsParentHashValidTree H t → IsParentHashValidTree H g.tree
  unfolding outcome with_members
  outcome-sound items t g e h =
      option_and_then_some (with_members (new_members items)) (without_adds items t) g e
      (λ w a b. option_and_then_some (after_removes items) (after_updates items t) w a
      (λ v c d. adds-sound (new_members items) w g
      (where_so (nat_le (member_count w + length (new_members items)) leaf_limit) (after_adds (new_members items) w) g b)
      (removes-sound items v w d (updates-sound items t v c h))))
