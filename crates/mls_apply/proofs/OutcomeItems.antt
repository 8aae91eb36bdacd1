-- The tree after a list is that after its Adds, Updates and Removes alone.
use Rattle.std.proofs.Common.{◌≡◌, ◌∙◌, List, [], ◌∷◌, Option, Some, None, Bool, true, false, cond, refl, sym, ap}
use Rattle.std.specs.Prelude.{option_and_then, filter}
use Rattle.std.proofs.lemmas.Bool.{false≢true}
use Rattle.mls_nodes.specs.declared.leaf.LeafNode.{LeafNode}
use Rattle.mls_msgs.specs.declared.framed_content.Sender.{Sender}
use Rattle.mls_msgs.specs.declared.proposal.Proposal.{Proposal}
use Rattle.mls_msgs.specs.declared.proposal.Proposal.TheVariants.{Add, Update, Remove, ContextExtensions, PreSharedKey, ReInit, ExternalInit}
use Rattle.mls_msgs.specs.Profile.{is_members_proposal}
use Rattle.mls_tree.specs.Tree.{Tree}
use Rattle.mls_apply.specs.declared.list_item.ListItem.{ListItem}
use Rattle.mls_apply.specs.AppliedList.{after_update, after_updates, after_remove, after_removes, added_to, new_members, with_members, outcome}
use Rattle.mls_apply.specs.OutcomeItems.{is_members_item, OutcomesIgnoreOthers}

-- the items that change the tree or the context
abbrev kept : List ListItem → List ListItem
kept xs = filter is_members_item xs

-- ---- other proposals change nothing

no_update : (sender : Sender) (p : Proposal) (t : Tree) → is_members_proposal p ≡ false → after_update sender p t ≡ Some t
no_update sender (Add k) t e = absurd (false≢true (sym e))
no_update sender (Update x) t e = absurd (false≢true (sym e))
no_update sender (Remove i) t e = absurd (false≢true (sym e))
no_update sender (ContextExtensions es) t e = absurd (false≢true (sym e))
no_update sender (PreSharedKey id) t e = refl
no_update sender (ReInit r) t e = refl
no_update sender (ExternalInit output) t e = refl

no_remove : (p : Proposal) (t : Tree) → is_members_proposal p ≡ false → after_remove p t ≡ Some t
no_remove (Add k) t e = absurd (false≢true (sym e))
no_remove (Update x) t e = absurd (false≢true (sym e))
no_remove (Remove i) t e = absurd (false≢true (sym e))
no_remove (ContextExtensions es) t e = absurd (false≢true (sym e))
no_remove (PreSharedKey id) t e = refl
no_remove (ReInit r) t e = refl
no_remove (ExternalInit output) t e = refl

no_add : (p : Proposal) (xs : List LeafNode) → is_members_proposal p ≡ false → added_to p xs ≡ xs
no_add (Add k) xs e = absurd (false≢true (sym e))
no_add (Update x) xs e = absurd (false≢true (sym e))
no_add (Remove i) xs e = absurd (false≢true (sym e))
no_add (ContextExtensions es) xs e = absurd (false≢true (sym e))
no_add (PreSharedKey id) xs e = refl
no_add (ReInit r) xs e = refl
no_add (ExternalInit output) xs e = refl

-- ---- lists without them

same_then : (f g : Tree → Option Tree) → ((t : Tree) → f t ≡ g t) → (o : Option Tree) → option_and_then f o ≡ option_and_then g o
same_then f g h None = refl
same_then f g h (Some t) = h t

updates_step : (x : ListItem) (xs ys : List ListItem) (t : Tree) (b : Bool) → is_members_item x ≡ b → ((u : Tree) → after_updates ys u ≡ after_updates xs u)
    → after_updates (cond b (x ∷ ys) ys) t ≡ after_updates (x ∷ xs) t
unfolding after_updates
updates_step x xs ys t true e below = same_then (after_updates ys) (after_updates xs) below (after_update x.sender x.proposal t)
updates_step x xs ys t false e below = below t ∙ sym (ap (option_and_then (after_updates xs)) (no_update x.sender x.proposal t e))

updates_kept : (xs : List ListItem) (t : Tree) → after_updates (kept xs) t ≡ after_updates xs t
updates_kept [] t = refl
updates_kept (x ∷ xs) t = updates_step x xs (kept xs) t (is_members_item x) refl (updates_kept xs)

removes_step : (x : ListItem) (xs ys : List ListItem) (t : Tree) (b : Bool) → is_members_item x ≡ b → ((u : Tree) → after_removes ys u ≡ after_removes xs u)
    → after_removes (cond b (x ∷ ys) ys) t ≡ after_removes (x ∷ xs) t
unfolding after_removes
removes_step x xs ys t true e below = same_then (after_removes ys) (after_removes xs) below (after_remove x.proposal t)
removes_step x xs ys t false e below = below t ∙ sym (ap (option_and_then (after_removes xs)) (no_remove x.proposal t e))

removes_kept : (xs : List ListItem) (t : Tree) → after_removes (kept xs) t ≡ after_removes xs t
removes_kept [] t = refl
removes_kept (x ∷ xs) t = removes_step x xs (kept xs) t (is_members_item x) refl (removes_kept xs)

members_step : (x : ListItem) (xs ys : List ListItem) (b : Bool) → is_members_item x ≡ b → new_members ys ≡ new_members xs
    → new_members (cond b (x ∷ ys) ys) ≡ new_members (x ∷ xs)
unfolding new_members
members_step x xs ys true e below = ap (added_to x.proposal) below
members_step x xs ys false e below = below ∙ sym (no_add x.proposal (new_members xs) e)

members_kept : (xs : List ListItem) → new_members (kept xs) ≡ new_members xs
members_kept [] = refl
members_kept (x ∷ xs) = members_step x xs (kept xs) (is_members_item x) refl (members_kept xs)

pub outcomes_ignore_others : OutcomesIgnoreOthers
unfolding outcome
outcomes_ignore_others xs t =
    ap (λ ys. option_and_then (with_members ys) (option_and_then (after_removes (kept xs)) (after_updates (kept xs) t))) (members_kept xs)
    ∙ ap (λ o. option_and_then (with_members (new_members xs)) (option_and_then (after_removes (kept xs)) o)) (updates_kept xs t)
    ∙ ap (option_and_then (with_members (new_members xs))) (same_then (after_removes (kept xs)) (after_removes xs) (removes_kept xs) (after_updates xs t))
