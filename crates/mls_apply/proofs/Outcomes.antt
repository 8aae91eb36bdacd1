-- The outcome of a list, in the steps that the code takes.
use Rattle.std.proofs.Common.{◌≡◌, ◌∙◌, ◌+◌, ◌≤◌, List, length, true, false, Some, None, IsSome, ap, inl, inr, arith}
use Rattle.std.specs.Prelude.{nat_le, if◌then◌else◌, is_some, option_and_then}
use Rattle.std.proofs.lemmas.Bool.{cases_lt}
use Rattle.std.proofs.lemmas.Bool.Decides.{nat_tests}
use Rattle.mls_nodes.specs.Limits.{leaf_limit}
use Rattle.mls_tree.specs.Tree.{Tree, member_count}
use Rattle.mls_apply.specs.AppliedList.{after_updates, after_removes, after_adds, new_members, without_adds, with_members, outcome, ExceedsCapacity}
use Rattle.mls_apply.specs.declared.list_item.ListItem.{ListItem}

-- an Update can't be applied
pub without_adds-unset : (items : List ListItem) (t : Tree) → after_updates items t ≡ None → without_adds items t ≡ None
without_adds-unset items t e = ap (option_and_then (after_removes items)) e

module _ (items : List ListItem) (t u v : Tree) (updated : after_updates items t ≡ Some u) where
  -- a Remove can't be applied
  pub without_adds-none : after_removes items u ≡ None → without_adds items t ≡ None
  without_adds-none e = ap (option_and_then (after_removes items)) updated ∙ e

  module _ (removed : after_removes items u ≡ Some v) where
    without_adds-some : without_adds items t ≡ Some v
    without_adds-some = ap (option_and_then (after_removes items)) updated ∙ removed

    pub without_adds-set : IsSome (without_adds items t)
    without_adds-set = ap is_some without_adds-some

    outcome-members : outcome items t ≡ with_members (new_members items) v
    unfolding outcome
    outcome-members = ap (option_and_then (with_members (new_members items))) without_adds-some

    -- there is room for the Adds
    pub outcome-adds : member_count v + length (new_members items) ≤ leaf_limit → outcome items t ≡ after_adds (new_members items) v
    unfolding with_members
    outcome-adds capacity =
        let e : nat_le (member_count v + length (new_members items)) leaf_limit ≡ true = grind (arith, nat_tests) in
        outcome-members ∙ ap (λ b. if b then after_adds (new_members items) v else None) e

    -- so it is where the list doesn't lack room
    pub room_left : (ExceedsCapacity items t → ⊥) → member_count v + length (new_members items) ≤ leaf_limit
    room_left never =
        elim (cases_lt leaf_limit (member_count v + length (new_members items))) [
          | inl full ↦ absurd (never (record { tree = v; applied = without_adds-some; full = full }))
          | inr capacity ↦ capacity
        ]

    pub outcome-capacity : (ExceedsCapacity items t → ⊥) → outcome items t ≡ after_adds (new_members items) v
    outcome-capacity never = outcome-adds (room_left never)

-- where it does, there is no outcome
pub outcome-lacking : (items : List ListItem) (t : Tree) → ExceedsCapacity items t → IsSome (without_adds items t) × (outcome items t ≡ None)
unfolding outcome with_members
outcome-lacking items t h =
    let e : nat_le (member_count h.tree + length (new_members items)) leaf_limit ≡ false = (let full = h.full in grind (arith, nat_tests)) in (
      ap is_some h.applied,
      ap (option_and_then (with_members (new_members items))) h.applied ∙ ap (λ b. if b then after_adds (new_members items) h.tree else None) e,
    )
