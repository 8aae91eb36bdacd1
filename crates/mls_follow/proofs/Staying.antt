-- The committer's leaf stays set under its own commit's proposals.
use Rattle.std.proofs.Common.{◌≡◌, ◌≢◌, ◌∙◌, ℕ, ◌+◌, List, [], ◌∷◌, Bool, true, false, Option, Some, None, IsSome, refl, sym, ap, subst, arith}
use Rattle.std.specs.Prelude.{MatchOption, is_some, not, ◌||◌, ◌==◌, nat_le, length, if◌then◌else◌, option_and_then, option_map}
use Rattle.std.specs.List.{list_any}
use Rattle.std.proofs.lemmas.Bool.{false≢true}
use Rattle.std.proofs.lemmas.Bool.Decides.{nat_tests}
use Rattle.std.proofs.lemmas.Option.{none-some, same_Some, option_and_then_some, cond_some}
use Rattle.mls_nodes.specs.declared.leaf.LeafNode.{LeafNode}
use Rattle.mls_msgs.specs.declared.framed_content.Sender.{Sender}
use Rattle.mls_msgs.specs.declared.framed_content.Sender.TheVariants.{Member, External, NewMemberProposal, NewMemberCommit}
use Rattle.mls_msgs.specs.declared.commit.UpdatePath.{UpdatePath}
use Rattle.mls_msgs.specs.declared.proposal.Proposal.{Proposal}
use Rattle.mls_msgs.specs.declared.proposal.Proposal.TheVariants.{Add, Update, Remove, ContextExtensions, PreSharedKey, ReInit, ExternalInit}
use Rattle.mls_tree.specs.Tree.{Tree, height, leaf_at, leaf_count, member_count}
use Rattle.mls_tree.specs.BlankLeaves.{first_blank_leaf, IsFirstBlank, AllLeavesNonBlank}
use Rattle.mls_tree.specs.TreeOperations.{put_leaf, blank_path, remove, extend, add, add_at, added_leaf, extended_if_full, number_or, blank_tree, is_overfilled_above}
use Rattle.mls_tree.proofs.Added.{leaf_at-add_at_other}
use Rattle.mls_tree.proofs.FirstBlanks.{first_blank_leaf-leftmost}
use Rattle.mls_tree.proofs.Trees.{leaf_count-positive}
use Rattle.mls_tree.proofs.Kept.{leaf_at-truncate, leaf_at-extend}
use Rattle.mls_apply.proofs.Leaves.{leaf_inside, kept_beside}
use Rattle.mls_apply.proofs.SoundOutcomes.{unless, where_so, mapped}
use Rattle.mls_apply.specs.declared.list_item.ListItem.{ListItem}
use Rattle.mls_apply.specs.ContextExtensions.{has_one_context_extensions}
use Rattle.mls_apply.specs.ListRules.{list_refusal, is_leaf_number, removed_leaf, has_no_update_by, has_no_remove_of, have_distinct_targets, is_reinit_alone, needs_path}
use Rattle.mls_apply.specs.PskProposals.{have_distinct_psks}
use Rattle.mls_apply.proofs.LackingRoom.{updates_keep}
use Rattle.mls_nodes.specs.Limits.{leaf_limit}
use Rattle.mls_apply.specs.Senders.{is_present}
use Rattle.mls_apply.specs.AppliedList.{AppliedTree, outcome, with_members, new_members, after_leaf, after_adds, after_updates, after_remove, after_removes}
use Rattle.mls_apply.specs.RuleLists.{Rule, rule, first_failing}
use Rattle.mls_follow.specs.CommitTree.{IsListed}
use Rattle.mls_apply.specs.declared.refusal.Refusal.{Refusal}
use Rattle.mls_apply.specs.declared.refusal.Refusal.TheVariants.{UpdateByCommitter, RemovesCommitter, SameLeafTwice, TwoContextExtensions, PskTwice, ReInitNotAlone, PathMissing}

other : (j i : ℕ) → (j == i) ≡ false → i ≢ j
other j i f e = grind (arith, nat_tests)

-- another leaf is changed
changed_other : (t : Tree) (i j : ℕ) (x : Option LeafNode) → IsSome (leaf_at 0 t j) → (j == i) ≡ false → leaf_at 0 (blank_path (put_leaf 0 t j x) j) i ≡ leaf_at 0 t i
changed_other t i j x set away = kept_beside t j i x set (other j i away)

either_false : (a b : Bool) → not (a || b) ≡ true → (a ≡ false) × (not b ≡ true)
either_false true b e = absurd (false≢true e)
either_false false b e = (refl, e)

after_remove-stays : (i : ℕ) (p : Proposal) (t u : Tree) → is_leaf_number (removed_leaf p) i ≡ false → after_remove p t ≡ Some u → IsSome (leaf_at 0 t i) → IsSome (leaf_at 0 u i)
after_remove-stays i (Add k) t u away e set = subst (λ (v : Tree). IsSome (leaf_at 0 v i)) (same_Some t u e) set
after_remove-stays i (Update x) t u away e set = subst (λ (v : Tree). IsSome (leaf_at 0 v i)) (same_Some t u e) set
after_remove-stays i (ContextExtensions es) t u away e set = subst (λ (v : Tree). IsSome (leaf_at 0 v i)) (same_Some t u e) set
after_remove-stays i (PreSharedKey es) t u away e set = subst (λ (v : Tree). IsSome (leaf_at 0 v i)) (same_Some t u e) set
after_remove-stays i (ReInit es) t u away e set = subst (λ (v : Tree). IsSome (leaf_at 0 v i)) (same_Some t u e) set
after_remove-stays i (ExternalInit es) t u away e set = subst (λ (v : Tree). IsSome (leaf_at 0 v i)) (same_Some t u e) set
after_remove-stays i (Remove j) t u away e set =
    let parts = cond_some (is_some (leaf_at 0 t j)) (remove t j) u e in
    subst (λ (v : Tree). IsSome (leaf_at 0 v i)) parts.1
    (ap is_some (leaf_at-truncate 0 (blank_path (put_leaf 0 t j None) j) i ∙ changed_other t i j None parts.0 away) ∙ set)

pub removes_stay : (i : ℕ) (items : List ListItem) (t u : Tree) → not (list_any (λ x. is_leaf_number (removed_leaf x.proposal) i) items) ≡ true → after_removes items t ≡ Some u
    → IsSome (leaf_at 0 t i) → IsSome (leaf_at 0 u i)
unfolding after_removes
removes_stay i [] t u none e set = subst (λ (v : Tree). IsSome (leaf_at 0 v i)) (same_Some t u e) set
removes_stay i (x ∷ xs) t u none e set =
    let n = either_false (is_leaf_number (removed_leaf x.proposal) i) (list_any (λ x. is_leaf_number (removed_leaf x.proposal) i) xs) none in
    option_and_then_some (after_removes xs) (after_remove x.proposal t) u e
    (λ v a b. removes_stay i xs v u n.1 b (after_remove-stays i x.proposal t v n.0 a set))

-- ---- Adds

module _ (i : ℕ) (t : Tree) (x : LeafNode) (set : IsSome (leaf_at 0 t i)) where
  beside : (o : Option ℕ) → MatchOption o (AllLeavesNonBlank t) (λ j. IsFirstBlank t j)
      → IsSome (leaf_at 0 (add_at (extended_if_full o t) (number_or (leaf_count t) o) x) i)
  beside None h =
      let within = leaf_inside t i set in
      ap is_some (leaf_at-add_at_other (extend t) (leaf_count t) i x (omega (arith, leaf_count-positive (blank_tree (height t)))) (λ e. omega (arith, within, e)) ∙ leaf_at-extend t i) ∙ set
  beside (Some j) h =
      ap is_some (leaf_at-add_at_other t j i x h.inside (λ e. false≢true (sym (ap is_some (ap (λ k. leaf_at 0 t k) e ∙ h.blank)) ∙ set))) ∙ set

  add-stays : IsSome (leaf_at 0 (add t x) i)
  add-stays = beside (first_blank_leaf 0 t) (first_blank_leaf-leftmost t)

pub adds_stay : (i : ℕ) (xs : List LeafNode) (t : Tree) (g : AppliedTree) → after_adds xs t ≡ Some g → IsSome (leaf_at 0 t i) → IsSome (leaf_at 0 g.tree i)
unfolding after_adds
adds_stay i [] t g e set = subst (λ (v : AppliedTree). IsSome (leaf_at 0 v.tree i)) (same_Some (record { tree = t; added = [] }) g e) set
adds_stay i (x ∷ xs) t g e set =
    let m = mapped (added_leaf t) (after_adds xs (add t x)) g (unless (is_overfilled_above 0 (extended_if_full (first_blank_leaf 0 t) t) (added_leaf t)) (option_map (after_leaf (added_leaf t)) (after_adds xs (add t x))) g e) in
    subst (λ (v : Tree). IsSome (leaf_at 0 v i)) m.2 (adds_stay i xs (add t x) m.0 m.1 (add-stays i t x set))

-- ---- the whole list

holds : {E : Type 0} (b : Bool) (o : Option E) (x : E) → (if b then o else Some x) ≡ None → (b ≡ true) × (o ≡ None)
holds true o x e = (refl, e)
holds false o x e = absurd (none-some x (sym e))

abbrev past_removes : List ListItem → Bool → List (Rule Refusal)
past_removes items has_path =
    rule SameLeafTwice (have_distinct_targets items) ∷ rule TwoContextExtensions (has_one_context_extensions items) ∷ rule PskTwice (have_distinct_psks items) ∷
    rule ReInitNotAlone (is_reinit_alone items) ∷ rule PathMissing (has_path || not (needs_path items)) ∷ []

abbrev list_rest : Sender → List ListItem → Bool → List (Rule Refusal)
list_rest committer items has_path = rule RemovesCommitter (has_no_remove_of committer items) ∷ past_removes items has_path

kept_parts : (committer : Sender) (items : List ListItem) (has_path : Bool) → list_refusal committer items has_path ≡ None → has_no_remove_of committer items ≡ true
unfolding list_refusal
kept_parts committer items has_path kept =
    let first = holds (has_no_update_by committer items) (first_failing (list_rest committer items has_path)) UpdateByCommitter kept in
    (holds (has_no_remove_of committer items) (first_failing (past_removes items has_path)) RemovesCommitter first.1).0

-- the committer's leaf stays set: an Update leaves the same leaves set, and no Remove is of it
pub committer_stays : (i : ℕ) (items : List ListItem) (has_path : Bool) (t : Tree) (g : AppliedTree)
    → list_refusal (Member i) items has_path ≡ None → outcome items t ≡ Some g → IsSome (leaf_at 0 t i) → IsSome (leaf_at 0 g.tree i)
unfolding outcome with_members has_no_remove_of
committer_stays i items has_path t g kept made set =
    option_and_then_some (with_members (new_members items)) (option_and_then (after_removes items) (after_updates items t)) g made
    (λ w a b. option_and_then_some (after_removes items) (after_updates items t) w a
    (λ v c d. adds_stay i (new_members items) w g
    (where_so (nat_le (member_count w + length (new_members items)) leaf_limit) (after_adds (new_members items) w) g b)
    (removes_stay i items v w (kept_parts (Member i) items has_path kept) d ((updates_keep items t v c).alike i ∙ set))))

-- so a committer that is a member is still one after its list; others need no leaf
pub committer_present : (committer : Sender) (items : List ListItem) (path : Option UpdatePath) (t : Tree) (g : AppliedTree)
    → IsListed committer items path → outcome items t ≡ Some g → is_present t committer ≡ true → is_present g.tree committer ≡ true
committer_present (Member i) items path t g listed made set = committer_stays i items (is_some path) t g listed made set
committer_present (External k) items path t g listed made set = refl
committer_present NewMemberProposal items path t g listed made set = refl
committer_present NewMemberCommit items path t g listed made set = refl
