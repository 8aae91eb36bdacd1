-- The list of an external commit adds and replaces no leaf, and its sender's leaf is a new one.
use Rattle.std.proofs.Common.{◌≡◌, ◌∙◌, ℕ, ◌+◌, List, [], ◌∷◌, ◌++◌, length, true, Option, Some, None, refl, sym, ap, subst, inl, inr}
use Rattle.std.specs.Prelude.{◌==◌, ◌&&◌, nat_le}
use Rattle.std.specs.List.{list_all, Contains}
use Rattle.std.proofs.lemmas.Bool.{false≢true}
use Rattle.std.proofs.lemmas.Option.{same_Some, option_and_then_some}
use Rattle.mls_nodes.specs.Limits.{leaf_limit}
use Rattle.mls_nodes.specs.declared.leaf.LeafNode.{LeafNode}
use Rattle.mls_tree.specs.Tree.{Tree, leaf_at, member_count}
use Rattle.mls_tree.specs.BlankLeaves.{first_blank_leaf}
use Rattle.mls_tree.specs.TreeOperations.{extended_if_full, seat}
use Rattle.mls_tree.proofs.Kept.{leaf_at-extend}
use Rattle.mls_check.proofs.Elements.{and-left, and-right, contains-nil}
use Rattle.mls_msgs.specs.declared.framed_content.Sender.TheVariants.{NewMemberCommit}
use Rattle.mls_msgs.specs.declared.proposal.Proposal.{Proposal}
use Rattle.mls_msgs.specs.declared.proposal.Proposal.TheVariants.{Add, Update, Remove, ContextExtensions, PreSharedKey, ReInit, ExternalInit}
use Rattle.mls_msgs.specs.declared.proposal.ProposalOrRef.{ProposalOrRef}
use Rattle.mls_msgs.specs.declared.proposal.ProposalOrRef.TheVariants as entries
use Rattle.mls_apply.specs.AppliedList.{AppliedTree, applied_tree, outcome, with_members, new_members, added_to, without_adds, after_adds}
use Rattle.mls_apply.specs.JoinRules.{is_join_proposal, is_external_init, is_remove, is_value, value_count, is_join_list, join_items}
use Rattle.mls_apply.specs.ListRules.{replaced_leaf}
use Rattle.mls_apply.proofs.SoundOutcomes.{where_so}
use Rattle.mls_signatures.specs.SignaturesToVerify.{index_before, replaced_leaves, new_leaves}
use Rattle.mls_follow.proofs.CommitLeaves.{listed}

-- ---- its list

adds_none : (p : Proposal) (xs : List LeafNode) → is_join_proposal p ≡ true → added_to p xs ≡ xs
adds_none (Add k) xs e = absurd (false≢true e)
adds_none (Update x) xs e = refl
adds_none (Remove i) xs e = refl
adds_none (ContextExtensions es) xs e = refl
adds_none (PreSharedKey id) xs e = refl
adds_none (ReInit r) xs e = refl
adds_none (ExternalInit output) xs e = refl

replaces_none : (p : Proposal) → replaced_leaf NewMemberCommit p ≡ None
replaces_none (Add k) = refl
replaces_none (Update x) = refl
replaces_none (Remove i) = refl
replaces_none (ContextExtensions es) = refl
replaces_none (PreSharedKey id) = refl
replaces_none (ReInit r) = refl
replaces_none (ExternalInit output) = refl

no_members : (es : List ProposalOrRef) → list_all (is_value is_join_proposal) es ≡ true → new_members (join_items es) ≡ []
unfolding new_members
no_members [] e = refl
no_members (entries.Proposal p ∷ es) e =
    adds_none p (new_members (join_items es)) (and-left (is_join_proposal p) (list_all (is_value is_join_proposal) es) e)
    ∙ no_members es (and-right (is_join_proposal p) (list_all (is_value is_join_proposal) es) e)
no_members (entries.Reference reference ∷ es) e = absurd (false≢true e)

none_replaced : (es : List ProposalOrRef) → replaced_leaves (join_items es) ≡ []
none_replaced [] = refl
none_replaced (entries.Proposal p ∷ es) =
    ap (λ (o : Option ℕ). index_before o (replaced_leaves (join_items es))) (replaces_none p) ∙ none_replaced es
none_replaced (entries.Reference reference ∷ es) = none_replaced es

all_values : (es : List ProposalOrRef) → is_join_list es ≡ true → list_all (is_value is_join_proposal) es ≡ true
unfolding is_join_list
all_values es e =
    let a = list_all (is_value is_join_proposal) es in
    let b = value_count is_external_init es == 1 in
    let c = nat_le (value_count is_remove es) 1 in
    and-left a b (and-left (a && b) c e)

none_added : (es : List ProposalOrRef) (t : Tree) (g : AppliedTree) → is_join_list es ≡ true → outcome (join_items es) t ≡ Some g → g.added ≡ []
unfolding outcome with_members after_adds
none_added es t g list e =
    option_and_then_some (with_members (new_members (join_items es))) (without_adds (join_items es) t) g e
    (λ w a b.
    let none : with_members [] w ≡ Some g = ap (λ (xs : List LeafNode). with_members xs w) (sym (no_members es (all_values es list))) ∙ b in
    let whole : applied_tree w [] ≡ g = same_Some (applied_tree w []) g (where_so (nat_le (member_count w + length {A = LeafNode} []) leaf_limit) (after_adds [] w) g none) in
    sym (ap (λ (v : AppliedTree). v.added) whole))

-- each set leaf of the tree after it was set before
pub join_stood : (es : List ProposalOrRef) (t : Tree) (g : AppliedTree) (j : ℕ) (x : LeafNode) → is_join_list es ≡ true → outcome (join_items es) t ≡ Some g
    → leaf_at 0 g.tree j ≡ Some x → leaf_at 0 t j ≡ Some x
join_stood es t g j x list made at =
    let none : new_leaves (join_items es) g ≡ [] = (λ i. none_replaced es i ++ none_added es t g list made i) in
    elim (listed j x (join_items es) t g made at) [
      | inl c ↦ absurd (contains-nil j (subst (λ (js : List ℕ). Contains js j) none c))
      | inr stood ↦ stood
    ]

-- ---- its sender's leaf

for_blank : (t : Tree) (o : Option ℕ) (j : ℕ) → leaf_at 0 (extended_if_full o t) j ≡ leaf_at 0 t j
for_blank t None j = leaf_at-extend t j
for_blank t (Some k) j = refl

-- the tree in which it is has the same leaves
pub seat_leaves : (t : Tree) (j : ℕ) → leaf_at 0 (seat t).tree j ≡ leaf_at 0 t j
seat_leaves t j = for_blank t (first_blank_leaf 0 t) j
