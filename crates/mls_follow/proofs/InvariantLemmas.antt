-- A follower starts in a judged state, and what it takes leads from one to another.
use Rattle.std.proofs.Common.{◌≡◌, ◌∙◌, ℕ, List, true, Option, Result, Ok, Err, sym, ap, subst, inl, inr}
use Rattle.std.specs.Prelude.{◌⊎◌}
use Rattle.mls_nodes.specs.Requirements.{Requires}
use Rattle.mls_nodes.specs.declared.context.GroupContext.{GroupContext}
use Rattle.mls_nodes.specs.declared.required_capabilities.RequiredCapabilities.{RequiredCapabilities}
use Rattle.mls_nodes.proofs.RequiredOnce.{Requires-one}
use Rattle.mls_tree.specs.RatchetTree.{RatchetTree}
use Rattle.mls_check.specs.LeafValidation.{LeavesAreValid}
use Rattle.mls_check.specs.Signatures.{VerifyFn}
use Rattle.mls_check.proofs.Distinctness.{distinct-by_keys}
use Rattle.mls_msgs.specs.declared.group_info.GroupInfo.{GroupInfo}
use Rattle.mls_msgs.specs.declared.profile.Profile.{Profile}
use Rattle.mls_apply.specs.declared.refusal.Refusal.{Refusal}
use Rattle.mls_follow.specs.State.{State}
use Rattle.mls_follow.specs.FollowerInvariant.{HasUniqueKeysAndValidLeaves}
use Rattle.mls_follow.specs.Runs.{IsTransition}
use Rattle.mls_follow.specs.Start.{IsStart}
use Rattle.mls_follow.specs.Validity.{IsValidState}
use Rattle.mls_follow.specs.declared.taken.Taken.{Taken}
use Rattle.mls_follow.specs.declared.taken.Taken.TheVariants as takens
use Rattle.mls_follow.specs.Acceptance.{IsAcceptable, IsNext}
use Rattle.mls_follow.specs.NextState.{Transition, next}
use Rattle.mls_follow.specs.StrictRules.{supports_after, supports_extensions}
use Rattle.mls_msgs.specs.Rules.{has_rule}
use Rattle.mls_follow.proofs.Answering.{one_message}
use Rattle.mls_follow.proofs.StrictLists.{plain_kept}
use Rattle.mls_follow.proofs.Supporting.{accepted_supports, strict_supports}
use Rattle.mls_follow.proofs.Stepping.{Stays, Moves, IsCommit, stays_or_commits, moved_keys, moved_members}
use Rattle.mls_follow.specs.Resumption.{IsResumed}
use Rattle.mls_follow.specs.StrictnessKept.{IsStrictState}
use Rattle.mls_follow.proofs.Resumable.{resumed_resumable}
use Rattle.mls_follow.proofs.Validity.{start_valid}
use Rattle.mls_msgs.specs.declared.rules.Rules.{Rules}

-- members by one reading of what the context requires are members by each
of_one : (G : VerifyFn) (s : State) (one : RequiredCapabilities) → Requires s.context one
    → LeavesAreValid G s.context.cipher_suite s.context.group_id one s.tree
    → (required : RequiredCapabilities) → Requires s.context required
    → LeavesAreValid G s.context.cipher_suite s.context.group_id required s.tree
of_one G s one first members required requires =
    subst (λ (r : RequiredCapabilities). LeavesAreValid G s.context.cipher_suite s.context.group_id r s.tree)
    (Requires-one s.context one required first requires) members

module _ (G : VerifyFn) (s t : State) (j : HasUniqueKeysAndValidLeaves G s) where
  still_checked : Stays s t → HasUniqueKeysAndValidLeaves G t
  still_checked h = record {
    distinct = rw h.tree j.distinct;
    members = λ required requires.
        rw (h.context, h.tree) (j.members required (subst (λ (c : GroupContext). Requires c required) h.context requires));
    supported = λ has. rw (h.context, h.tree) (j.supported (ap (λ (r : Rules). has_rule r 51) (sym h.rules) ∙ has));
  }

  moved_checked : Moves G s t → (has_rule t.rules 51 ≡ true → supports_extensions t.context.extensions t.tree ≡ true) → HasUniqueKeysAndValidLeaves G t
  moved_checked m supported = record {
    distinct = moved_keys G s t m;
    members = of_one G t m.required m.requires (moved_members G s t m);
    supported = supported;
  }

-- of a commit the strict rules say it, and of a proposal nothing changes
after_checked : (G : VerifyFn) (s : State) (step : Transition) → HasUniqueKeysAndValidLeaves G s → (has_rule s.rules 51 ≡ true → supports_after step.taken step.state ≡ true)
    → Stays s step.state ⊎ (Moves G s step.state × IsCommit step.taken) → HasUniqueKeysAndValidLeaves G step.state
after_checked G s step j supports (inl h) = still_checked G s step.state j h
after_checked G s step j supports (inr m) =
    moved_checked G s step.state j m.0 (λ has. commit_supports step.taken m.1 (supports (ap (λ (r : Rules). has_rule r 51) (sym m.0.rules) ∙ has)))
  where
    commit_supports : (taken : Taken) → IsCommit taken → supports_after taken step.state ≡ true → supports_extensions step.state.context.extensions step.state.tree ≡ true
    commit_supports (takens.Commit _) is h = h
    commit_supports (takens.Proposal _) is h = absurd is

pub taken_checked : (G : VerifyFn) (s : State) (bytes : List ℕ) (answer : Result Taken Refusal) (new : State)
    → IsTransition G s bytes answer new → HasUniqueKeysAndValidLeaves G s → HasUniqueKeysAndValidLeaves G new
taken_checked G s bytes (Ok t) new h j =
    let a : IsAcceptable G s bytes = h.0 in
    let n : IsNext s bytes (record { taken = t; state = new }) = h.1 in
    after_checked G s (record { taken = t; state = new }) j (λ has. accepted_supports G s has bytes (record { taken = t; state = new }) a n)
    (stays_or_commits G s a.required a.requires a.message (record { taken = t; state = new }) (plain_kept G s a.required a.message a.rules_hold)
    (ap (next s) (one_message a.message n.message bytes a.encoded n.encoded) ∙ n.after))
taken_checked G s bytes (Err e) new h j = subst (HasUniqueKeysAndValidLeaves G) (sym h.0) j

pub valid_checked : (G : VerifyFn) (s : State) → IsValidState G s → (has_rule s.rules 51 ≡ true → supports_extensions s.context.extensions s.tree ≡ true)
    → HasUniqueKeysAndValidLeaves G s
valid_checked G s v supported = record {
  distinct = (distinct-by_keys s.tree).1 v.valid.distinct;
  members = of_one G s v.required v.requires v.members;
  supported = supported;
}

pub start_checked : (asked : Rules) (profile : Profile) (G : VerifyFn) (info : GroupInfo) (supplied : Option RatchetTree) (s : State)
    → IsStart asked profile G info supplied s → HasUniqueKeysAndValidLeaves G s
start_checked asked profile G info supplied s h =
    valid_checked G s (start_valid asked profile G info supplied s h)
    (subst (λ (t : State). has_rule t.rules 51 ≡ true → supports_extensions t.context.extensions t.tree ≡ true) (sym h.state)
    (strict_supports asked info.context h.tree.tree h.strict))

-- of a strict state
pub strict_checked : (G : VerifyFn) (s : State) → IsValidState G s → IsStrictState s → HasUniqueKeysAndValidLeaves G s
strict_checked G s v strict =
    valid_checked G s v (strict_supports s.rules s.context s.tree strict.group)

pub resumed_checked : (G : VerifyFn) (bytes : List ℕ) (s : State) → IsResumed G bytes s → HasUniqueKeysAndValidLeaves G s
resumed_checked G bytes s h =
    let r = resumed_resumable G bytes s h in strict_checked G s r.valid r.strict
