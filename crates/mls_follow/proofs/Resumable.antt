-- After any run from a start or a resumption, the state satisfies the conditions of a resumption.
use Rattle.std.proofs.Common.{◌≡◌, ◌∙◌, ℕ, List, [], ◌∷◌, ◌++◌, length, map, Option, Some, None, Result, Ok, Err, refl, sym, ap, subst, inl, inr}
use Rattle.std.proofs.lemmas.List.{map_push}
use Rattle.mls_tree.specs.RatchetTree.{RatchetTree}
use Rattle.mls_hash.specs.SuiteHash.{hash_length}
use Rattle.mls_check.specs.GroupTree.{IsSupportedContext}
use Rattle.mls_check.specs.Signatures.{VerifyFn}
use Rattle.mls_msgs.specs.declared.authenticated.AuthenticatedParts.{AuthenticatedParts}
use Rattle.mls_msgs.specs.declared.group_info.GroupInfo.{GroupInfo}
use Rattle.mls_msgs.specs.declared.profile.Profile.{Profile}
use Rattle.mls_msgs.specs.Rules.{plain_rules}
use Rattle.mls_msgs.specs.declared.rules.Rules.{Rules}
use Rattle.mls_state.specs.declared.state.FollowerState.{FollowerState}
use Rattle.mls_apply.specs.PendingContent.{authenticated_of}
use Rattle.mls_apply.specs.declared.refusal.Refusal.{Refusal}
use Rattle.mls_follow.specs.State.{State}
use Rattle.mls_follow.specs.NextState.{next}
use Rattle.mls_follow.specs.Acceptance.{IsAcceptable, IsNext}
use Rattle.mls_follow.specs.Resumption.{HasInterim, HoldEntries, IsPlainStateOf, IsResumed, IsStateOf, added_misfit, base_state}
use Rattle.mls_follow.specs.Runs.{IsTransition, Call, IsRun}
use Rattle.mls_follow.specs.Start.{IsStart}
use Rattle.mls_follow.specs.StoredRuns.{IsResumable, IsInitialState, FollowersAreResumable, bare_state}
use Rattle.mls_follow.specs.StoredState.{pending_contents}
use Rattle.mls_follow.specs.StrictnessKept.{IsStrictState}
use Rattle.mls_follow.specs.Validity.{IsValidState}
use Rattle.mls_follow.specs.declared.taken.Taken.{Taken}
use Rattle.mls_follow.specs.declared.taken.Taken.TheVariants as takens
use Rattle.mls_follow.proofs.AcceptedProposals.{IsAccepted, accepted_proposal}
use Rattle.mls_follow.proofs.AddedFit.{AreSuited, Renews, accepted_renews, length-interim, nothing_suited, suited_more}
use Rattle.mls_follow.proofs.Answering.{one_message}
use Rattle.mls_follow.proofs.Pending.{held_more}
use Rattle.mls_follow.proofs.StrictLists.{plain_kept}
use Rattle.mls_follow.proofs.StrictnessKept.{added_rules_keep_strictness, plain_strict, runs_keep_strictness, starts_strict}
use Rattle.mls_follow.proofs.Validity.{start_valid, step_valid}

-- ---- what a state has beside its validity

record Rests (G : VerifyFn) (s : State) : Type 0 where
  supported : IsSupportedContext s.context
  hashed : length s.interim ≡ hash_length s.context.cipher_suite
  held : HoldEntries G (record (bare_state s) { known = [] }) (pending_contents s) (bare_state s)
  suited : AreSuited s.context.cipher_suite s.known
  added_fit : added_misfit s.context.cipher_suite s.tree s.added ≡ None

-- ---- a message

module _ (G : VerifyFn) (s : State) (rests : Rests G s) (bytes : List ℕ) where
  -- one more is pending
  pending_rests : (r : List ℕ) (new : State) → IsTransition G s bytes (Ok (takens.Proposal r)) new → Rests G new
  pending_rests r new h =
      let one : IsAccepted G s bytes new = accepted_proposal G s bytes r new h in
      let again : Rests G (record s { known = s.known ++ one.pending ∷ [] }) = record {
        supported = rests.supported;
        hashed = rests.hashed;
        held =
            subst (λ (es : List AuthenticatedParts). HoldEntries G (record (bare_state s) { known = [] }) es (record (bare_state s) { known = s.known ++ one.pending ∷ [] }))
            (sym (map_push (authenticated_of s.context) s.known one.pending))
            (held_more G (record (bare_state s) { known = [] }) (pending_contents s) (bare_state s) (authenticated_of s.context one.pending)
            (record (bare_state s) { known = s.known ++ one.pending ∷ [] }) rests.held one.again);
        suited = suited_more G s.context s.tree s.known one.pending rests.suited one.kept;
        added_fit = rests.added_fit;
      } in
      subst (Rests G) (sym one.new_is) again

  -- a commit begins an epoch
  renewed_rests : (new : State) → Renews s new → Rests G new
  renewed_rests new r = record {
    supported = record { version = r.version ∙ rests.supported.version; suite = rw r.suite rests.supported.suite };
    hashed = r.hashed ∙ ap hash_length (sym r.suite);
    held = none_held new r.known;
    suited = nothing_suited new.context.cipher_suite new.known r.known;
    added_fit = ap (λ (suite : ℕ). added_misfit suite new.tree new.added) r.suite ∙ r.added_fit;
  }
    where
      none_held : (t : State) → t.known ≡ [] → HoldEntries G (record (bare_state t) { known = [] }) (pending_contents t) (bare_state t)
      none_held t e =
          subst (λ (es : List AuthenticatedParts). HoldEntries G (record (bare_state t) { known = [] }) es (bare_state t))
          (ap (map (authenticated_of t.context)) (sym e)) (λ i. record (bare_state t) { known = e i })

  accepted_rests : (taken : Taken) (new : State) → IsTransition G s bytes (Ok taken) new → Rests G new
  accepted_rests (takens.Proposal r) new h = pending_rests r new h
  accepted_rests (takens.Commit epoch) new h = renewed_rests new (accepted_renews G s rests.suited bytes epoch new h)

-- ---- runs

-- a state that satisfies the conditions, and whose pending Adds are of the suite
record IsKept (G : VerifyFn) (s : State) : Type 0 where
  valid : IsValidState G s
  rests : Rests G s

module _ (G : VerifyFn) (s : State) (h : IsKept G s) (bytes : List ℕ) where
  taken_kept : (answer : Result Taken Refusal) (new : State) → IsTransition G s bytes answer new → IsKept G new
  taken_kept (Ok taken) new t =
      let a : IsAcceptable G s bytes = t.0 in
      let n : IsNext s bytes (record { taken = taken; state = new }) = t.1 in
      let after : next s a.message ≡ Some (record { taken = taken; state = new }) =
      ap (next s) (one_message a.message n.message bytes a.encoded n.encoded) ∙ n.after in
      record {
        valid = step_valid G s a.required a.message (record { taken = taken; state = new }) h.valid a.requires (plain_kept G s a.required a.message a.rules_hold) after;
        rests = accepted_rests G s h.rests bytes taken new t;
      }
  taken_kept (Err e) new t = subst (IsKept G) (sym t.0) h

run_kept : (G : VerifyFn) (s : State) (calls : List Call) (new : State) → IsKept G s → IsRun G s calls new → IsKept G new
run_kept G s [] new h run = subst (IsKept G) (sym run) h
run_kept G s (call ∷ calls) new h run =
    run_kept G run.0 calls new (taken_kept G s h call.bytes call.answer run.0 run.1) run.2

-- ---- first states

start_kept : (asked : Rules) (profile : Profile) (G : VerifyFn) (info : GroupInfo) (supplied : Option RatchetTree) (s : State) → IsStart asked profile G info supplied s → IsKept G s
start_kept asked profile G info supplied s h = record {
  valid = start_valid asked profile G info supplied s h;
  rests =
      subst (Rests G) (sym h.state) (record {
        supported = h.has_signer.has_members.valid_tree.readable.has_tree.supported;
        hashed = length-interim info.context.cipher_suite info.context.confirmed (Some info.confirmation_tag) h.interim h.hashed;
        held = refl;
        suited = nothing_suited info.context.cipher_suite [] refl;
        added_fit = refl;
      });
}

-- the entries of a file
entries_kept : (G : VerifyFn) (s : State) (es : List AuthenticatedParts) (new : State) → IsKept G s → HoldEntries G s es new → IsKept G new
entries_kept G s [] new h e = subst (IsKept G) (sym e) h
entries_kept G s (a ∷ es) new h e =
    entries_kept G e.0 es new (taken_kept G s h e.1.accepts.bytes (Ok (takens.Proposal e.1.accepts.reference)) e.0 e.1.accepts.accepted) e.2

-- whom the last commit added, and strict rules, change nothing of the rest
added_again : (G : VerifyFn) (s : State) (asked : Rules) (added : Option (List (List ℕ))) → added_misfit s.context.cipher_suite s.tree added ≡ None
    → IsKept G s → IsKept G (record s { rules = asked; added = added })
added_again G s asked added fit h = record {
  valid = record { valid = h.valid.valid; required = h.valid.required; requires = h.valid.requires; members = h.valid.members };
  rests = record { supported = h.rests.supported; hashed = h.rests.hashed; held = h.rests.held; suited = h.rests.suited; added_fit = fit };
}

-- the state of a file without its pending proposals
base_kept : (G : VerifyFn) (c : FollowerState) (t : RatchetTree) → HasInterim G c t → IsKept G (base_state c t)
base_kept G c t h = record {
  valid = record {
    valid = h.has_members.valid_tree.valid;
    required = h.required;
    requires = h.has_members.valid_tree.readable.requires;
    members = h.has_members.members;
  };
  rests = record {
    supported = h.has_members.valid_tree.readable.has_tree.supported;
    hashed = h.hashed;
    held = refl;
    suited = nothing_suited c.context.cipher_suite [] refl;
    added_fit = refl;
  };
}

-- with its entries the context and the tree are those of the file
pub entries_same : (G : VerifyFn) (s : State) (es : List AuthenticatedParts) (new : State) → HoldEntries G s es new → (new.context ≡ s.context) × (new.tree ≡ s.tree) × (new.rules ≡ s.rules)
entries_same G s [] new h = (ap (λ (t : State). t.context) h, ap (λ (t : State). t.tree) h, ap (λ (t : State). t.rules) h)
entries_same G s (a ∷ es) new h =
    let one = accepted_proposal G s h.1.accepts.bytes h.1.accepts.reference h.0 h.1.accepts.accepted in
    let rest = entries_same G h.0 es new h.2 in (
      rest.0 ∙ ap (λ (t : State). t.context) one.new_is,
      rest.1 ∙ ap (λ (t : State). t.tree) one.new_is,
      rest.2 ∙ ap (λ (t : State). t.rules) one.new_is,
    )

module _ (G : VerifyFn) (c : FollowerState) (t : RatchetTree) where
  plain_kept_state : (s : State) → IsPlainStateOf G c t s → IsKept G s
  plain_kept_state s h =
      let same = entries_same G (base_state c t) c.known h.with_pending h.held in
      let pending = entries_kept G (base_state c t) c.known h.with_pending (base_kept G c t h.has_interim) h.held in
      let fit : added_misfit h.with_pending.context.cipher_suite h.with_pending.tree c.added ≡ None = rw (same.0, same.1) h.added_fit in
      subst (IsKept G) (sym h.state) (added_again G h.with_pending h.with_pending.rules c.added fit pending)

  plain_rules_of : (s : State) → IsPlainStateOf G c t s → s.rules ≡ plain_rules
  plain_rules_of s h = ap (λ (u : State). u.rules) h.state ∙ (entries_same G (base_state c t) c.known h.with_pending h.held).2

  content_kept : (s : State) → IsStateOf G c t s → IsKept G s
  content_kept s h =
      let bare = plain_kept_state h.without_rules h.is_plain in
      subst (IsKept G) (sym h.made_strict.state) (added_again G h.without_rules h.made_strict.all h.without_rules.added bare.rests.added_fit bare)

  content_strict : (s : State) → IsStateOf G c t s → IsStrictState s
  content_strict s h =
      added_rules_keep_strictness c.rules h.without_rules s (plain_strict h.without_rules (plain_rules_of h.without_rules h.is_plain)) h.made_strict

first_kept : (G : VerifyFn) (s : State) → IsInitialState G s → IsKept G s
first_kept G s (inl h) = start_kept h.0 h.1 G h.2 h.3 s h.4
first_kept G s (inr h) = content_kept G h.1.content h.1.tree s h.1.state

first_strict : (G : VerifyFn) (s : State) → IsInitialState G s → IsStrictState s
first_strict G s (inl h) = starts_strict h.0 h.1 G h.2 h.3 s h.4
first_strict G s (inr h) = content_strict G h.1.content h.1.tree s h.1.state

resumable : (G : VerifyFn) (s : State) → IsKept G s → IsStrictState s → IsResumable G s
resumable G s h strict = record {
  supported = h.rests.supported;
  valid = h.valid;
  hashed = h.rests.hashed;
  held = h.rests.held;
  added_fit = h.rests.added_fit;
  strict = strict;
}

pub resumed_resumable : (G : VerifyFn) (bytes : List ℕ) (s : State) → IsResumed G bytes s → IsResumable G s
resumed_resumable G bytes s h = resumable G s (first_kept G s (inr (bytes, h))) (first_strict G s (inr (bytes, h)))

-- what satisfies the conditions still does so after any run
resumable_kept : (G : VerifyFn) (s : State) → IsResumable G s → IsKept G s
resumable_kept G s h =
    let first : IsKept G (record (bare_state s) { known = [] }) = record {
      valid = record { valid = h.valid.valid; required = h.valid.required; requires = h.valid.requires; members = h.valid.members };
      rests = record { supported = h.supported; hashed = h.hashed; held = refl; suited = nothing_suited s.context.cipher_suite [] refl; added_fit = refl };
    } in
    let all = entries_kept G (record (bare_state s) { known = [] }) (pending_contents s) (bare_state s) first h.held in
    record {
      valid = h.valid;
      rests = record { supported = h.supported; hashed = h.hashed; held = h.held; suited = all.rests.suited; added_fit = h.added_fit };
    }

pub run_resumable : (G : VerifyFn) (first last : State) (calls : List Call) → IsResumable G first → IsRun G first calls last → IsResumable G last
run_resumable G first last calls h run =
    resumable G last (run_kept G first calls last (resumable_kept G first h) run) (runs_keep_strictness G first last calls h.strict run)

pub followers_resumable : FollowersAreResumable
followers_resumable G first last calls h run =
    resumable G last (run_kept G first calls last (first_kept G first h) run) (runs_keep_strictness G first last calls (first_strict G first h) run)
