-- Theorems on stored states and on runs from a resumption.
use Rattle.std.proofs.Common.{◌≡◌, ℕ, List, [], ◌∷◌, Bool, true, false, Option, Some, None, Ok, refl, sym, ap, subst}
use Rattle.std.proofs.lemmas.Option.{none-some, same_Some}
use Rattle.mls_tree.specs.RatchetTree.{RatchetTree}
use Rattle.mls_check.specs.GroupTree.{HasMembers}
use Rattle.mls_check.specs.Signatures.{VerifyFn}
use Rattle.mls_msgs.specs.declared.profile.Profile.{Profile}
use Rattle.mls_msgs.specs.declared.profile.Profile.TheVariants as profiles
use Rattle.mls_state.specs.declared.state.FollowerState.{FollowerState}
use Rattle.mls_state.specs.declared.state.GroupMode.{GroupMode}
use Rattle.mls_state.specs.declared.state.GroupMode.TheVariants as modes
use Rattle.mls_follow.specs.State.{State}
use Rattle.mls_follow.specs.AddedRules.{IsDifference, IsUnion}
use Rattle.mls_follow.specs.StoredState.{Stores, stored_mode}
use Rattle.mls_follow.specs.Resumption.{HoldEntries, IsPlainStateOf, IsStateOf, IsResumed, base_state, is_over, profile_of_mode}
use Rattle.mls_follow.specs.StoredRuns.{IsResumable, bare_state, ResumableStatesResume, FollowersResume, ResumptionsAreValid, ResumedRunsAreValid, ResumedRunsAreAnswered}
use Rattle.mls_follow.proofs.Deciding.{an_answer}
use Rattle.mls_follow.specs.declared.taken.Taken.TheVariants as takens
use Rattle.mls_msgs.specs.Rules.{has_rule, plain_rules}
use Rattle.mls_msgs.specs.declared.rules.Rules.{Rules}
use Rattle.mls_msgs.specs.declared.authenticated.AuthenticatedParts.{AuthenticatedParts}
use Rattle.mls_msgs.proofs.RuleSets.{has_rule-plain}
use Rattle.mls_strict.proofs.Booleans.{and_true}
use Rattle.mls_follow.proofs.Holding.{IsSteady, run_steady, taken_steady}
use Rattle.mls_follow.proofs.ResumedOrNot.{base_steady}
use Rattle.mls_follow.proofs.Resumable.{followers_resumable, resumed_resumable}
use Rattle.mls_follow.proofs.Validity.{run_valid}

-- ---- a stored state is resumed

-- the mode of a file is that of the profile, and of a group that is over or goes on
mode_same : (m : GroupMode) (profile : Profile) (ended : Bool) → stored_mode profile ended ≡ Some m → (profile ≡ profile_of_mode m) × (ended ≡ is_over m)
mode_same m profiles.Members false h = let e = same_Some modes.Members m h in (ap profile_of_mode e, ap is_over e)
mode_same m profiles.Members true h = absurd (none-some m h)
mode_same m profiles.Full false h = let e = same_Some modes.Full m h in (ap profile_of_mode e, ap is_over e)
mode_same m profiles.Full true h = let e = same_Some modes.Ended m h in (ap profile_of_mode e, ap is_over e)

-- rules that are added to none are those
from_plain : (asked : Rules) → IsDifference asked plain_rules asked
from_plain asked n = rw (has_rule-plain n) (sym (and_true (has_rule asked n)))

with_plain : (asked : Rules) → IsUnion asked plain_rules asked
with_plain asked n = rw (has_rule-plain n) refl

module _ (G : VerifyFn) (s : State) (c : FollowerState) (t : RatchetTree) (h : IsResumable G s) (stores : Stores c t s) where
  -- the state without its pending proposals
  base_same : record (bare_state s) { known = [] } ≡ base_state c t
  base_same =
      let mode = mode_same c.mode s.profile s.ended stores.mode in
      λ i. record {
        profile = mode.0 i;
        rules = plain_rules;
        context = sym stores.context i;
        tree = sym stores.tree i;
        interim = sym stores.interim i;
        known = [];
        ended = mode.1 i;
        added = None;
      }

  members : HasMembers G c.context (λ u. u ≡ t) t h.valid.required
  members =
      rw (stores.context) (record {
        valid_tree = record {
          readable = record { has_tree = record { supported = h.supported; uses = refl }; requires = h.valid.requires };
          valid = rw (stores.tree) h.valid.valid;
        };
        members = rw (stores.tree) h.valid.members;
      })

  plain_stored : IsPlainStateOf G c t (record (bare_state s) { added = c.added })
  plain_stored = record {
    has_interim = record {
      required = h.valid.required;
      has_members = members;
      hashed = rw (stores.interim, stores.context) h.hashed;
    };
    with_pending = bare_state s;
    held =
        subst (λ (b : State). HoldEntries G b c.known (bare_state s)) base_same
        (subst (λ (es : List AuthenticatedParts). HoldEntries G (record (bare_state s) { known = [] }) es (bare_state s)) (sym stores.known) h.held);
    added_fit = rw (stores.context, stores.tree, stores.added) h.added_fit;
    state = refl;
  }

  pub stored_state : IsStateOf G c t s
  stored_state = record {
    without_rules = record (bare_state s) { added = c.added };
    is_plain = plain_stored;
    made_strict = record {
      added = c.rules;
      is_difference = from_plain c.rules;
      strict = rw (stores.rules) h.strict.group;
      known = rw (stores.rules) h.strict.known;
      all = c.rules;
      is_union = with_plain c.rules;
      state = λ i. record s { rules = sym stores.rules i; added = sym stores.added i };
    };
  }

pub resumable_resumes : ResumableStatesResume
resumable_resumes G s bytes h e = record {
  content = e.content;
  tree = e.tree;
  intact = e.intact;
  state = stored_state G s e.content e.tree h e.stores;
}

pub followers_resume : FollowersResume
followers_resume G first last calls bytes h run e = resumable_resumes G last bytes (followers_resumable G first last calls h run) e

-- ---- validity

pub resumption_valid : ResumptionsAreValid
resumption_valid G bytes s h = (resumed_resumable G bytes s h).valid

pub resumed_run_valid : ResumedRunsAreValid
resumed_run_valid G bytes first last calls h run = run_valid G first calls last (resumption_valid G bytes first h) run

-- ---- answers

entries_steady : (G : VerifyFn) (s : State) (es : List AuthenticatedParts) (new : State) → IsSteady s → HoldEntries G s es new → IsSteady new
entries_steady G s [] new steady h = subst IsSteady (sym h) steady
entries_steady G s (a ∷ es) new steady h =
    entries_steady G h.0 es new (taken_steady G s steady h.1.accepts.bytes (Ok (takens.Proposal h.1.accepts.reference)) h.0 h.1.accepts.accepted) h.2

-- whom the last commit added, and strict rules, change nothing of it
steady_again : (s : State) (asked : Rules) (added : Option (List (List ℕ))) → IsSteady s → IsSteady (record s { rules = asked; added = added })
steady_again s asked added steady = record {
  held = record { shape = steady.held.shape; tree = steady.held.tree; known = steady.held.known };
  required = steady.required;
  requires = steady.requires;
}

content_steady : (G : VerifyFn) (c : FollowerState) (t : RatchetTree) (s : State) → IsStateOf G c t s → IsSteady s
content_steady G c t s h =
    let plain = h.is_plain in
    let pending = entries_steady G (base_state c t) c.known plain.with_pending (base_steady G c t plain.has_interim) plain.held in
    let bare : IsSteady h.without_rules = subst IsSteady (sym plain.state) (steady_again plain.with_pending plain.with_pending.rules c.added pending) in
    subst IsSteady (sym h.made_strict.state) (steady_again h.without_rules h.made_strict.all h.without_rules.added bare)

-- a follower resumes in a state that it may hold
pub resumed_steady : (G : VerifyFn) (bytes : List ℕ) (s : State) → IsResumed G bytes s → IsSteady s
resumed_steady G bytes s h = content_steady G h.content h.tree s h.state

pub resumed_answered : ResumedRunsAreAnswered
resumed_answered G bytes more first last calls h run =
    let steady = run_steady G first calls last (resumed_steady G bytes first h) run in
    an_answer G last steady.required more steady.held steady.requires
