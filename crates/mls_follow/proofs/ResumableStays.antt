-- Where the checker accepts more signatures, a state that satisfies the conditions of a resumption satisfies them, and a follower
-- resumes from what it resumed from.
use Rattle.std.proofs.Common.{◌≡◌, ℕ, List, [], ◌∷◌, inl, inr}
use Rattle.mls_nodes.specs.declared.context.GroupContext.{GroupContext}
use Rattle.mls_nodes.specs.declared.required_capabilities.RequiredCapabilities.{RequiredCapabilities}
use Rattle.mls_tree.specs.RatchetTree.{RatchetTree}
use Rattle.mls_check.specs.GroupTree.{HasMembers}
use Rattle.mls_check.specs.Signatures.{VerifyFn, Extends}
use Rattle.mls_msgs.specs.declared.authenticated.AuthenticatedParts.{AuthenticatedParts}
use Rattle.mls_follow.specs.Resumption.{HoldEntries, Holds, IsResumed, base_state}
use Rattle.mls_follow.specs.RisingRuns.{RisingFollowersKnowSigned, last_meaning}
use Rattle.mls_follow.specs.State.{State}
use Rattle.mls_follow.specs.StoredRuns.{IsInitialState, ResumableStays, bare_state}
use Rattle.mls_follow.specs.StoredState.{pending_contents}
use Rattle.mls_follow.proofs.AcceptancesStay.{acceptance_stays, start_stays}
use Rattle.mls_follow.proofs.KnownSigned.{followers_signed}
use Rattle.mls_follow.proofs.SignatureAgreement.{members_stay}
use Rattle.mls_follow.proofs.RisingRuns.{as_run, rising_extends, valid_stays}

module _ (G K : VerifyFn) (more : Extends G K) where
  hold_stays : (s : State) (a : AuthenticatedParts) (new : State) → Holds G s a new → Holds K s a new
  hold_stays s a new h = record {
    format = h.format;
    accepts = record {
      bytes = h.accepts.bytes;
      encoded = h.accepts.encoded;
      reference = h.accepts.reference;
      accepted = (acceptance_stays G K s h.accepts.bytes more h.accepts.accepted.0, h.accepts.accepted.1);
    };
  }

  pub holds_stay : (s : State) (es : List AuthenticatedParts) (new : State) → HoldEntries G s es new → HoldEntries K s es new
  holds_stay s [] new h = h
  holds_stay s (a ∷ es) new h = (h.0, hold_stays s a h.0 h.1, holds_stay h.0 es new h.2)

members_again : (G K : VerifyFn) → Extends G K → (context : GroupContext) (t : RatchetTree) (required : RequiredCapabilities) → HasMembers G context (λ u. u ≡ t) t required
    → HasMembers K context (λ u. u ≡ t) t required
members_again G K more context t required m =
    record { valid_tree = m.valid_tree; members = members_stay G K context.cipher_suite context.group_id required t.tree more m.members }

pub resumed_stays : (G K : VerifyFn) (bytes : List ℕ) (s : State) → Extends G K → IsResumed G bytes s → IsResumed K bytes s
resumed_stays G K bytes s more h =
    let plain = h.state.is_plain in
    record {
      content = h.content;
      tree = h.tree;
      intact = h.intact;
      state = record {
        without_rules = h.state.without_rules;
        is_plain = record {
          has_interim = record {
            required = plain.has_interim.required;
            has_members = members_again G K more h.content.context h.tree plain.has_interim.required plain.has_interim.has_members;
            hashed = plain.has_interim.hashed;
          };
          with_pending = plain.with_pending;
          held = holds_stay G K more (base_state h.content h.tree) h.content.known plain.with_pending plain.held;
          added_fit = plain.added_fit;
          state = plain.state;
        };
        made_strict = h.state.made_strict;
      };
    }

pub initial_stays : (G K : VerifyFn) (s : State) → Extends G K → IsInitialState G s → IsInitialState K s
initial_stays G K s more (inl h) = inl (h.0, h.1, h.2, h.3, start_stays h.0 h.1 G K h.2 h.3 s more h.4)
initial_stays G K s more (inr h) = inr (h.0, resumed_stays G K h.0 s more h.1)

pub rising_signed : RisingFollowersKnowSigned
rising_signed G first last events h run =
    let r = as_run G first events last run in
    followers_signed (last_meaning G events) first last r.calls (initial_stays G (last_meaning G events) first (rising_extends G first events last run) h) r.run

pub resumable_stays : ResumableStays
resumable_stays G K s more h = record {
  supported = h.supported;
  valid = valid_stays G K s more h.valid;
  hashed = h.hashed;
  held = holds_stay G K more (record (bare_state s) { known = [] }) (pending_contents s) (bare_state s) h.held;
  added_fit = h.added_fit;
  strict = h.strict;
}
