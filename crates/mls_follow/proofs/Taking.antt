-- What is found of a message says how it is taken.
use Rattle.std.proofs.Common.{◌≡◌, ◌≢◌, ◌∙◌, ℕ, List, Option, Some, Result, Ok, Err, refl, sym, ap, subst, inr}
use Rattle.std.specs.Prelude.{OnOk, IfOk, IfErr, OnErr}
use Rattle.mls_nodes.specs.declared.required_capabilities.RequiredCapabilities.{RequiredCapabilities}
use Rattle.mls_check.specs.Signatures.{VerifyFn}
use Rattle.mls_msgs.specs.declared.authenticated.AuthenticatedParts.{AuthenticatedParts}
use Rattle.mls_msgs.specs.declared.message.Message.{Message}
use Rattle.mls_msgs.specs.declared.message.Message.TheVariants as messages
use Rattle.mls_msgs.specs.declared.public_message.PublicParts.{PublicParts}
use Rattle.mls_apply.specs.RuleLists.{first_failing}
use Rattle.mls_apply.specs.declared.refusal.Refusal.{Refusal}
use Rattle.mls_apply.specs.declared.refusal.Refusal.TheVariants.{NotPublic, OutOfMemory}
use Rattle.mls_nodes.specs.Requirements.{Requires}
use Rattle.mls_follow.specs.State.{State, EncodesMessage}
use Rattle.mls_follow.specs.MessageRules.{frame_rules}
use Rattle.mls_follow.specs.MessageRulesInternal.{frame_refusal}
use Rattle.mls_follow.specs.NextState.{after_sender}
use Rattle.mls_follow.specs.Acceptance.{IsNext}
use Rattle.mls_follow.specs.AcceptanceInternal.{Takes, judged}
use Rattle.mls_follow.specs.Lifetimes.{all_rules_at}
use Rattle.mls_follow.specs.StrictRulesInternal.{late_refusal, late_rule}
use Rattle.mls_follow.specs.TimedAcceptance.{IsAcceptableAt, IsFirstRefusalAt, IsTransitionAt}
use Rattle.mls_follow.specs.declared.taken.Taken.{Taken}
use Rattle.mls_follow.proofs.StrictLists.{all_word}

-- the shut word
frame_word : (G : VerifyFn) (s : State) (required : RequiredCapabilities) (a : AuthenticatedParts) → frame_refusal G s required a ≡ first_failing (frame_rules G s required a)
unfolding frame_refusal
frame_word G s required a = refl

module _ (now : Option ℕ) (G : VerifyFn) (s : State) (required : RequiredCapabilities) (requires : Requires s.context required) where
  -- a frame is judged
  module _ (p : PublicParts) (a : AuthenticatedParts) (same : a ≡ p.auth) where
    word : first_failing (frame_rules G s required p.auth) ≡ frame_refusal G s required a
    word = ap (λ (x : AuthenticatedParts). first_failing (frame_rules G s required x)) (sym same) ∙ sym (frame_word G s required a)

    after : after_sender s p.auth p.auth.content.sender ≡ after_sender s a a.content.sender
    after = ap (λ (x : AuthenticatedParts). after_sender s x x.content.sender) (sym same)

    all : first_failing (all_rules_at now G s required (messages.Public p))
        ≡ judged (late_refusal s.rules (late_rule now s p)) (frame_refusal G s required a) (after_sender s a a.content.sender)
    all = sym (all_word s p now G required) ∙ (λ i. judged (late_refusal s.rules (late_rule now s p)) (word i) (after i))

    pub frame_taken : (unmet : Option Refusal) → unmet ≡ late_rule now s p → (r : Result Taken Refusal) (new : State)
        → Takes (late_refusal s.rules unmet) (frame_refusal G s required a) (after_sender s a a.content.sender) s r new
        → (bytes : List ℕ) → EncodesMessage s.profile (messages.Public p) bytes → IsTransitionAt now G s bytes r new
    frame_taken unmet is r new h bytes encoded =
        taken_of r (subst (λ (u : Option Refusal). Takes (late_refusal s.rules u) (frame_refusal G s required a) (after_sender s a a.content.sender) s r new) is h)
      where
        taken_of : (r : Result Taken Refusal) → Takes (late_refusal s.rules (late_rule now s p)) (frame_refusal G s required a) (after_sender s a a.content.sender) s r new
            → IsTransitionAt now G s bytes r new
        taken_of (Ok taken) h = (
          record { message = messages.Public p; encoded = encoded; required = required; requires = requires; rules_hold = all ∙ h.0 },
          record { message = messages.Public p; encoded = encoded; after = after ∙ h.1 },
        )
        taken_of (Err e) h =
            (h.3, λ own. inr (record { message = messages.Public p; encoded = encoded; required = required; requires = requires; fails = all ∙ h.2 own }))

  -- a message that is not in the open
  not_public : (m : Message) → ((p : PublicParts) → m ≢ messages.Public p) → first_failing (all_rules_at now G s required m) ≡ Some NotPublic
  not_public (messages.Public p) other = absurd (other p refl)
  not_public (messages.Unread wire_format body) other = refl
  not_public (messages.GroupInfo g) other = refl
  not_public (messages.KeyPackage k) other = refl

  pub other_refused : (m : Message) → ((p : PublicParts) → m ≢ messages.Public p) → (bytes : List ℕ) → EncodesMessage s.profile m bytes → IsTransitionAt now G s bytes (Err NotPublic) s
  other_refused m other bytes encoded =
      (refl, λ own. inr (record { message = m; encoded = encoded; required = required; requires = requires; fails = not_public m other }))

module _ (now : Option ℕ) (G : VerifyFn) (s : State) (bytes : List ℕ) where
  -- the clauses, one by one
  pub is_accepted : (r : Result Taken Refusal) (new : State) → IsTransitionAt now G s bytes r new → OnOk r (IsAcceptableAt now G s bytes)
  is_accepted (Ok taken) new h = h.0
  is_accepted (Err e) new h = tt

  pub is_next : (r : Result Taken Refusal) (new : State) → IsTransitionAt now G s bytes r new → IfOk r (λ taken. IsNext s bytes (record { taken = taken; state = new }))
  is_next (Ok taken) new h = h.1
  is_next (Err e) new h = tt

  pub is_refused : (r : Result Taken Refusal) (new : State) → IsTransitionAt now G s bytes r new → IfErr r (λ e. e ≢ OutOfMemory → IsFirstRefusalAt now G s bytes e)
  is_refused (Ok taken) new h = tt
  is_refused (Err e) new h = h.1

  pub stays_same : (r : Result Taken Refusal) (new : State) → IsTransitionAt now G s bytes r new → OnErr r (new ≡ s)
  stays_same (Ok taken) new h = tt
  stays_same (Err e) new h = h.0
