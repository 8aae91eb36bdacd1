-- What a follower answers at a time that is passed, beside what it answers without.
use Rattle.std.proofs.Common.{◌≡◌, ◌≢◌, ◌∙◌, ℕ, List, Option, None, Result, Ok, Err, sym, ap, subst, inl, inr}
use Rattle.std.specs.Prelude.{OnOk, IfErr}
use Rattle.std.proofs.lemmas.List.{append-nil}
use Rattle.mls_nodes.specs.declared.required_capabilities.RequiredCapabilities.{RequiredCapabilities}
use Rattle.mls_check.specs.Signatures.{VerifyFn}
use Rattle.mls_msgs.specs.declared.message.Message.{Message}
use Rattle.mls_apply.proofs.RuleLists.{passed_both}
use Rattle.mls_apply.specs.RuleLists.{first_failing}
use Rattle.mls_apply.specs.declared.refusal.Refusal.{Refusal}
use Rattle.mls_apply.specs.declared.refusal.Refusal.TheVariants.{OutOfMemory}
use Rattle.mls_follow.specs.Acceptance.{IsAcceptable, IsFirstRefusal}
use Rattle.mls_follow.specs.FollowerInvariant.{HasUniqueKeysAndValidLeaves}
use Rattle.mls_follow.specs.Lifetimes.{all_rules_at, lifetime_rules}
use Rattle.mls_follow.specs.State.{State}
use Rattle.mls_follow.specs.StrictRules.{all_rules}
use Rattle.mls_follow.specs.TimedAcceptance.{IsAcceptableAt, IsFirstRefusalAt, IsTransitionAt, TimedIsAccepted, WithoutTime}
use Rattle.mls_follow.specs.declared.taken.Taken.{Taken}
use Rattle.mls_follow.proofs.InvariantLemmas.{taken_checked}

pub timed_accepted : TimedIsAccepted
timed_accepted now G s bytes h = record {
  message = h.message;
  encoded = h.encoded;
  required = h.required;
  requires = h.requires;
  rules_hold = (passed_both (all_rules G s h.required h.message) (lifetime_rules now h.message) (record { none = h.rules_hold })).0.none;
}

-- without a time there is no rule 53
all_without : (G : VerifyFn) (s : State) (required : RequiredCapabilities) (m : Message) → first_failing (all_rules_at None G s required m) ≡ first_failing (all_rules G s required m)
all_without G s required m = ap first_failing (append-nil (all_rules G s required m))

module _ (G : VerifyFn) (s : State) (bytes : List ℕ) where
  refusal_without : (e : Refusal) → IsFirstRefusalAt None G s bytes e → IsFirstRefusal G s bytes e
  refusal_without e (inl h) = inl h
  refusal_without e (inr h) = inr (record {
    message = h.message;
    encoded = h.encoded;
    required = h.required;
    requires = h.requires;
    fails = sym (all_without G s h.required h.message) ∙ h.fails;
  })

  pub accepted_without : (r : Result Taken Refusal) → OnOk r (IsAcceptableAt None G s bytes) → OnOk r (IsAcceptable G s bytes)
  accepted_without (Ok taken) h = timed_accepted None G s bytes h
  accepted_without (Err e) h = h

  pub refused_without : (r : Result Taken Refusal) → IfErr r (λ e. e ≢ OutOfMemory → IsFirstRefusalAt None G s bytes e)
      → IfErr r (λ e. e ≢ OutOfMemory → IsFirstRefusal G s bytes e)
  refused_without (Ok taken) h = h
  refused_without (Err e) h = λ own. refusal_without e (h own)

pub without_time : WithoutTime
without_time G s bytes (Ok taken) new h = (timed_accepted None G s bytes h.0, h.1)
without_time G s bytes (Err e) new h = (h.0, λ own. refusal_without G s bytes e (h.1 own))

-- what is answered at a time leads from a judged state to a judged one
pub timed_checked : (now : Option ℕ) (G : VerifyFn) (s : State) (bytes : List ℕ) (answer : Result Taken Refusal) (new : State)
    → IsTransitionAt now G s bytes answer new → HasUniqueKeysAndValidLeaves G s → HasUniqueKeysAndValidLeaves G new
timed_checked now G s bytes (Ok taken) new h j = taken_checked G s bytes (Ok taken) new (timed_accepted now G s bytes h.0, h.1) j
timed_checked now G s bytes (Err e) new h j = subst (HasUniqueKeysAndValidLeaves G) (sym h.0) j
