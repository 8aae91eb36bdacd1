-- Where each signature of a message is good, its answer at a time is that of a checker that accepts every signature.
use Rattle.std.proofs.Common.{◌≡◌, ◌∙◌, ℕ, List, ◌++◌, Option, Some, None, Result, Ok, Err, refl, sym, inl, inr}
use Rattle.mls_nodes.specs.declared.required_capabilities.RequiredCapabilities.{RequiredCapabilities}
use Rattle.mls_check.specs.Signatures.{VerifyFn}
use Rattle.mls_msgs.specs.declared.message.Message.{Message}
use Rattle.mls_apply.specs.RuleLists.{Rule, first_failing}
use Rattle.mls_apply.specs.declared.refusal.Refusal.{Refusal}
use Rattle.mls_apply.proofs.RuleLists.{first_failing-left, first_failing-right}
use Rattle.mls_follow.specs.CoveredLogs.{all_good}
use Rattle.mls_follow.specs.Lifetimes.{all_rules_at, lifetime_rules}
use Rattle.mls_follow.specs.State.{State, EncodesMessage}
use Rattle.mls_follow.specs.StrictRules.{all_rules}
use Rattle.mls_follow.specs.TimedAcceptance.{IsFirstRefusalAt, IsTransitionAt}
use Rattle.mls_follow.specs.TimedAnswers.{CoveredAnswersAtTimes, IsAnswerAt}
use Rattle.mls_follow.specs.declared.taken.Taken.{Taken}
use Rattle.mls_follow.proofs.CoveredLogs.{refusals_alike}

-- lists with one first refusal have one with the same rules behind
same_behind : (rs qs more : List (Rule Refusal)) → first_failing rs ≡ first_failing qs → first_failing (rs ++ more) ≡ first_failing (qs ++ more)
same_behind rs qs more e = by_first (first_failing rs) refl
  where
    by_first : (o : Option Refusal) → first_failing rs ≡ o → first_failing (rs ++ more) ≡ first_failing (qs ++ more)
    by_first None f = first_failing-right rs more f ∙ sym (first_failing-right qs more (sym e ∙ f))
    by_first (Some r) f = first_failing-left rs more r f ∙ sym (first_failing-left qs more r (sym e ∙ f))

module _ (now : Option ℕ) (G K : VerifyFn) (s : State) (bytes : List ℕ)
    (same : (required : RequiredCapabilities) (m : Message) → EncodesMessage s.profile m bytes → first_failing (all_rules G s required m) ≡ first_failing (all_rules K s required m)) where
  same_at : (required : RequiredCapabilities) (m : Message) → EncodesMessage s.profile m bytes
      → first_failing (all_rules_at now G s required m) ≡ first_failing (all_rules_at now K s required m)
  same_at required m encoded = same_behind (all_rules G s required m) (all_rules K s required m) (lifetime_rules now m) (same required m encoded)

  refused_alike : (e : Refusal) → IsFirstRefusalAt now G s bytes e → IsFirstRefusalAt now K s bytes e
  refused_alike e (inl none) = inl none
  refused_alike e (inr f) =
      inr (record {
        message = f.message;
        encoded = f.encoded;
        required = f.required;
        requires = f.requires;
        fails = sym (same_at f.required f.message f.encoded) ∙ f.fails;
      })

  takes_alike : (answer : Result Taken Refusal) (new : State) → IsTransitionAt now G s bytes answer new → IsTransitionAt now K s bytes answer new
  takes_alike (Ok taken) new h = (
    record {
      message = h.0.message;
      encoded = h.0.encoded;
      required = h.0.required;
      requires = h.0.requires;
      rules_hold = sym (same_at h.0.required h.0.message h.0.encoded) ∙ h.0.rules_hold;
    },
    h.1,
  )
  takes_alike (Err e) new h = (h.0, λ own. refused_alike e (h.1 own))

  answers_alike : (answer : Result Taken Refusal) (new : State) → IsAnswerAt now G s bytes answer new → IsAnswerAt now K s bytes answer new
  answers_alike answer new h = record { takes = takes_alike answer new h.takes; memory = h.memory }

pub covered_answers_at_times : CoveredAnswersAtTimes
covered_answers_at_times now R s bytes answer new v covers = (
  answers_alike now R all_good s bytes (refusals_alike R s bytes v covers) answer new,
  answers_alike now all_good R s bytes (λ required m encoded. sym (refusals_alike R s bytes v covers required m encoded)) answer new,
)
