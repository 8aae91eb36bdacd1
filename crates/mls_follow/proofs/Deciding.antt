-- There is an answer to any bytes.
use Rattle.std.proofs.Common.{◌≡◌, ◌∙◌, ℕ, List, length, Bool, true, false, Option, Some, None, Result, Ok, Err, refl, sym, ap, inl, inr, arith}
use Rattle.std.specs.Prelude.{nat_le}
use Rattle.std.proofs.lemmas.Bool.{false≢true}
use Rattle.std.proofs.lemmas.Bool.Decides.{nat_tests}
use Rattle.std.proofs.lemmas.Option.{none-some, same_Some}
use Rattle.mls_nodes.specs.declared.required_capabilities.RequiredCapabilities.{RequiredCapabilities}
use Rattle.mls_check.specs.Signatures.{VerifyFn}
use Rattle.mls_msgs.specs.MessageExact.{message_takes, message_again}
use Rattle.mls_msgs.specs.MessageParsing.{message_at}
use Rattle.mls_msgs.specs.Profile.{is_members_message, is_in}
use Rattle.mls_msgs.specs.declared.message.Message.{Message}
use Rattle.mls_apply.specs.RuleLists.{first_failing}
use Rattle.mls_apply.proofs.RuleLists.{others_both}
use Rattle.mls_apply.specs.declared.refusal.Refusal.{Refusal}
use Rattle.mls_apply.specs.declared.refusal.Refusal.TheVariants.{Malformed, OutOfMemory}
use Rattle.mls_wire.specs.Limits.{input_limit}
use Rattle.mls_nodes.specs.Requirements.{Requires}
use Rattle.mls_follow.specs.State.{State, EncodesMessage}
use Rattle.mls_follow.specs.MessageRules.{message_rules}
use Rattle.mls_follow.specs.StrictRules.{all_rules, strict_rules}
use Rattle.mls_follow.specs.Acceptance.{EncodesNoMessage}
use Rattle.mls_follow.specs.Runs.{HasAnswer, IsWellFormed, AnswerExists}
use Rattle.mls_follow.specs.declared.taken.Taken.{Taken}
use Rattle.mls_follow.proofs.OwnRules.{of_message}
use Rattle.mls_follow.proofs.StrictLists.{own_strict, plain_kept}
use Rattle.mls_follow.proofs.Advancing.{next_there}

module _ (G : VerifyFn) (s : State) (required : RequiredCapabilities) (bytes : List ℕ) (held : IsWellFormed s) (requires : Requires s.context required) where
  abbrev Answered : Type 0
  Answered = HasAnswer G s bytes

  same_error : (e f : Refusal) → ◌≡◌ {A = Result Taken Refusal} (Err e) (Err f) → e ≡ f
  same_error e f h = cc

  -- the bytes spell no message
  malformed : EncodesNoMessage s.profile bytes → Answered
  malformed none = (
    Err Malformed,
    s,
    record {
      takes = (refl, λ own. inl (refl, none));
      memory = λ e. (let bad = same_error Malformed OutOfMemory e in absurd cc);
    },
  )

  -- they spell this one
  checked : (m : Message) → EncodesMessage s.profile m bytes → (o : Option Refusal) → first_failing (all_rules G s required m) ≡ o → Answered
  checked m encoded None kept =
      let step = next_there s held G required requires m (bytes, encoded) (plain_kept G s required m kept) in (
        Ok step.step.taken,
        step.step.state,
        record {
          takes = (record { message = m; encoded = encoded; required = required; requires = requires; rules_hold = kept }, record { message = m; encoded = encoded; after = step.is });
          memory = λ e. absurd cc;
        },
      )
  checked m encoded (Some e) fails = (
    Err e,
    s,
    record {
      takes = (refl, λ own. inr (record { message = m; encoded = encoded; required = required; requires = requires; fails = fails }));
      memory = λ h. (others_both (message_rules G s required m) (strict_rules s m) (of_message G s required m) (own_strict s m)).never (fails ∙ ap Some (same_error e OutOfMemory h));
    },
  )

  of_profile : (m : Message) → message_at bytes ≡ Some m → nat_le (length bytes) input_limit ≡ true → (b : Bool) → is_in s.profile (is_members_message m) ≡ b → Answered
  of_profile m e f true members =
      checked m (record { encoded = message_takes bytes m e; allowed = members; bounded = grind (arith, nat_tests) }) (first_failing (all_rules G s required m)) refl
  of_profile m e f false foreign =
      malformed (λ n h. false≢true (sym foreign ∙ ap (λ (k : Message). is_in s.profile (is_members_message k)) (same_Some m n (sym e ∙ message_again n bytes h.encoded)) ∙ h.allowed))

  read : (o : Option Message) → message_at bytes ≡ o → (b : Bool) → nat_le (length bytes) input_limit ≡ b → Answered
  read None e b f = malformed (λ m h. none-some m (sym e ∙ message_again m bytes h.encoded))
  read (Some m) e false f =
      malformed (λ n h. let le = h.bounded in let t : nat_le (length bytes) input_limit ≡ true = grind (arith, nat_tests) in false≢true (sym f ∙ t))
  read (Some m) e true f = of_profile m e f (is_in s.profile (is_members_message m)) refl

pub an_answer : AnswerExists
an_answer G s required bytes held requires = read G s required bytes held requires (message_at bytes) refl (nat_le (length bytes) input_limit) refl
