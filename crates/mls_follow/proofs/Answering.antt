-- The answer to a message is one.
use Rattle.std.proofs.Common.{◌≡◌, ◌≢◌, ◌∙◌, ℕ, List, Result, Ok, Err, sym, ap, inl, inr}
use Rattle.std.proofs.lemmas.Option.{none-some, same_Some}
use Rattle.mls_nodes.proofs.RequiredOnce.{Requires-one}
use Rattle.mls_msgs.specs.MessageExact.{message_again}
use Rattle.mls_msgs.specs.declared.message.Message.{Message}
use Rattle.mls_msgs.specs.declared.profile.Profile.{Profile}
use Rattle.mls_check.specs.Signatures.{VerifyFn}
use Rattle.mls_apply.specs.RuleLists.{first_failing}
use Rattle.mls_apply.specs.declared.refusal.Refusal.{Refusal}
use Rattle.mls_apply.specs.declared.refusal.Refusal.TheVariants.{OutOfMemory}
use Rattle.mls_follow.specs.State.{State, EncodesMessage}
use Rattle.mls_follow.specs.StrictRules.{all_rules}
use Rattle.mls_follow.specs.NextState.{Transition, next}
use Rattle.mls_follow.specs.Acceptance.{IsAcceptable, IsNext, IsFirstRefusal}
use Rattle.mls_follow.specs.Runs.{IsAnswer}
use Rattle.mls_follow.specs.declared.taken.Taken.{Taken}

-- bytes spell one message
pub one_message : {profile : Profile} (m n : Message) (bytes : List ℕ) → EncodesMessage profile m bytes → EncodesMessage profile n bytes → m ≡ n
one_message m n bytes a b = same_Some m n (sym (message_again m bytes a.encoded) ∙ message_again n bytes b.encoded)

module _ (G : VerifyFn) (s : State) (bytes : List ℕ) where
  one_step : (x y : Transition) → IsNext s bytes x → IsNext s bytes y → x ≡ y
  one_step x y a b =
      same_Some x y (sym a.after ∙ ap (next s) (one_message a.message b.message bytes a.encoded b.encoded) ∙ b.after)

  -- what is acceptable fails no rule
  pub never_both : (e : Refusal) → IsAcceptable G s bytes → IsFirstRefusal G s bytes e → ⊥
  never_both e a (inl none) = none.1 a.message a.encoded
  never_both e a (inr f) =
      none-some e (sym a.rules_hold
      ∙ (λ i. first_failing (all_rules G s (Requires-one s.context a.required f.required a.requires f.requires i) (one_message a.message f.message bytes a.encoded f.encoded i)))
      ∙ f.fails)

  one_refusal : (e f : Refusal) → IsFirstRefusal G s bytes e → IsFirstRefusal G s bytes f → e ≡ f
  one_refusal e f (inl a) (inl b) = a.0 ∙ sym b.0
  one_refusal e f (inl a) (inr b) = absurd (a.1 b.message b.encoded)
  one_refusal e f (inr a) (inl b) = absurd (b.1 a.message a.encoded)
  one_refusal e f (inr a) (inr b) =
      same_Some e f (sym a.fails
      ∙ (λ i. first_failing (all_rules G s (Requires-one s.context a.required b.required a.requires b.requires i) (one_message a.message b.message bytes a.encoded b.encoded i)))
      ∙ b.fails)

  own : (e : Refusal) → (◌≡◌ {A = Result Taken Refusal} (Err e) (Err OutOfMemory) → ⊥) → e ≢ OutOfMemory
  own e memory same = memory (ap Err same)

  one_answer : (a b : Result Taken Refusal) (x y : State) → IsAnswer G s bytes a x → IsAnswer G s bytes b y → (a ≡ b) × (x ≡ y)
  one_answer (Ok t) (Ok u) x y p q =
      let e = one_step (record { taken = t; state = x }) (record { taken = u; state = y }) p.takes.1 q.takes.1 in
      (λ i. Ok (e i).taken, λ i. (e i).state)
  one_answer (Ok t) (Err f) x y p q = absurd (never_both f p.takes.0 (q.takes.1 (own f q.memory)))
  one_answer (Err e) (Ok u) x y p q = absurd (never_both e q.takes.0 (p.takes.1 (own e p.memory)))
  one_answer (Err e) (Err f) x y p q =
      (ap Err (one_refusal e f (p.takes.1 (own e p.memory)) (q.takes.1 (own f q.memory))), p.takes.0 ∙ sym q.takes.0)

pub only_answer : (G : VerifyFn) (s : State) (bytes : List ℕ) (a b : Result Taken Refusal) (x y : State) → IsAnswer G s bytes a x → IsAnswer G s bytes b y → (a ≡ b) × (x ≡ y)
only_answer G s bytes = one_answer G s bytes
