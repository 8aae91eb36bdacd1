-- What requests are answered.
use Rattle.std.proofs.Common.{◌≡◌, ℕ, ◌-◌, List, [], ◌++◌, length, take, drop, Bool, false, Option, Some, None, Result, Ok, Err, refl, sym, subst}
use Rattle.std.specs.Prelude.{IfOk, IfErr}
use Rattle.std.proofs.Math.Seq.{take-length}
use Rattle.std.proofs.lemmas.List.{length-drop}
use Rattle.std.specs.Io.KnownBytes.{Appends}
use Rattle.mls_wire.specs.Devices.{AppendsPrefix}
use Rattle.mls_wire.proofs.KnownBytes.{Appends-trans}
use Rattle.mls_check.specs.Signatures.{VerifyFn}
use Rattle.mls_follow.specs.State.{State}
use Rattle.mls_start.specs.Inputs.{Inputs, inputs_of}
use Rattle.mls_start.specs.ReceiptBytes.{having_learnt}
use Rattle.mls_report.proofs.Replaying.{Appends-nil}
use Rattle.mls_report.proofs.StartLines.{prefix-behind}
use Rattle.mls_wire.specs.declared.fault.RunFault.{RunFault}
use Rattle.mls_wire.specs.declared.fault.RunFault.TheVariants.{Write}
use Rattle.mls_gate.specs.Answers.{Outcome, Ends, Responds, broken_line}
use Rattle.mls_gate.specs.GateSteps.{phase_of, Replies, RespondsIn, AnswersIn, Gives, GivesBehind, Answered, StopsAnswering, text_of, is_last}
use Rattle.mls_gate.specs.Phases.{Phase, Opening, Following}
use Rattle.mls_gate.specs.Requests.{request_of}
use Rattle.mls_gate.specs.declared.phase.Answer.{Answer}
use Rattle.mls_gate.specs.declared.phase.Answer.TheVariants as said
use Rattle.mls_gate.specs.declared.phase.GatePhase.{GatePhase}
use Rattle.mls_gate.specs.declared.phase.GatePhase.TheVariants as phases
use Rattle.mls_gate.specs.declared.request.Request.{Request}
use Rattle.mls_gate.specs.declared.request.Request.TheVariants.{Learn, Begin, Time}

-- ---- in a phase that is known

pub replies-at : (o p : Option Phase) → o ≡ p → (request : Option Request) (rest : List ℕ) (after : Option Phase) (text : List ℕ) (last : Bool)
    → Replies (RespondsIn p request rest) text last after → Replies (RespondsIn o request rest) text last after
replies-at o p at request rest after text last r = subst (λ (q : Option Phase). Replies (RespondsIn q request rest) text last after) (sym at) r

-- a phase in which no follower has started
module _ {C : Type 0} {g : _} (meaning : C → VerifyFn) (phase : GatePhase C g) (none : (follower : _) (time : _) → phase ≡ phases.Following follower time → ⊥) where
  pub unstarted : (request : Option Request) (rest : List ℕ) → ((i : Inputs) (time : Option ℕ) (G : VerifyFn) → Responds (Opening i time G) request rest (Ends broken_line))
      → RespondsIn (phase_of meaning phase) request rest (Ends broken_line)
  unstarted request rest opening = broken-of phase none
    where
      broken-of : (p : GatePhase C g) → ((follower : _) (time : _) → p ≡ phases.Following follower time → ⊥) → RespondsIn (phase_of meaning p) request rest (Ends broken_line)
      broken-of (phases.Opening start judge) own = opening (inputs_of start) judge.time (meaning judge.checker)
      broken-of (phases.Following follower time) own = absurd (own follower time refl)
      broken-of phases.Over own = refl

-- a phase in which one has, or that has ended
pub unopened : {C : Type 0} {g : _} (meaning : C → VerifyFn) (phase : GatePhase C g) → ((start : _) (judge : _) → phase ≡ phases.Opening start judge → ⊥) → (rest : List ℕ)
    → RespondsIn (phase_of meaning phase) (Some Begin) rest (Ends broken_line)
unopened meaning (phases.Opening start judge) own rest = absurd (own start judge refl)
unopened meaning (phases.Following follower time) own rest = refl
unopened meaning phases.Over own rest = refl

-- receipts are learnt before the follower has started
pub learnt-opening : (o : Option Phase) (i : Inputs) (time : Option ℕ) (G K : VerifyFn) (receipts : List ℕ) → o ≡ Some (Opening i time G) → K ≡ having_learnt G receipts
    → Gives (RespondsIn o (Some Learn) receipts) (Some (Opening i time K)) said.Silent
learnt-opening o i time G K receipts at learnt =
    replies-at o (Some (Opening i time G)) at (Some Learn) receipts (Some (Opening i time K)) [] false
    (Opening i time (having_learnt G receipts), refl, λ k. Some (Opening i time (learnt k)))

-- and after it
pub learnt-following : (o : Option Phase) (time : Option ℕ) (G K : VerifyFn) (s new : State) (receipts : List ℕ) → o ≡ Some (Following time G s) → K ≡ having_learnt G receipts → new ≡ s
    → Gives (RespondsIn o (Some Learn) receipts) (Some (Following time K new)) said.Silent
learnt-following o time G K s new receipts at learnt stays =
    replies-at o (Some (Following time G s)) at (Some Learn) receipts (Some (Following time K new)) [] false
    (Following time (having_learnt G receipts) s, refl, λ k. Some (Following time (learnt k) (stays k)))

-- a time is set before it
pub timed-opening : (o : Option Phase) (i : Inputs) (time : Option ℕ) (seconds : ℕ) (G : VerifyFn) (rest : List ℕ) → o ≡ Some (Opening i time G)
    → Gives (RespondsIn o (Some (Time seconds)) rest) (Some (Opening i (Some seconds) G)) said.Silent
timed-opening o i time seconds G rest at =
    replies-at o (Some (Opening i time G)) at (Some (Time seconds)) rest (Some (Opening i (Some seconds) G)) [] false (Opening i (Some seconds) G, refl, refl)

-- and after it
pub timed-following : (o : Option Phase) (time : Option ℕ) (seconds : ℕ) (G : VerifyFn) (s : State) (rest : List ℕ) → o ≡ Some (Following time G s)
    → Gives (RespondsIn o (Some (Time seconds)) rest) (Some (Following (Some seconds) G s)) said.Silent
timed-following o time seconds G s rest at =
    replies-at o (Some (Following time G s)) at (Some (Time seconds)) rest (Some (Following (Some seconds) G s)) [] false (Following (Some seconds) G s, refl, refl)

-- the request of no record
none-broken : (o : Option Phase) (rest : List ℕ) → RespondsIn o None rest (Ends broken_line)
none-broken None rest = refl
none-broken (Some (Opening i time G)) rest = refl
none-broken (Some (Following time G s)) rest = refl

pub broken-body : (o : Option Phase) (body : List ℕ) → request_of body ≡ None → AnswersIn o body (Ends broken_line)
broken-body o body e =
    subst (λ (q : Option Request). RespondsIn o q (drop 1 body) (Ends broken_line)) (sym e) (none-broken o (drop 1 body))

-- ---- an answer, and what is written of it

-- what is behind the letter of a record is the rest of its bytes
pub behind-letter : (body : List ℕ) → take (length body - 1) (drop 1 body) ≡ drop 1 body
behind-letter body = subst (λ (n : ℕ). take n (drop 1 body) ≡ drop 1 body) (length-drop 1 body) (take-length (drop 1 body))

module _ (o : Option Phase) (body rest : List ℕ) (same : rest ≡ drop 1 body) (request : Option Request) (is : request_of body ≡ request) (after : Option Phase) where
  -- nothing is written yet
  pub all-behind : (r : Result Answer RunFault) (w : Option (List ℕ)) → IfOk r (Gives (RespondsIn o request rest) after) → IfOk r (GivesBehind (AnswersIn o body) after w w)
  all-behind (Ok a) w gives = record {
    lines = [];
    wrote = Appends-nil w;
    replies = subst (λ (q : Option Request). Gives (RespondsIn o q (drop 1 body)) after a) (sym is) (subst (λ (l : List ℕ). Gives (RespondsIn o request l) after a) same gives);
  }
  all-behind (Err e) w gives = tt

  pub stops-answering : (r : Result Answer RunFault) (w0 w1 : Option (List ℕ)) → IfErr r (StopsAnswering (RespondsIn o request rest) after w0 w1)
      → IfErr r (StopsAnswering (AnswersIn o body) after w0 w1)
  stops-answering r w0 w1 stops =
      subst (λ (q : Option Request). IfErr r (StopsAnswering (RespondsIn o q (drop 1 body)) after w0 w1)) (sym is)
      (subst (λ (l : List ℕ). IfErr r (StopsAnswering (RespondsIn o request l) after w0 w1)) same stops)

module _ (Meets : Outcome → Type 0) (after : Option Phase) where
  pub gives-behind : (w : Option (List ℕ)) (a : Answer) → Gives Meets after a → GivesBehind Meets after w w a
  gives-behind w a gives = record { lines = []; wrote = Appends-nil w; replies = gives }

  module _ (w0 w1 w2 : Option (List ℕ)) (a : Answer) (behind : GivesBehind Meets after w0 w1 a) where
    pub answered-behind : (last : Bool) → last ≡ is_last a → Appends w1 w2 (text_of a) → Answered Meets after w0 w2 last
    answered-behind last same wrote = record {
      text = behind.lines ++ text_of a;
      replies = subst (λ (b : Bool). Replies Meets (behind.lines ++ text_of a) b after) (sym same) behind.replies;
      wrote = Appends-trans w0 w1 w2 behind.lines (text_of a) behind.wrote wrote;
    }

    pub stopped-behind : AppendsPrefix w1 w2 (text_of a) → StopsAnswering Meets after w0 w2 Write
    stopped-behind part = record {
      text = behind.lines ++ text_of a;
      last = is_last a;
      replies = behind.replies;
      wrote = prefix-behind w0 w1 w2 behind.lines (text_of a) behind.wrote part;
    }
