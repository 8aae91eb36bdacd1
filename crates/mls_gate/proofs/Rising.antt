-- The records of a gate are a rising run of its follower.
use Rattle.std.proofs.Common.{◌≡◌, ◌∙◌, ℕ, zero, suc, ◌/◌, List, [], ◌∷◌, ◌++◌, length, take, drop, Option, Some, None, Result, Ok, Err, refl, sym, subst, inl, inr}
use Rattle.mls_check.specs.ReceiptSets.{with_receipt}
use Rattle.mls_check.specs.Signatures.{VerifyFn, Extends}
use Rattle.mls_check.proofs.ReceiptSets.{with_receipt_extends}
use Rattle.mls_follow.specs.CoveredLogs.{all_good}
use Rattle.mls_follow.specs.RisingRuns.{Event, IsRisingRun, last_meaning}
use Rattle.mls_follow.specs.RisingRuns.Event.{Received, Learned}
use Rattle.mls_follow.specs.Runs.{Call, IsTransition}
use Rattle.mls_follow.specs.State.{State}
use Rattle.mls_follow.specs.StoredRuns.{IsResumable}
use Rattle.mls_follow.specs.TimedAnswers.{IsAnswerAt}
use Rattle.mls_apply.specs.declared.refusal.Refusal.{Refusal}
use Rattle.mls_follow.specs.declared.taken.Taken.{Taken}
use Rattle.mls_follow.proofs.Resumable.{run_resumable}
use Rattle.mls_follow.proofs.ResumableStays.{resumable_stays}
use Rattle.mls_follow.proofs.RisingRuns.{as_run, rising_extends}
use Rattle.mls_follow.proofs.StoredRuns.{resumable_resumes}
use Rattle.mls_follow.proofs.TimedAnswers.{without}
use Rattle.mls_follow.proofs.TimedCovered.{covered_answers_at_times}
use Rattle.mls_start.proofs.FirstStates.{first_resumable}
use Rattle.mls_start.specs.Inputs.{Inputs}
use Rattle.mls_start.specs.ReceiptBytes.{with_receipts, having_learnt}
use Rattle.mls_start.specs.StartFindings.{IsFirstState}
use Rattle.mls_report.specs.Finding.{finding_line}
use Rattle.mls_gate.specs.Answers.{Goes, Answers, Responds, broken_line, message_answer_line, message_query, ready_line, stored_line, no_file_line}
use Rattle.mls_gate.specs.GateReport.{Turn, AreAnswered, phase_after}
use Rattle.mls_gate.specs.GateRuns.{HasStarted, GatesRise, GatesAreValid, GateAnswersAreTrusted, GateStatesResume}
use Rattle.mls_gate.specs.GateSteps.{IsReady}
use Rattle.mls_gate.specs.Phases.{Phase, Opening, Following}
use Rattle.mls_gate.specs.Requests.{request_of}
use Rattle.mls_gate.specs.declared.request.Request.{Request}
use Rattle.mls_gate.specs.declared.request.Request.TheVariants.{Learn, Begin, Query, Process, Time, Store}
use Rattle.mls_gate.proofs.Answering.{one_phase, no_end}

-- ---- learning extends

extends_itself : (G : VerifyFn) → Extends G G
extends_itself G suite key content signature e = e

extends_through : (G H K : VerifyFn) → Extends G H → Extends H K → Extends G K
extends_through G H K f g suite key content signature e = g suite key content signature (f suite key content signature e)

receipts_extend : (n : ℕ) (G : VerifyFn) (bytes : List ℕ) → Extends G (with_receipts n G bytes)
receipts_extend zero G bytes = extends_itself G
receipts_extend (suc n) G bytes =
    extends_through G (with_receipt G (take 32 bytes)) (with_receipts (suc n) G bytes) (with_receipt_extends G (take 32 bytes))
    (receipts_extend n (with_receipt G (take 32 bytes)) (drop 32 bytes))

learnt_extends : (G : VerifyFn) (bytes : List ℕ) → Extends G (having_learnt G bytes)
learnt_extends G bytes = receipts_extend (length bytes / 32) G bytes

-- ---- one event more

after_message : (G : VerifyFn) (s : State) (events : List Event) (mid new : State) (call : Call) → IsRisingRun G s events mid
    → IsTransition (last_meaning G events) mid call.bytes call.answer new → IsRisingRun G s (events ++ Received call ∷ []) new
after_message G s [] mid new call h takes = (new, subst (λ (t : State). IsTransition G t call.bytes call.answer new) h takes, refl)
after_message G s (Received c ∷ events) mid new call h takes = (h.0, h.1, after_message G h.0 events mid new call h.2 takes)
after_message G s (Learned K ∷ events) mid new call h takes = (h.0, after_message K s events mid new call h.1 takes)

after_learning : (G : VerifyFn) (s : State) (events : List Event) (new : State) (K : VerifyFn) → IsRisingRun G s events new
    → Extends (last_meaning G events) K → IsRisingRun G s (events ++ Learned K ∷ []) new
after_learning G s [] new K h more = (more, h)
after_learning G s (Received c ∷ events) new K h more = (h.0, h.1, after_learning G h.0 events new K h.2 more)
after_learning G s (Learned L ∷ events) new K h more = (h.0, after_learning L s events new K h.1 more)

meaning_message : (G : VerifyFn) (events : List Event) (call : Call) → last_meaning G (events ++ Received call ∷ []) ≡ last_meaning G events
meaning_message G [] call = refl
meaning_message G (Received c ∷ events) call = meaning_message G events call
meaning_message G (Learned K ∷ events) call = meaning_message K events call

meaning_learnt : (G : VerifyFn) (events : List Event) (K : VerifyFn) → last_meaning G (events ++ Learned K ∷ []) ≡ K
meaning_learnt G [] K = refl
meaning_learnt G (Received c ∷ events) K = meaning_learnt G events K
meaning_learnt G (Learned L ∷ events) K = meaning_learnt L events K

-- ---- the phases that a gate comes to

module _ (i : Inputs) (G : VerifyFn) where
  abbrev pub Reached : Phase → Type 0
  Reached (Opening j time K) = (j ≡ i) × Extends G K
  Reached (Following time K s) = HasStarted i G K s

  still_opening : (j : Inputs) (time : Option ℕ) (K : VerifyFn) (rest : List ℕ) → Reached (Opening j time K) → Reached (Opening j time (having_learnt K rest))
  still_opening j time K rest r = (r.0, extends_through G K (having_learnt K rest) r.1 (learnt_extends K rest))

  starts : (j : Inputs) (time : Option ℕ) (K : VerifyFn) (s : State) → Reached (Opening j time K) → IsFirstState K j s → Reached (Following time K s)
  starts j time K s r first = record {
    known = K;
    extends = r.1;
    first = s;
    started = subst (λ (x : Inputs). IsFirstState K x s) r.0 first;
    run = record { events = []; rises = refl; meaning = refl };
  }

  learns : (time : Option ℕ) (K : VerifyFn) (s : State) (rest : List ℕ) → Reached (Following time K s) → Reached (Following time (having_learnt K rest) s)
  learns time K s rest r = record {
    known = r.known;
    extends = r.extends;
    first = r.first;
    started = r.started;
    run = record {
      events = r.run.events ++ Learned (having_learnt K rest) ∷ [];
      rises = after_learning r.known r.first r.run.events s (having_learnt K rest) r.run.rises
          (subst (λ (M : VerifyFn). Extends M (having_learnt K rest)) (sym r.run.meaning) (learnt_extends K rest));
      meaning = meaning_learnt r.known r.run.events (having_learnt K rest);
    };
  }

  takes : (time : Option ℕ) (K : VerifyFn) (s new : State) (message : List ℕ) (answer : Result Taken Refusal) → Reached (Following time K s) → IsAnswerAt time K s message answer new
      → Reached (Following time K new)
  takes time K s new message (Ok taken) r h =
      let call : Call = record { bytes = message; answer = Ok taken } in
      record {
        known = r.known;
        extends = r.extends;
        first = r.first;
        started = r.started;
        run = record {
          events = r.run.events ++ Received call ∷ [];
          rises = after_message r.known r.first r.run.events s new call r.run.rises
              (subst (λ (M : VerifyFn). IsTransition M s message (Ok taken) new) (sym r.run.meaning) (without time K s message taken new h).takes);
          meaning = meaning_message r.known r.run.events call ∙ r.run.meaning;
        };
      }
  takes time K s new message (Err e) r h = subst (λ (t : State). Reached (Following time K t)) (sym h.takes.0) r

  by_request : (now new : Phase) (request : Option Request) (rest text : List ℕ) → Reached now → Responds now request rest (Goes text new) → Reached new
  by_request (Opening j time K) new (Some Learn) rest text r a =
      subst Reached (one_phase text [] new (Opening j time (having_learnt K rest)) a) (still_opening j time K rest r)
  by_request (Opening j time K) new (Some Begin) rest text r (inl a) =
      subst Reached (one_phase text (ready_line a.0) new (Following time K a.0) a.2) (starts j time K a.0 r a.1)
  by_request (Opening j time K) new (Some Begin) rest text r (inr a) = no_end text (finding_line a.0) new a.2
  by_request (Opening j time K) new (Some Query) rest text r a = no_end text broken_line new a
  by_request (Opening j time K) new (Some Process) rest text r a = no_end text broken_line new a
  by_request (Opening j time K) new (Some (Time seconds)) rest text r a =
      subst Reached (one_phase text [] new (Opening j (Some seconds) K) a) r
  by_request (Opening j time K) new (Some Store) rest text r a = no_end text broken_line new a
  by_request (Opening j time K) new None rest text r a = no_end text broken_line new a
  by_request (Following time K s) new (Some Learn) rest text r a =
      subst Reached (one_phase text [] new (Following time (having_learnt K rest) s) a) (learns time K s rest r)
  by_request (Following time K s) new (Some Begin) rest text r a = no_end text broken_line new a
  by_request (Following time K s) new (Some Query) rest text r a =
      subst Reached (one_phase text (message_query K a.0) new (Following time K s) a.2) r
  by_request (Following time K s) new (Some Process) rest text r a =
      subst Reached (one_phase text (message_answer_line a.0 a.1) new (Following time K a.1) a.3) (takes time K s a.1 rest a.0 r a.2)
  by_request (Following time K s) new (Some (Time seconds)) rest text r a =
      subst Reached (one_phase text [] new (Following (Some seconds) K s) a) r
  by_request (Following time K s) new (Some Store) rest text r (inl a) =
      subst Reached (one_phase text (stored_line a.0) new (Following time K s) a.2) r
  by_request (Following time K s) new (Some Store) rest text r (inr a) =
      subst Reached (one_phase text no_file_line new (Following time K s) a.1) r
  by_request (Following time K s) new None rest text r a = no_end text broken_line new a

  pub reached-on : (now new : Phase) (body text : List ℕ) → Reached now → Answers now body (Goes text new) → Reached new
  reached-on now new body text r a = by_request now new (request_of body) (drop 1 body) text r a

  pub reached-all : (now : Phase) (turns : List Turn) → Reached now → AreAnswered now turns → Reached (phase_after now turns)
  reached-all now [] r a = r
  reached-all now (turn ∷ turns) r a = reached-all turn.phase turns (reached-on now turn.phase turn.body turn.text r a.0) a.1

  pub reached-none : (time : Option ℕ) → Reached (Opening i time G)
  reached-none time = (refl, extends_itself G)

  -- a gate from such inputs can answer in each of them
  pub ready-reached : (initial : Option ℕ) → IsReady (Some (Opening i initial G)) → (now : Phase) → Reached now → IsReady (Some now)
  ready-reached initial r (Opening j time K) reached = (r.0, subst (λ (x : Inputs). IsFirstState all_good x r.0) (sym reached.0) r.1)
  ready-reached initial r (Following time K s) reached = tt

  pub has_started : (initial time : Option ℕ) (turns : List Turn) (K : VerifyFn) (s : State) → AreAnswered (Opening i initial G) turns → phase_after (Opening i initial G) turns ≡ Following time K s → HasStarted i G K s
  has_started initial time turns K s a e = subst Reached e (reached-all (Opening i initial G) turns (reached-none initial) a)

pub gates_rise : GatesRise
gates_rise i initial time G K turns s a e = has_started i G initial time turns K s a e

-- the state satisfies the conditions of a resumption, by what was learnt so far
started_resumable : (i : Inputs) (G K : VerifyFn) (s : State) → HasStarted i G K s → IsResumable K s
started_resumable i G K s h =
    let L = last_meaning h.known h.run.events in
    let run = as_run h.known h.first h.run.events s h.run.rises in
    let first = resumable_stays h.known L h.first (rising_extends h.known h.first h.run.events s h.run.rises) (first_resumable h.known i h.first h.started) in
    subst (λ (M : VerifyFn). IsResumable M s) h.run.meaning (run_resumable L h.first s run.calls first run.run)

pub gates_valid : GatesAreValid
gates_valid i initial time G K turns s a e = (started_resumable i G K s (has_started i G initial time turns K s a e)).valid

pub gates_resume : GateStatesResume
gates_resume i initial time G K turns s bytes a e file =
    resumable_resumes K s bytes (started_resumable i G K s (has_started i G initial time turns K s a e)) file

pub gates_trusted : GateAnswersAreTrusted
gates_trusted i initial time G K turns s new bytes answer a e covers =
    covered_answers_at_times time K s bytes answer new (gates_valid i initial time G K turns s a e) covers
