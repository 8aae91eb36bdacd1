-- Runs in which the checker learns signatures: what is accepted is accepted under the last meaning, and leads to the same
-- state.
use Rattle.std.proofs.Common.{◌≡◌, ◌∙◌, ℕ, List, [], ◌∷◌, Result, Ok, Err, refl, sym, ap, subst}
use Rattle.std.specs.Prelude.{map, is_ok, All}
use Rattle.std.proofs.lemmas.List.Elements.{All-nil, All-cons, All-head, All-tail}
use Rattle.mls_check.specs.Signatures.{VerifyFn, Extends}
use Rattle.mls_apply.specs.declared.refusal.Refusal.{Refusal}
use Rattle.mls_apply.specs.declared.refusal.Refusal.TheVariants.{OutOfMemory}
use Rattle.mls_follow.specs.State.{State}
use Rattle.mls_follow.specs.NextState.{Transition}
use Rattle.mls_follow.specs.Acceptance.{IsAcceptable, IsNext}
use Rattle.mls_follow.specs.Runs.{Call, IsTransition, IsRun, IsFold, accepted, accepted_before}
use Rattle.mls_follow.specs.Validity.{IsValidState}
use Rattle.mls_follow.specs.RisingRuns.{Event, IsRisingRun, last_meaning, received, AcceptsAll, IsAccepted, HasMemory, RisingRunsExtend, RisingRunsAreFolds, RisingRunsAreAccepted, AcceptedMakeRuns, RecoveriesAccept, RisingRunsKeepValidity, RisingFollowersAreValid, RisingRunsAreAnswered}
use Rattle.mls_follow.specs.RisingRuns.Event.{Received, Learned}
use Rattle.mls_follow.specs.declared.taken.Taken.{Taken}
use Rattle.mls_follow.proofs.AcceptancesStay.{acceptance_stays, start_stays}
use Rattle.mls_follow.proofs.Answering.{only_answer}
use Rattle.mls_follow.proofs.Holding.{run_answered}
use Rattle.mls_follow.proofs.Validity.{run_valid, start_valid}
use Rattle.mls_follow.proofs.SignatureAgreement.{members_stay}

extends_itself : (G : VerifyFn) → Extends G G
extends_itself G suite key content signature e = e

extends_through : (G H K : VerifyFn) → Extends G H → Extends H K → Extends G K
extends_through G H K f g suite key content signature e = g suite key content signature (f suite key content signature e)

pub rising_extends : RisingRunsExtend
rising_extends G s [] new h = extends_itself G
rising_extends G s (Received call ∷ events) new h = rising_extends G h.0 events new h.2
rising_extends G s (Learned K ∷ events) new h =
    extends_through G K (last_meaning K events) h.0 (rising_extends K s events new h.1)

-- ---- what is accepted

-- a message before others that are accepted
accepts_before : (G K : VerifyFn) (s mid : State) (bytes : List ℕ) (answer : Result Taken Refusal) (messages : List (List ℕ)) (new : State) → Extends G K
    → IsTransition G s bytes answer mid → AcceptsAll K mid messages new → AcceptsAll K s (accepted_before bytes answer messages) new
accepts_before G K s mid bytes (Ok taken) messages new more h rest =
    (record { taken = taken; state = mid }, acceptance_stays G K s bytes more h.0, h.1, rest)
accepts_before G K s mid bytes (Err e) messages new more h rest = subst (λ (t : State). AcceptsAll K t messages new) h.0 rest

pub rising_accepted : RisingRunsAreAccepted
rising_accepted G s [] new h = h
rising_accepted G s (Received call ∷ events) new h =
    accepts_before G (last_meaning G events) s h.0 call.bytes call.answer (accepted (received events)) new (rising_extends G h.0 events new h.2) h.1
    (rising_accepted G h.0 events new h.2)
rising_accepted G s (Learned K ∷ events) new h = rising_accepted K s events new h.1

-- forgetting that each is acceptable
accepted-fold : (G : VerifyFn) (s : State) (messages : List (List ℕ)) (new : State) → AcceptsAll G s messages new → IsFold s messages new
accepted-fold G s [] new h = h
accepted-fold G s (bytes ∷ messages) new h = (h.0, h.2, accepted-fold G h.0.state messages new h.3)

pub rising_fold : RisingRunsAreFolds
rising_fold G s events new h =
    accepted-fold (last_meaning G events) s (accepted (received events)) new (rising_accepted G s events new h)

-- ---- recovery

pub accepted_run : AcceptedMakeRuns
accepted_run G s [] new h = ([], refl, All-nil IsAccepted, h)
accepted_run G s (bytes ∷ messages) new h =
    let rest = accepted_run G h.0.state messages new h.3 in
    let call : Call = record { bytes = bytes; answer = Ok h.0.taken } in (
      call ∷ rest.0,
      ap (λ (ms : List (List ℕ)). bytes ∷ ms) rest.1,
      All-cons IsAccepted call rest.0 refl rest.2,
      (h.0.state, (h.1, h.2), rest.3),
    )

-- one message that is acceptable has this answer, where memory suffices
answered_so : (G : VerifyFn) (s mid : State) (call : Call) (step : Transition) → IsAcceptable G s call.bytes → IsNext s call.bytes step
    → (call.answer ≡ Err OutOfMemory → ⊥) → IsTransition G s call.bytes call.answer mid → (call.answer ≡ Ok step.taken) × (mid ≡ step.state)
answered_so G s mid call step acceptable next memory takes =
    only_answer G s call.bytes call.answer (Ok step.taken) mid step.state (record { takes = takes; memory = memory })
    (record { takes = (acceptable, next); memory = λ e. absurd cc })

recovered : (G : VerifyFn) (s : State) (calls : List Call) (new other : State) → AcceptsAll G s (map (λ call. call.bytes) calls) new
    → All HasMemory calls → IsRun G s calls other → All IsAccepted calls × (other ≡ new)
recovered G s [] new other h memory run = (All-nil IsAccepted, run ∙ sym h)
recovered G s (call ∷ calls) new other h memory run =
    let one = answered_so G s run.0 call h.0 h.1 h.2 (All-head HasMemory call calls memory) run.1 in
    let rest = recovered G h.0.state calls new other h.3 (All-tail HasMemory call calls memory) (subst (λ (t : State). IsRun G t calls other) one.1 run.2) in
    (All-cons IsAccepted call calls (ap is_ok one.0) rest.0, rest.1)

pub recoveries_accept : RecoveriesAccept
recoveries_accept G s events new other calls h same memory run =
    recovered (last_meaning G events) s calls new other
    (subst (λ (messages : List (List ℕ)). AcceptsAll (last_meaning G events) s messages new) (sym same) (rising_accepted G s events new h)) memory run

-- ---- what holds after any run under the last meaning

-- a rising run leads where a run under the last meaning does
pub record IsRunOf (K : VerifyFn) (s new : State) : Type 0 where
  pub calls : List Call
  pub run : IsRun K s calls new

pub as_run : (G : VerifyFn) (s : State) (events : List Event) (new : State) → IsRisingRun G s events new → IsRunOf (last_meaning G events) s new
as_run G s events new h =
    let made = accepted_run (last_meaning G events) s (accepted (received events)) new (rising_accepted G s events new h) in
    record { calls = made.0; run = made.3 }

pub valid_stays : (G K : VerifyFn) (s : State) → Extends G K → IsValidState G s → IsValidState K s
valid_stays G K s more v = record {
  valid = v.valid;
  required = v.required;
  requires = v.requires;
  members = members_stay G K s.context.cipher_suite s.context.group_id v.required s.tree more v.members;
}

pub rising_valid : RisingRunsKeepValidity
rising_valid G s events new v h =
    let r = as_run G s events new h in
    run_valid (last_meaning G events) s r.calls new (valid_stays G (last_meaning G events) s (rising_extends G s events new h) v) r.run

pub rising_follower_valid : RisingFollowersAreValid
rising_follower_valid asked profile G info supplied first last events start h =
    rising_valid G first events last (start_valid asked profile G info supplied first start) h

pub rising_answered : RisingRunsAreAnswered
rising_answered asked profile G info supplied first last events bytes start h =
    let r = as_run G first events last h in
    run_answered asked profile (last_meaning G events) info supplied first last r.calls bytes
    (start_stays asked profile G (last_meaning G events) info supplied first (rising_extends G first events last h) start) r.run
