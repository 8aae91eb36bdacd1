-- The answers to requests, each with its text.
use Rattle.std.proofs.Common.{◌≡◌, ℕ, List, true, false, Option, Some, Result, ap, inl, inr}
use Rattle.mls_check.specs.Signatures.{VerifyFn}
use Rattle.mls_signatures.specs.declared.signature_to_verify.SignatureToVerify.{SignatureToVerify}
use Rattle.mls_follow.specs.State.{State}
use Rattle.mls_follow.specs.StoredState.{EncodesState, HasNoFile}
use Rattle.mls_follow.specs.TimedAnswers.{IsAnswerAt}
use Rattle.mls_apply.specs.declared.refusal.Refusal.{Refusal}
use Rattle.mls_follow.specs.declared.taken.Taken.{Taken}
use Rattle.mls_start.proofs.FirstStates.{declines-refuses}
use Rattle.mls_start.specs.Inputs.{Inputs}
use Rattle.mls_start.specs.StartFindings.{IsFirstState, Declines}
use Rattle.mls_start.specs.declared.finding.Finding.{Finding}
use Rattle.mls_report.specs.Finding.{finding_line}
use Rattle.mls_report.specs.SignaturesReport.{HasSignatures}
use Rattle.mls_gate.specs.Answers.{Goes, Ends, Begins, Queries, Processes, StoresState, message_query, ready_line, message_answer_line, stored_line, no_file_line}
use Rattle.mls_gate.specs.GateSteps.{IsReady, Replies}
use Rattle.mls_gate.specs.Phases.{Phase, Opening, Following}

-- ---- a start

pub begun : (time : Option ℕ) (G K : VerifyFn) (i : Inputs) (s : State) (text : List ℕ) → IsFirstState G i s → text ≡ ready_line s → K ≡ G
    → Replies (Begins i time G) text false (Some (Following time K s))
begun time G K i s text first e same =
    (Following time G s, inl (s, first, ap (λ (x : List ℕ). Goes x (Following time G s)) e), λ k. Some (Following time (same k) s))

pub not-begun : (time : Option ℕ) (G : VerifyFn) (i : Inputs) (finding : Finding) (text : List ℕ) (after : Option Phase) → IsReady (Some (Opening i time G)) → Declines G i finding
    → text ≡ finding_line finding → Replies (Begins i time G) text true after
not-begun time G i finding text after r d e = inr (finding, declines-refuses G i r.0 finding r.1 d, ap Ends e)

-- ---- a message

pub queried : (time : Option ℕ) (G K : VerifyFn) (s t : State) (message : List ℕ) (needed : Option (List SignatureToVerify)) (text : List ℕ) → HasSignatures s message needed
    → text ≡ message_query G needed → K ≡ G → t ≡ s → Replies (Queries time G s message) text false (Some (Following time K t))
queried time G K s t message needed text has e same stays =
    (Following time G s, (needed, has, ap (λ (x : List ℕ). Goes x (Following time G s)) e), λ k. Some (Following time (same k) (stays k)))

pub judged : (time : Option ℕ) (G K : VerifyFn) (s t : State) (message : List ℕ) (answer : Result Taken Refusal) (text : List ℕ) → IsAnswerAt time G s message answer t
    → text ≡ message_answer_line answer t → K ≡ G → Replies (Processes time G s message) text false (Some (Following time K t))
judged time G K s t message answer text is_answer e same =
    (Following time G t, (answer, t, is_answer, ap (λ (x : List ℕ). Goes x (Following time G t)) e), λ k. Some (Following time (same k) t))

-- ---- a state

pub stored : (time : Option ℕ) (G : VerifyFn) (s : State) (o : Option Phase) (bytes text : List ℕ) → o ≡ Some (Following time G s) → EncodesState s bytes → text ≡ stored_line bytes
    → Replies (StoresState time G s) text false o
stored time G s o bytes text at encodes e = (Following time G s, inl (bytes, encodes, ap (λ (x : List ℕ). Goes x (Following time G s)) e), at)

pub without-file : (time : Option ℕ) (G : VerifyFn) (s : State) (o : Option Phase) (text : List ℕ) → o ≡ Some (Following time G s) → HasNoFile s → text ≡ no_file_line
    → Replies (StoresState time G s) text false o
without-file time G s o text at none e = (Following time G s, inr (none, ap (λ (x : List ℕ). Goes x (Following time G s)) e), at)

-- ---- one outcome is no other

pub one_phase : (text printed : List ℕ) (new phase : Phase) → Goes text new ≡ Goes printed phase → phase ≡ new
one_phase text printed new phase e = cc

pub no_end : {A : Type 0} (text printed : List ℕ) (new : Phase) → Goes text new ≡ Ends printed → A
no_end text printed new e = absurd cc
