-- The outcome of a record is one.
use Rattle.std.proofs.Common.{◌≡◌, ◌∙◌, ℕ, List, drop, Option, Some, None, sym, ap, inl, inr}
use Rattle.mls_check.specs.Signatures.{VerifyFn}
use Rattle.mls_signatures.specs.declared.signature_to_verify.SignatureToVerify.{SignatureToVerify}
use Rattle.mls_follow.specs.State.{State}
use Rattle.mls_follow.proofs.StoredStates.{one_file}
use Rattle.mls_follow.proofs.TimedAnswers.{one_timed_answer}
use Rattle.mls_report.specs.Finding.{finding_line}
use Rattle.mls_start.proofs.FirstStates.{one_first, first_or_refuses, one_refusal}
use Rattle.mls_start.specs.Inputs.{Inputs}
use Rattle.mls_start.specs.declared.finding.Finding.{Finding}
use Rattle.mls_report.proofs.SignaturesOnce.{one_needed}
use Rattle.mls_gate.specs.Answers.{Outcome, Goes, Ends, Begins, StoresState, Answers, Responds, message_answer_line, message_query, ready_line, stored_line}
use Rattle.mls_gate.specs.Phases.{Phase, Opening, Following}
use Rattle.mls_gate.specs.Requests.{request_of}
use Rattle.mls_gate.specs.declared.request.Request.{Request}
use Rattle.mls_gate.specs.declared.request.Request.TheVariants.{Learn, Begin, Query, Process, Time, Store}

one_begin : (i : Inputs) (time : Option ℕ) (G : VerifyFn) (o u : Outcome) → Begins i time G o → Begins i time G u → o ≡ u
one_begin i time G o u (inl a) (inl b) =
    a.2 ∙ ap (λ (s : State). Goes (ready_line s) (Following time G s)) (one_first G i a.0 b.0 a.1 b.1) ∙ sym b.2
one_begin i time G o u (inl a) (inr b) = absurd (first_or_refuses G i a.0 b.0 a.1 b.1)
one_begin i time G o u (inr a) (inl b) = absurd (first_or_refuses G i b.0 a.0 b.1 a.1)
one_begin i time G o u (inr a) (inr b) =
    a.2 ∙ ap (λ (f : Finding). Ends (finding_line f)) (one_refusal G i a.0 b.0 a.1 b.1) ∙ sym b.2

one_store : (time : Option ℕ) (G : VerifyFn) (s : State) (o u : Outcome) → StoresState time G s o → StoresState time G s u → o ≡ u
one_store time G s o u (inl a) (inl b) =
    a.2 ∙ ap (λ (bytes : List ℕ). Goes (stored_line bytes) (Following time G s)) (one_file s a.0 b.0 a.1 b.1) ∙ sym b.2
one_store time G s o u (inl a) (inr b) = absurd (b.0 a.0 a.1)
one_store time G s o u (inr a) (inl b) = absurd (a.0 b.0 b.1)
one_store time G s o u (inr a) (inr b) = a.1 ∙ sym b.1

one_response : (phase : Phase) (request : Option Request) (rest : List ℕ) (o u : Outcome) → Responds phase request rest o → Responds phase request rest u → o ≡ u
one_response (Opening i time G) (Some Learn) rest o u a b = a ∙ sym b
one_response (Opening i time G) (Some Begin) rest o u a b = one_begin i time G o u a b
one_response (Opening i time G) (Some Query) rest o u a b = a ∙ sym b
one_response (Opening i time G) (Some Process) rest o u a b = a ∙ sym b
one_response (Opening i time G) (Some (Time seconds)) rest o u a b = a ∙ sym b
one_response (Opening i time G) (Some Store) rest o u a b = a ∙ sym b
one_response (Opening i time G) None rest o u a b = a ∙ sym b
one_response (Following time G s) (Some Learn) rest o u a b = a ∙ sym b
one_response (Following time G s) (Some Begin) rest o u a b = a ∙ sym b
one_response (Following time G s) (Some Query) rest o u a b =
    a.2 ∙ ap (λ (w : Option (List SignatureToVerify)). Goes (message_query G w) (Following time G s)) (one_needed s rest a.0 b.0 a.1 b.1) ∙ sym b.2
one_response (Following time G s) (Some Process) rest o u a b =
    let same = one_timed_answer time G s rest a.0 b.0 a.1 b.1 a.2 b.2 in
    a.3 ∙ (λ k. Goes (message_answer_line (same.0 k) (same.1 k)) (Following time G (same.1 k))) ∙ sym b.3
one_response (Following time G s) (Some (Time seconds)) rest o u a b = a ∙ sym b
one_response (Following time G s) (Some Store) rest o u a b = one_store time G s o u a b
one_response (Following time G s) None rest o u a b = a ∙ sym b

pub one_outcome : (phase : Phase) (body : List ℕ) (o u : Outcome) → Answers phase body o → Answers phase body u → o ≡ u
one_outcome phase body o u a b = one_response phase (request_of body) (drop 1 body) o u a b
