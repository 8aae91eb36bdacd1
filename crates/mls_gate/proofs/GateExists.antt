-- A gate has a report, whatever the bytes of its inputs.
use Rattle.std.proofs.Common.{◌≡◌, ◌≢◌, ◌∙◌, ℕ, zero, suc, List, [], ◌∷◌, ◌++◌, drop, Option, Some, None, Result, Ok, Err, refl, sym, ap, subst, inl, inr, arith, append_assoc}
use Rattle.mls_check.specs.Signatures.{VerifyFn}
use Rattle.mls_follow.specs.CoveredLogs.{all_good}
use Rattle.mls_follow.specs.MessageSignatures.{message_signatures_in_state}
use Rattle.mls_follow.specs.State.{State}
use Rattle.mls_follow.specs.TimedAnswers.{IsAnswerAt, HasAnswerAt}
use Rattle.mls_apply.specs.declared.refusal.Refusal.{Refusal}
use Rattle.mls_apply.specs.declared.refusal.Refusal.TheVariants.{OutOfMemory}
use Rattle.mls_follow.specs.declared.taken.Taken.{Taken}
use Rattle.mls_follow.specs.RisingRuns.{last_meaning}
use Rattle.mls_follow.proofs.Holding.{run_steady}
use Rattle.mls_follow.proofs.RisingRuns.{as_run}
use Rattle.mls_follow.proofs.StoredFiles.{some_file}
use Rattle.mls_follow.proofs.TimedAnswers.{timed_answer}
use Rattle.mls_signatures.specs.declared.signature_to_verify.SignatureToVerify.{SignatureToVerify}
use Rattle.mls_start.proofs.FirstStates.{first_or_declined, first_or_refused, first_starts, first_steady}
use Rattle.mls_start.specs.Inputs.{Inputs}
use Rattle.mls_start.specs.ReceiptBytes.{having_learnt}
use Rattle.mls_report.specs.Finding.{finding_line}
use Rattle.mls_report.specs.SignaturesReport.{HasSignatures}
use Rattle.mls_show.specs.declared.verdict.Verdict.{Verdict}
use Rattle.mls_show.specs.declared.verdict.Verdict.TheVariants.{No}
use Rattle.mls_report.proofs.LogsExist.{Begins, Breaks, comes}
use Rattle.mls_gate.specs.Answers as specs
use Rattle.mls_gate.specs.Answers.{Outcome, Goes, Ends, Answers, Responds, query_text, message_query, message_answer_line, ready_line, stored_line, no_file_line, broken_line}
use Rattle.mls_gate.specs.GateReport.{Turn, phase_after, answers, record_limit, IsEnding}
use Rattle.mls_gate.specs.GateReports.{GateExists}
use Rattle.mls_gate.specs.GateRuns.{HasStarted}
use Rattle.mls_gate.specs.GateSteps.{IsReady}
use Rattle.mls_gate.specs.Phases.{Phase, Opening, Following, end_verdict}
use Rattle.mls_gate.specs.Requests.{request_of}
use Rattle.mls_gate.specs.declared.request.Request.{Request}
use Rattle.mls_gate.specs.declared.request.Request.TheVariants.{Learn, Begin, Query, Process, Time, Store}
use Rattle.mls_gate.proofs.RecordsOnce.{RecordLines}
use Rattle.mls_gate.proofs.Rising.{Reached, ready-reached, reached-none, reached-on}

-- ---- a message

own : (e : Refusal) → (◌≡◌ {A = Result Taken Refusal} (Err e) (Err OutOfMemory) → ⊥) → e ≢ OutOfMemory
own e memory same = memory (ap Err same)

-- a message that is processed has signatures, or it is none
some_needed : (time : Option ℕ) (G : VerifyFn) (s : State) (bytes : List ℕ) (answer : Result Taken Refusal) (new : State) → IsAnswerAt time G s bytes answer new
    → (needed : Option (List SignatureToVerify)) × HasSignatures s bytes needed
some_needed time G s bytes (Ok taken) new h =
    let message = h.takes.0 in
    (Some (message_signatures_in_state s message.message), record { message = message.message; encoded = message.encoded; same = refl })
some_needed time G s bytes (Err e) new h =
    elim (h.takes.1 (own e h.memory)) [
      | inl none ↦ (None, none.1)
      | inr message ↦ (Some (message_signatures_in_state s message.message), record { message = message.message; encoded = message.encoded; same = refl })
    ]

-- ---- a record

module _ (i : Inputs) (initial : Option ℕ) (G : VerifyFn) (can_start : IsReady (Some (Opening i initial G))) where
  abbrev Here : Phase → Type 0
  Here = Reached i G

  -- there is an answer to any message
  some_answer : (time : Option ℕ) (K : VerifyFn) (s : State) (bytes : List ℕ) → HasStarted i G K s → HasAnswerAt time K s bytes
  some_answer time K s bytes h =
      let L = last_meaning h.known h.run.events in
      let run = as_run h.known h.first h.run.events s h.run.rises in
      let steady = run_steady L h.first run.calls s (first_steady h.known i h.first h.started) run.run in
      subst (λ (M : VerifyFn). HasAnswerAt time M s bytes) h.run.meaning (timed_answer time L s steady.required bytes steady.held steady.requires)

  some_begin : (j : Inputs) (time : Option ℕ) (K : VerifyFn) → IsReady (Some (Opening j time K)) → (o : Outcome) × specs.Begins j time K o
  some_begin j time K r =
      elim (first_or_refused K j r.0 r.1) [
        | inl s ↦ (Goes (ready_line s.0) (Following time K s.0), inl (s.0, s.1, refl))
        | inr f ↦ (Ends (finding_line f.0), inr (f.0, f.1, refl))
      ]

  some_store : (time : Option ℕ) (K : VerifyFn) (s : State) → (o : Outcome) × specs.StoresState time K s o
  some_store time K s =
      elim (some_file s) [
        | inl file ↦ (Goes (stored_line file.0) (Following time K s), inl (file.0, file.1, refl))
        | inr none ↦ (Goes no_file_line (Following time K s), inr (none, refl))
      ]

  some_response : (p : Phase) (request : Option Request) (rest : List ℕ) → Here p → (o : Outcome) × Responds p request rest o
  some_response (Opening j time K) (Some Learn) rest r = (Goes [] (Opening j time (having_learnt K rest)), refl)
  some_response (Opening j time K) (Some Begin) rest r = some_begin j time K (ready-reached i G initial can_start (Opening j time K) r)
  some_response (Opening j time K) (Some Query) rest r = (Ends broken_line, refl)
  some_response (Opening j time K) (Some Process) rest r = (Ends broken_line, refl)
  some_response (Opening j time K) (Some (Time seconds)) rest r = (Goes [] (Opening j (Some seconds) K), refl)
  some_response (Opening j time K) (Some Store) rest r = (Ends broken_line, refl)
  some_response (Opening j time K) None rest r = (Ends broken_line, refl)
  some_response (Following time K s) (Some Learn) rest r = (Goes [] (Following time (having_learnt K rest) s), refl)
  some_response (Following time K s) (Some Begin) rest r = (Ends broken_line, refl)
  some_response (Following time K s) (Some Query) rest r =
      let answer = some_answer time K s rest r in
      let needed = some_needed time K s rest answer.0 answer.1 answer.2 in
      (Goes (message_query K needed.0) (Following time K s), (needed.0, needed.1, refl))
  some_response (Following time K s) (Some Process) rest r =
      let answer = some_answer time K s rest r in
      (Goes (message_answer_line answer.0 answer.1) (Following time K answer.1), (answer.0, answer.1, answer.2, refl))
  some_response (Following time K s) (Some (Time seconds)) rest r = (Goes [] (Following (Some seconds) K s), refl)
  some_response (Following time K s) (Some Store) rest r = some_store time K s
  some_response (Following time K s) None rest r = (Ends broken_line, refl)

  -- ---- all records

  record IsServed (most : ℕ) (p : Phase) (all : List ℕ) : Type 0 where
    turns : List Turn
    text : List ℕ
    verdict : Verdict
    lines : RecordLines most p all turns text verdict

  none_served : (most : ℕ) (p : Phase) → IsServed most p []
  none_served most p = record {
    turns = [];
    text = [];
    verdict = end_verdict p;
    lines = record {
      answered = tt;
      bounded = omega arith;
      records = [];
      are_records = refl;
      rest = [];
      left = [];
      read = refl;
      ending = inl (record { nothing_read = refl; at_end = refl; no_text = refl; verdict_is = refl });
    };
  }

  last_served : (most : ℕ) (p : Phase) (all rest left text : List ℕ) (verdict : Verdict) → all ≡ rest ++ left → IsEnding p most rest (Some left) text verdict
      → IsServed most p all
  last_served most p all rest left text verdict e ending = record {
    turns = [];
    text = text;
    verdict = verdict;
    lines = record {
      answered = tt;
      bounded = omega arith;
      records = [];
      are_records = refl;
      rest = rest;
      left = left;
      read = e;
      ending = subst (λ (n : ℕ). IsEnding p n rest (Some left) text verdict) (omega arith) ending;
    };
  }

  breaks_served : (most : ℕ) (p : Phase) (all : List ℕ) → Breaks most all → IsServed most p all
  breaks_served most p all b =
      last_served most p all b.rest b.left broken_line No b.log_is (inr (inl (record { broken = b.is_break; text_is = refl; verdict_is = refl })))

  -- one record, and what is answered behind it
  one_more : (most : ℕ) (p : Phase) (all : List ℕ) (n : Begins all) (text : List ℕ) (new : Phase) → Answers p n.body (Goes text new) → IsServed most new n.after
      → IsServed (suc most) p all
  one_more most p all n text new answer rest =
      let turn : Turn = record { body = n.body; text = text; phase = new } in
      let behind = rest.lines in
      let fewer = behind.bounded in
      record {
        turns = turn ∷ rest.turns;
        text = rest.text;
        verdict = rest.verdict;
        lines = record {
          answered = (answer, behind.answered);
          bounded = omega (arith, fewer);
          records = n.read ++ behind.records;
          are_records = (n.read, behind.records, n.is_record, behind.are_records, refl);
          rest = behind.rest;
          left = behind.left;
          read =
              n.log_is
              ∙ ap (λ (x : List ℕ). n.read ++ x) behind.read
              ∙ sym (append_assoc n.read (behind.records ++ behind.rest) behind.left)
              ∙ ap (λ (x : List ℕ). x ++ behind.left) (sym (append_assoc n.read behind.records behind.rest));
          ending = subst (λ (k : ℕ). IsEnding (phase_after new rest.turns) k behind.rest (Some behind.left) rest.text rest.verdict) (omega (arith, fewer)) behind.ending;
        };
      }

  last_record : (most : ℕ) (p : Phase) (all : List ℕ) (n : Begins all) (text : List ℕ) → Answers p n.body (Ends text) → IsServed (suc most) p all
  last_record most p all n text answer =
      last_served (suc most) p all n.read n.after text No n.log_is
      (inr (inr (record { body = n.body; allowed = omega arith; is_record = n.is_record; answers = answer; verdict_is = refl })))

  by_outcome : (most : ℕ) (p : Phase) (all : List ℕ) → Here p → (n : Begins all) (o : Outcome) → Answers p n.body o
      → ((new : Phase) → Here new → IsServed most new n.after) → IsServed (suc most) p all
  by_outcome most p all r n (Goes text new) answer rest =
      one_more most p all n text new answer (rest new (reached-on i G p new n.body text r answer))
  by_outcome most p all r n (Ends text) answer rest = last_record most p all n text answer

  served : (most : ℕ) (p : Phase) (all : List ℕ) → Here p → IsServed most p all
  served most p [] r = none_served most p
  served zero p (first ∷ bytes) r =
      breaks_served zero p (first ∷ bytes) (record { rest = first ∷ []; left = bytes; is_break = inl (refl, refl); log_is = refl })
  served (suc most) p (first ∷ bytes) r =
      elim (comes most first bytes) [
        | inl n ↦
            (let answer = some_response p (request_of n.body) (drop 1 n.body) r in
            by_outcome most p (first ∷ bytes) r n answer.0 answer.1 (λ new here. served most new n.after here))
        | inr b ↦ breaks_served (suc most) p (first ∷ bytes) b
      ]

-- ---- the report

pub some_gate : GateExists
some_gate time G i records =
    elim (first_or_declined all_good i) [
      | inl s ↦
          (let starts = first_starts i s.0 s.1 in
          let all : IsServed i time G s record_limit (Opening i time G) records = served i time G s record_limit (Opening i time G) records (reached-none i G time) in (
            query_text G starts.0 ++ (answers all.turns ++ all.text),
            all.verdict,
            record {
              records_left = Some all.lines.left;
              before = [];
              gates = inr (record {
                state = s.0;
                signatures = starts.0;
                can_start = starts.1;
                between = Some (query_text G starts.0);
                wrote = refl;
                reports = record {
                  turns = all.turns;
                  rest = all.lines.rest;
                  text = all.text;
                  serves = record {
                    answered = all.lines.answered;
                    bounded = all.lines.bounded;
                    records = all.lines.records;
                    are_records = all.lines.are_records;
                    all_read = all.lines.read;
                  };
                  ending = all.lines.ending;
                  wrote = refl;
                };
              });
            },
          ))
      | inr f ↦ (
        finding_line f.0,
        No,
        record {
          records_left = Some records;
          before = [];
          gates = inl (record { finding = f.0; declines = f.1; unread = refl; wrote = refl; verdict_is = refl });
        },
      )
    ]
