-- The records of a gate, one after the other.
use Rattle.std.proofs.Common.{◌≡◌, ◌≢◌, ◌∙◌, ℕ, ◌+◌, ◌<◌, List, [], ◌∷◌, ◌++◌, length, map, Bool, true, false, Option, Some, Result, Ok, Err, refl, sym, ap, subst, append_assoc, append-nil, length-append, arith, inl, inr}
use Rattle.std.specs.Prelude.{IfErr, OnErr}
use Rattle.std.specs.Io.KnownBytes.{Appends, Consumes}
use Rattle.mls_wire.specs.Devices.{AppendsPrefix}
use Rattle.mls_wire.proofs.KnownBytes.{Appends-trans, Consumes-trans}
use Rattle.mls_wire.specs.Logs.{IsRecord, IsBrokenAt, IsIncomplete}
use Rattle.mls_start.specs.Inputs.{Inputs}
use Rattle.mls_report.specs.Replay.{AreRecords, IsLogEnd}
use Rattle.mls_wire.specs.declared.fault.RunFault.{RunFault}
use Rattle.mls_wire.specs.declared.fault.RunFault.TheVariants.{Read, Write, Memory}
use Rattle.mls_show.specs.declared.verdict.Verdict.{Verdict}
use Rattle.mls_show.specs.declared.verdict.Verdict.TheVariants.{No}
use Rattle.mls_report.proofs.Replaying.{Consumes-nil, Appends-nil}
use Rattle.mls_report.specs.ReplaySteps.{ReadsUndecided}
use Rattle.mls_check.specs.Signatures.{VerifyFn}
use Rattle.mls_gate.specs.Answers.{Goes, Ends, Answers, query_text, broken_line}
use Rattle.mls_gate.specs.GateReport.{Turn, AreAnswered, phase_after, answers, records_to_come, record_limit, Serves, IsEnding, ReportsRecords, RecordsPart}
use Rattle.mls_gate.specs.GateSteps.{IsReady, verdict_at, Replies, AnswersIn, Answered, StopsAnswering}
use Rattle.mls_gate.specs.Phases.{Phase, Opening}
use Rattle.mls_gate.proofs.Rising.{ready-reached, reached-all, reached-none}

-- ---- one turn more

AreAnswered-snoc : (p : Phase) (ts : List Turn) (t : Turn) → AreAnswered p ts → Answers (phase_after p ts) t.body (Goes t.text t.phase) → AreAnswered p (ts ++ t ∷ [])
AreAnswered-snoc p [] t a b = (b, tt)
AreAnswered-snoc p (x ∷ ts) t a b = (a.0, AreAnswered-snoc x.phase ts t a.1 b)

phase_after-snoc : (p : Phase) (ts : List Turn) (t : Turn) → phase_after p (ts ++ t ∷ []) ≡ t.phase
phase_after-snoc p [] t = refl
phase_after-snoc p (x ∷ ts) t = phase_after-snoc x.phase ts t

answers-snoc : (ts : List Turn) (t : Turn) → answers (ts ++ t ∷ []) ≡ answers ts ++ t.text
answers-snoc [] t = append-nil t.text
answers-snoc (x ∷ ts) t = ap (λ l. x.text ++ l) (answers-snoc ts t) ∙ sym (append_assoc x.text (answers ts) t.text)

records-snoc : (ts : List Turn) (t : Turn) (records read : List ℕ) → AreRecords (map (λ turn. turn.body) ts) records → IsRecord read t.body
    → AreRecords (map (λ turn. turn.body) (ts ++ t ∷ [])) (records ++ read)
records-snoc [] t records read none r = (read, [], r, refl, ap (λ l. l ++ read) none ∙ sym (append-nil read))
records-snoc (x ∷ ts) t records read p r =
    (p.0, p.1 ++ read, p.2, records-snoc ts t p.1 read p.3 r, ap (λ l. l ++ read) p.4 ∙ append_assoc p.0 p.1 read)

-- bytes were read behind the records so far
serves-read : (p : Phase) (r0 r1 r2 : Option (List ℕ)) (ts : List Turn) (rest : List ℕ) → Serves p r0 r1 ts [] → Consumes r1 r2 rest → Serves p r0 r2 ts rest
serves-read p r0 r1 r2 ts rest f read = record {
  answered = f.answered;
  bounded = f.bounded;
  records = f.records;
  are_records = f.are_records;
  all_read = subst (Consumes r0 r2) (ap (λ l. l ++ rest) (append-nil f.records)) (Consumes-trans r0 r1 r2 _ _ f.all_read read);
}

-- a record was read behind them, and answered
serves-snoc : (p : Phase) (r0 r1 r2 : Option (List ℕ)) (ts : List Turn) (t : Turn) (read : List ℕ) → Serves p r0 r1 ts [] → length ts < record_limit
    → IsRecord read t.body → Consumes r1 r2 read → Answers (phase_after p ts) t.body (Goes t.text t.phase) → Serves p r0 r2 (ts ++ t ∷ []) []
serves-snoc p r0 r1 r2 ts t read f below r taken answered = record {
  answered = AreAnswered-snoc p ts t f.answered answered;
  bounded = omega (arith, length-append ts (t ∷ []));
  records = f.records ++ read;
  are_records = records-snoc ts t f.records read f.are_records r;
  all_read = subst (Consumes r0 r2) (ap (λ l. l ++ read) (append-nil f.records) ∙ sym (append-nil (f.records ++ read))) (Consumes-trans r0 r1 r2 _ _ f.all_read taken);
}

-- ---- the records so far

-- they were answered, nothing was read behind them, and so many may still come
pub record SoFar (p : Phase) (r0 r1 w0 w1 : Option (List ℕ)) (now : Option Phase) (most : ℕ) : Type 0 where
  pub turns : List Turn
  pub serves : Serves p r0 r1 turns []
  pub wrote : Appends w0 w1 (answers turns)
  pub is : now ≡ Some (phase_after p turns)
  pub count : most + length turns ≡ record_limit

pub so_far-none : (p : Phase) (r w : Option (List ℕ)) (now : Option Phase) (most : ℕ) → now ≡ Some p → most ≡ record_limit
    → SoFar p r r w w now most
so_far-none p r w now most is all = record {
  turns = [];
  serves = record { answered = tt; bounded = omega arith; records = []; are_records = refl; all_read = Consumes-nil r };
  wrote = Appends-nil w;
  is = is;
  count = omega arith;
}

-- the gate is ready if it was at its opening
pub ready-so_far : (i : Inputs) (time : Option ℕ) (G : VerifyFn) (r0 r1 w0 w1 : Option (List ℕ)) (now : Option Phase) (most : ℕ) → IsReady (Some (Opening i time G))
    → SoFar (Opening i time G) r0 r1 w0 w1 now most → IsReady now
ready-so_far i time G r0 r1 w0 w1 now most r f =
    subst IsReady (sym f.is) (ready-reached i G time r (phase_after (Opening i time G) f.turns) (reached-all i G (Opening i time G) f.turns (reached-none i G time) f.serves.answered))

module _ (p : Phase) (r0 r1 r2 w0 w1 : Option (List ℕ)) (now : Option Phase) (most new : ℕ) (f : SoFar p r0 r1 w0 w1 now most) (body read : List ℕ) (one : most ≡ new + 1)
    (is_record : IsRecord read body) (taken : Consumes r1 r2 read) (after : Option Phase) (w2 : Option (List ℕ)) where
  abbrev here : Phase
  here = phase_after p f.turns

  fewer : length f.turns < record_limit
  fewer = let count = f.count in omega arith

  abbrev turn-of : (text : List ℕ) → Phase → Turn
  turn-of text phase = record { body = body; text = text; phase = phase }

  with-turn : (text : List ℕ) (phase : Phase) → Answers here body (Goes text phase) → Serves p r0 r2 (f.turns ++ turn-of text phase ∷ []) []
  with-turn text phase answers = serves-snoc p r0 r1 r2 f.turns (turn-of text phase) read f.serves fewer is_record taken answers

  in-phase : (text : List ℕ) (last : Bool) → Replies (AnswersIn now body) text last after → Replies (Answers here body) text last after
  in-phase text last r = subst (λ (o : Option Phase). Replies (AnswersIn o body) text last after) f.is r

  pub so_far-snoc : Answered (AnswersIn now body) after w1 w2 false → SoFar p r0 r2 w0 w2 after new
  so_far-snoc printed =
      let g = in-phase printed.text false printed.replies in
      let t = turn-of printed.text g.0 in
      let count = f.count in
      record {
        turns = f.turns ++ t ∷ [];
        serves = with-turn printed.text g.0 g.1;
        wrote = subst (Appends w0 w2) (sym (answers-snoc f.turns t)) (Appends-trans w0 w1 w2 _ _ f.wrote printed.wrote);
        is = g.2 ∙ ap (λ (q : Phase). Some q) (sym (phase_after-snoc p f.turns t));
        count = omega (arith, length-append f.turns (t ∷ []));
      }

  ending : (text : List ℕ) → Answers here body (Ends text) → IsEnding here (records_to_come f.turns) read r2 text No
  ending text answers =
      let less = fewer in
      inr (inr (record { body = body; allowed = omega arith; is_record = is_record; answers = answers; verdict_is = refl }))

  pub printed-last : Answered (AnswersIn now body) after w1 w2 true → ReportsRecords p r0 r2 w0 w2 No
  printed-last printed = record {
    turns = f.turns;
    rest = read;
    text = printed.text;
    serves = serves-read p r0 r1 r2 f.turns read f.serves taken;
    ending = ending printed.text (in-phase printed.text true printed.replies);
    wrote = Appends-trans w0 w1 w2 _ _ f.wrote printed.wrote;
  }

  -- the output failed in the answer
  in-answer : (text : List ℕ) (last : Bool) → Replies (Answers here body) text last after → AppendsPrefix w1 w2 text → RecordsPart p r0 r2 w0 w2 Write
  in-answer text false r part = inl (record {
    turns = f.turns;
    last = turn-of text r.0;
    serves = with-turn text r.0 r.1;
    part = part.0;
    more = part.1;
    text_is = part.2;
    wrote = Appends-trans w0 w1 w2 _ _ f.wrote part.3;
  })
  in-answer text true r part = inr (record {
    turns = f.turns;
    rest = read;
    text = text;
    verdict = No;
    serves = serves-read p r0 r1 r2 f.turns read f.serves taken;
    ending = ending text r;
    part = part.0;
    more = part.1;
    text_is = part.2;
    wrote = Appends-trans w0 w1 w2 _ _ f.wrote part.3;
  })

  pub part-record : (e : RunFault) → StopsAnswering (AnswersIn now body) after w1 w2 e → RecordsPart p r0 r2 w0 w2 e
  part-record Read stops = absurd stops
  part-record Write stops = in-answer stops.text stops.last (in-phase stops.text stops.last stops.replies) stops.wrote
  part-record Memory (inl stops) = inl (record {
    turns = f.turns;
    rest = read;
    serves = serves-read p r0 r1 r2 f.turns read f.serves taken;
    left_over = inr (inl (body, is_record));
    wrote = subst (Appends w0 w2) (append-nil (answers f.turns)) (Appends-trans w0 w1 w2 _ _ f.wrote stops);
  })
  part-record Memory (inr stops) =
      let text = query_text stops.known (stops.front ++ stops.rest) in
      let g = in-phase text false stops.replies in
      inr (record {
        turns = f.turns;
        last = turn-of text g.0;
        serves = with-turn text g.0 g.1;
        known = stops.known;
        front = stops.front;
        rest = stops.rest;
        text_is = refl;
        wrote = Appends-trans w0 w1 w2 _ _ f.wrote stops.wrote;
      })

-- ---- where it stops

-- so many may still come
still : (ts : List Turn) (most : ℕ) → most + length ts ≡ record_limit → most ≡ records_to_come ts
still ts most count = omega arith

module _ (p : Phase) (r0 r1 r2 w0 w1 : Option (List ℕ)) (now : Option Phase) (most : ℕ) (f : SoFar p r0 r1 w0 w1 now most) where
  pub part-read : (e : RunFault) → ReadsUndecided r1 r2 most → e ≢ Write → RecordsPart p r0 r2 w0 w1 e
  part-read Read u other = record {
    turns = f.turns;
    rest = u.rest;
    serves = serves-read p r0 r1 r2 f.turns u.rest f.serves u.read;
    undecided = subst (λ k. IsIncomplete k u.rest) (still f.turns most f.count) u.undecided;
    wrote = f.wrote;
  }
  part-read Write u other = absurd (other refl)
  part-read Memory u other = inl (record {
    turns = f.turns;
    rest = u.rest;
    serves = serves-read p r0 r1 r2 f.turns u.rest f.serves u.read;
    left_over = inl (subst (λ k. IsIncomplete k u.rest) (still f.turns most f.count) u.undecided);
    wrote = f.wrote;
  })

  pub printed-end : (verdict : Verdict) (read : List ℕ) → verdict ≡ verdict_at now → Consumes r1 r2 read → IsLogEnd most read r2 false → ReportsRecords p r0 r2 w0 w1 verdict
  printed-end verdict read v consumed end = record {
    turns = f.turns;
    rest = read;
    text = [];
    serves = serves-read p r0 r1 r2 f.turns read f.serves consumed;
    ending = inl (record { nothing_read = end.0; at_end = end.1; no_text = refl; verdict_is = v ∙ ap verdict_at f.is });
    wrote = subst (Appends w0 w1) (sym (append-nil (answers f.turns))) f.wrote;
  }

  module _ (read : List ℕ) (consumed : Consumes r1 r2 read) (broken : IsBrokenAt most read r2) (w2 : Option (List ℕ)) where
    is-broken : IsEnding (phase_after p f.turns) (records_to_come f.turns) read r2 broken_line No
    is-broken = inr (inl (record {
      broken = subst (λ k. IsBrokenAt k read r2) (still f.turns most f.count) broken;
      text_is = refl;
      verdict_is = refl;
    }))

    pub printed-broken : Appends w1 w2 broken_line → ReportsRecords p r0 r2 w0 w2 No
    printed-broken wrote = record {
      turns = f.turns;
      rest = read;
      text = broken_line;
      serves = serves-read p r0 r1 r2 f.turns read f.serves consumed;
      ending = is-broken;
      wrote = Appends-trans w0 w1 w2 _ _ f.wrote wrote;
    }

    pub in-broken : AppendsPrefix w1 w2 broken_line → RecordsPart p r0 r2 w0 w2 Write
    in-broken part = inr (record {
      turns = f.turns;
      rest = read;
      text = broken_line;
      verdict = No;
      serves = serves-read p r0 r1 r2 f.turns read f.serves consumed;
      ending = is-broken;
      part = part.0;
      more = part.1;
      text_is = part.2;
      wrote = Appends-trans w0 w1 w2 _ _ f.wrote part.3;
    })

-- a call that fails only in its output
pub write-part : {T A : Type 0} (r : Result T RunFault) (P : RunFault → Type 0) → OnErr r A → (A → P Write) → IfErr r (λ e. e ≡ Write) → IfErr r P
write-part (Ok x) P part of_part own = tt
write-part (Err e) P part of_part own = subst P (sym own) (of_part part)
