-- A replay, message by message.
use Rattle.std.proofs.Common.{◌≡◌, ◌≢◌, ℕ, ◌+◌, ◌<◌, List, [], ◌∷◌, ◌++◌, length, map, Ok, Err, Result, Bool, refl, sym, ap, ◌∙◌, subst, append_assoc, append-nil, length-append, arith, inl, inr, is_ok}
use Rattle.std.specs.Prelude.{Option, Some, None, IfErr, OnErr, if◌then◌else◌}
use Rattle.std.specs.Io.KnownBytes.{Appends, Consumes}
use Rattle.mls_wire.specs.Devices.{AppendsPrefix}
use Rattle.mls_wire.proofs.KnownBytes.{Appends-trans, Consumes-trans}
use Rattle.mls_wire.specs.Logs.{IsRecord}
use Rattle.mls_check.specs.Signatures.{VerifyFn}
use Rattle.mls_follow.specs.State.{State}
use Rattle.mls_follow.specs.TimedAnswers.{IsAnswerAt}
use Rattle.mls_wire.specs.declared.fault.RunFault.{RunFault}
use Rattle.mls_wire.specs.declared.fault.RunFault.TheVariants.{Read, Write, Memory}
use Rattle.mls_show.specs.declared.verdict.Verdict.{Verdict}
use Rattle.mls_show.specs.declared.verdict.Verdict.TheVariants.{Yes, No}
use Rattle.mls_start.specs.Inputs.{Inputs}
use Rattle.mls_start.specs.StartFindings.{IsFirstState, Declines}
use Rattle.mls_start.specs.declared.finding.Finding.{Finding}
use Rattle.mls_report.specs.Replay.{ProcessedMessage, AreProcessed, state_after, processed_line, processed_lines, one_if, accepted_count, refused_count, message_limit, messages_to_come, AreRecords, IsLogEnd, Follows, ReportsPart, IsVerdict, last_lines, ending, ReportsDecline, ReportsReplay, StopsInDecline, ReplaysPart}
use Rattle.mls_report.specs.ReplaySteps.{ReportsMessage, StopsAtMessage, FollowsLog, ReplaysLog}
use Rattle.mls_report.specs.Finding.{finding_line, finding_verdict}

-- ---- one turn more

AreProcessed-snoc : (time : Option ℕ) (G : VerifyFn) (s : State) (ts : List ProcessedMessage) (t : ProcessedMessage) → AreProcessed time G s ts → IsAnswerAt time G (state_after s ts) t.bytes t.answer t.state → AreProcessed time G s (ts ++ t ∷ [])
AreProcessed-snoc time G s [] t a b = (b, tt)
AreProcessed-snoc time G s (x ∷ ts) t a b = (a.0, AreProcessed-snoc time G x.state ts t a.1 b)

pub state_after-snoc : (s : State) (ts : List ProcessedMessage) (t : ProcessedMessage) → state_after s (ts ++ t ∷ []) ≡ t.state
state_after-snoc s [] t = refl
state_after-snoc s (x ∷ ts) t = state_after-snoc x.state ts t

lines-snoc : (n : ℕ) (ts : List ProcessedMessage) (t : ProcessedMessage) (k : ℕ) → k ≡ n + length ts → processed_lines n (ts ++ t ∷ []) ≡ processed_lines n ts ++ processed_line k t
lines-snoc n [] t k e =
    let same : n ≡ k = omega arith in
    append-nil (processed_line n t) ∙ ap (λ i. processed_line i t) same
lines-snoc n (x ∷ ts) t k e =
    ap (λ l. processed_line n x ++ l) (lines-snoc (n + 1) ts t k (omega arith))
    ∙ sym (append_assoc (processed_line n x) (processed_lines (n + 1) ts) (processed_line k t))

accepted-snoc : (ts : List ProcessedMessage) (t : ProcessedMessage) → accepted_count (ts ++ t ∷ []) ≡ accepted_count ts + one_if (is_ok t.answer)
accepted-snoc [] t = omega arith
accepted-snoc (x ∷ ts) t = omega (arith, accepted-snoc ts t)

records-snoc : (ts : List ProcessedMessage) (t : ProcessedMessage) (records read : List ℕ) → AreRecords (map (λ turn. turn.bytes) ts) records → IsRecord read t.bytes
    → AreRecords (map (λ turn. turn.bytes) (ts ++ t ∷ [])) (records ++ read)
records-snoc [] t records read none r = (read, [], r, refl, ap (λ l. l ++ read) none ∙ sym (append-nil read))
records-snoc (x ∷ ts) t records read p r =
    (p.0, p.1 ++ read, p.2, records-snoc ts t p.1 read p.3 r, ap (λ l. l ++ read) p.4 ∙ append_assoc p.0 p.1 read)

-- the messages so far were taken and told, and nothing was read behind them
pub record SoFar (time : Option ℕ) (G : VerifyFn) (s : State) (log0 log1 written0 written1 : Option (List ℕ)) (ts : List ProcessedMessage) (now : State) : Type 0 where
  pub follows : Follows time G s log0 log1 ts []
  pub wrote : Appends written0 written1 (processed_lines 1 ts)
  pub state : now ≡ state_after s ts

-- bytes were read behind the messages so far
pub follows-read : (time : Option ℕ) (G : VerifyFn) (s : State) (l0 l1 l2 : Option (List ℕ)) (ts : List ProcessedMessage) (rest : List ℕ)
    → Follows time G s l0 l1 ts [] → Consumes l1 l2 rest → Follows time G s l0 l2 ts rest
follows-read time G s l0 l1 l2 ts rest f read = record {
  taken = f.taken;
  bounded = f.bounded;
  records = f.records;
  are_records = f.are_records;
  log_read = subst (Consumes l0 l2) (ap (λ l. l ++ rest) (append-nil f.records)) (Consumes-trans l0 l1 l2 _ _ f.log_read read);
}

-- a record was read behind them, and its message taken
pub follows-snoc : (time : Option ℕ) (G : VerifyFn) (s : State) (l0 l1 l2 : Option (List ℕ)) (ts : List ProcessedMessage) (t : ProcessedMessage) (read : List ℕ)
    → Follows time G s l0 l1 ts [] → length ts < message_limit → IsRecord read t.bytes → Consumes l1 l2 read
    → IsAnswerAt time G (state_after s ts) t.bytes t.answer t.state → Follows time G s l0 l2 (ts ++ t ∷ []) []
follows-snoc time G s l0 l1 l2 ts t read f below r taken is_answer = record {
  taken = AreProcessed-snoc time G s ts t f.taken is_answer;
  bounded = omega (arith, length-append ts (t ∷ []));
  records = f.records ++ read;
  are_records = records-snoc ts t f.records read f.are_records r;
  log_read = subst (Consumes l0 l2) (ap (λ l. l ++ read) (append-nil f.records) ∙ sym (append-nil (f.records ++ read))) (Consumes-trans l0 l1 l2 _ _ f.log_read taken);
}

pub Consumes-nil : (a : Option (List ℕ)) → Consumes a a []
Consumes-nil None = tt
Consumes-nil (Some x) = refl

pub Appends-nil : (a : Option (List ℕ)) → Appends a a []
Appends-nil None = tt
Appends-nil (Some x) = sym (append-nil x)

pub so_far-none : (time : Option ℕ) (G : VerifyFn) (s : State) (l w : Option (List ℕ)) → SoFar time G s l l w w [] s
so_far-none time G s l w = record {
  follows = record { taken = tt; bounded = omega arith; records = []; are_records = refl; log_read = Consumes-nil l };
  wrote = Appends-nil w;
  state = refl;
}

pub so_far-snoc :
    (time : Option ℕ) (G : VerifyFn) (s : State) (l0 l1 l2 w0 w1 w2 : Option (List ℕ)) (ts : List ProcessedMessage) (now : State) (n : ℕ) (body : List ℕ) (read : List ℕ) (new : State) (b : Bool)
    → SoFar time G s l0 l1 w0 w1 ts now → n ≡ 1 + length ts → length ts < message_limit → IsRecord read body → Consumes l1 l2 read
    → (printed : ReportsMessage time G now n body new w1 w2 b)
    → SoFar time G s l0 l2 w0 w2 (ts ++ record { bytes = body; answer = printed.answer; state = new } ∷ []) new
so_far-snoc time G s l0 l1 l2 w0 w1 w2 ts now n body read new b f count below r taken printed =
    let t : ProcessedMessage = record { bytes = body; answer = printed.answer; state = new } in
    record {
      follows = follows-snoc time G s l0 l1 l2 ts t read f.follows below r taken (subst (λ (st : State). IsAnswerAt time G st body printed.answer new) f.state printed.is_answer);
      wrote = subst (Appends w0 w2) (sym (lines-snoc 1 ts t n count)) (Appends-trans w0 w1 w2 _ _ f.wrote printed.wrote);
      state = sym (state_after-snoc s ts t);
    }

pub accepted-more : (ts : List ProcessedMessage) (t : ProcessedMessage) (old new : ℕ) (b : Bool) → old ≡ accepted_count ts → b ≡ is_ok t.answer → new ≡ old + one_if b → new ≡ accepted_count (ts ++ t ∷ [])
accepted-more ts t old new b p q e = e ∙ ap (λ k. k + one_if b) p ∙ ap (λ c. accepted_count ts + one_if c) q ∙ sym (accepted-snoc ts t)

-- ---- where it stops

-- so many may still come
pub still : (ts : List ProcessedMessage) (most : ℕ) → most + length ts ≡ message_limit → most ≡ messages_to_come ts
still ts most e = omega arith

pub part-turn : (time : Option ℕ) (G : VerifyFn) (s : State) (l0 l1 l2 w0 w1 w2 : Option (List ℕ)) (ts : List ProcessedMessage) (now : State) (n : ℕ) (body read : List ℕ) (e : RunFault)
    → SoFar time G s l0 l1 w0 w1 ts now → n ≡ 1 + length ts → length ts < message_limit → IsRecord read body → Consumes l1 l2 read
    → StopsAtMessage time G now n body w1 w2 e → ReportsPart time G s l0 l2 w0 w2 e
part-turn time G s l0 l1 l2 w0 w1 w2 ts now n body read Read f count below r taken stops = absurd stops
part-turn time G s l0 l1 l2 w0 w1 w2 ts now n body read Write f count below r taken stops =
    let t : ProcessedMessage = record { bytes = body; answer = stops.answer; state = stops.new } in
    let same : n ≡ length ts + 1 = omega arith in
    inl (record {
      turns = ts;
      last = t;
      follows = follows-snoc time G s l0 l1 l2 ts t read f.follows below r taken (subst (λ (st : State). IsAnswerAt time G st body stops.answer stops.new) f.state stops.is_answer);
      part = stops.wrote.0;
      more = stops.wrote.1;
      line_is = ap (λ k. processed_line k t) (sym same) ∙ stops.wrote.2;
      wrote = Appends-trans w0 w1 w2 _ _ f.wrote stops.wrote.3;
    })
part-turn time G s l0 l1 l2 w0 w1 w2 ts now n body read Memory f count below r taken stops = record {
  turns = ts;
  rest = read;
  follows = follows-read time G s l0 l1 l2 ts read f.follows taken;
  left_over = inr (inl (body, r));
  wrote = subst (Appends w0 w2) (append-nil (processed_lines 1 ts)) (Appends-trans w0 w1 w2 _ _ f.wrote stops);
}

pub followed : (time : Option ℕ) (G : VerifyFn) (s : State) (l0 l1 l2 w0 w1 : Option (List ℕ)) (ts : List ProcessedMessage) (now : State) (a r most : ℕ) (read : List ℕ) (broken : Bool)
    → SoFar time G s l0 l1 w0 w1 ts now → a ≡ accepted_count ts → a + r ≡ length ts → most + length ts ≡ message_limit → Consumes l1 l2 read
    → IsLogEnd most read l2 broken → FollowsLog time G s l0 l2 w0 w1 now a r broken
followed time G s l0 l1 l2 w0 w1 ts now a r most read broken f taken counted count consumed end = record {
  turns = ts;
  rest = read;
  follows = follows-read time G s l0 l1 l2 ts read f.follows consumed;
  log_end = subst (λ k. IsLogEnd k read l2 broken) (still ts most count) end;
  wrote = f.wrote;
  state = f.state;
  taken = taken;
  counted = counted;
}

-- ---- the last lines

ending-is : (s now : State) (ts : List ProcessedMessage) (a r : ℕ) (broken : Bool) → now ≡ state_after s ts → a ≡ accepted_count ts → a + r ≡ length ts
    → last_lines broken a r now.context.epoch ≡ ending broken s ts
ending-is s now ts a r broken state taken counted =
    let refused : r ≡ refused_count ts = omega arith in
    ap (λ k. last_lines broken k r now.context.epoch) taken
    ∙ ap (λ k. last_lines broken (accepted_count ts) k now.context.epoch) refused
    ∙ ap (λ (st : State). last_lines broken (accepted_count ts) (refused_count ts) st.context.epoch) state

pub printed-log : (time : Option ℕ) (G : VerifyFn) (s : State) (l0 l1 w0 w1 w2 : Option (List ℕ)) (now : State) (a r : ℕ) (broken : Bool) (verdict : Verdict)
    → FollowsLog time G s l0 l1 w0 w1 now a r broken → Appends w1 w2 (last_lines broken a r now.context.epoch) → IsVerdict broken r verdict
    → ReplaysLog time G s l0 l1 w0 w2 verdict now
printed-log time G s l0 l1 w0 w1 w2 now a r broken verdict f wrote v =
    let taken = f.taken in
    let counted = f.counted in
    let refused : r ≡ refused_count f.turns = omega arith in (
      record {
        turns = f.turns;
        rest = f.rest;
        broken = broken;
        follows = f.follows;
        log_end = f.log_end;
        wrote = subst (λ text. Appends w0 w2 (processed_lines 1 f.turns ++ text)) (ending-is s now f.turns a r broken f.state f.taken f.counted) (Appends-trans w0 w1 w2 _ _ f.wrote wrote);
        verdict_is = subst (λ k. IsVerdict broken k verdict) refused v;
      },
      f.state,
    )

pub part-ending : (time : Option ℕ) (G : VerifyFn) (s : State) (l0 l1 w0 w1 w2 : Option (List ℕ)) (now : State) (a r : ℕ) (broken : Bool)
    → FollowsLog time G s l0 l1 w0 w1 now a r broken → AppendsPrefix w1 w2 (last_lines broken a r now.context.epoch) → ReportsPart time G s l0 l1 w0 w2 Write
part-ending time G s l0 l1 w0 w1 w2 now a r broken f p = inr (record {
  turns = f.turns;
  rest = f.rest;
  broken = broken;
  follows = f.follows;
  log_end = f.log_end;
  part = p.0;
  more = p.1;
  ending_is = sym (ending-is s now f.turns a r broken f.state f.taken f.counted) ∙ p.2;
  wrote = Appends-trans w0 w1 w2 _ _ f.wrote p.3;
})

-- ---- one line

-- what holds where one line was not written whole
pub line-part :
    {A B : Type 0} (r : Result Verdict RunFault) (P : RunFault → Type 0) → OnErr r A → (A → P Write) → (r ≡ Err Memory → B) → (B → P Memory)
    → IfErr r (λ e. e ≢ Read) → IfErr r P
line-part (Ok verdict) P part of_part memory of_memory own = tt
line-part (Err Read) P part of_part memory of_memory own = absurd (own refl)
line-part (Err Write) P part of_part memory of_memory own = of_part part
line-part (Err Memory) P part of_part memory of_memory own = of_memory (memory refl)

-- ---- a follower has started or resumed, or none has

pub replays-to : (time : Option ℕ) (G : VerifyFn) (i : Inputs) (K : VerifyFn) → K ≡ G → (s : State) → IsFirstState G i s → (l0 l1 w0 w1 : Option (List ℕ)) (verdict : Verdict) (last : State)
    → ReplaysLog time K s l0 l1 w0 w1 verdict last → ReportsReplay time G i l0 l1 w0 w1 verdict last
replays-to time G i K same s starts l0 l1 w0 w1 verdict last h =
    let moved : ReplaysLog time G s l0 l1 w0 w1 verdict last = subst (λ (g : VerifyFn). ReplaysLog time g s l0 l1 w0 w1 verdict last) same h in
    record { state = s; starts = starts; reports = moved.0; last_is = moved.1 }

pub replay-stops : (time : Option ℕ) (G : VerifyFn) (i : Inputs) (K : VerifyFn) → K ≡ G → (s : State) → IsFirstState G i s → (l0 l1 w0 w1 : Option (List ℕ)) (fault : RunFault)
    → ReportsPart time K s l0 l1 w0 w1 fault → ReplaysPart time G i l0 l1 w0 w1 fault
replay-stops time G i K same s starts l0 l1 w0 w1 fault part =
    inr (record {
      state = s;
      starts = starts;
      reports = subst (λ (g : VerifyFn). ReportsPart time g s l0 l1 w0 w1 fault) same part;
    })

module _ {L : Type 0} (G : VerifyFn) (i : Inputs) (finding : Finding) (declines : Declines G i finding) (l : L) (w0 w1 : Option (List ℕ)) where
  pub reports-decline : (verdict : Verdict) → Appends w0 w1 (finding_line finding) × (verdict ≡ finding_verdict finding) → ReportsDecline G i l l w0 w1 verdict
  reports-decline verdict printed = record {
    finding = finding;
    declines = declines;
    unread = refl;
    wrote = printed.0;
    verdict_is = printed.1 ∙ ap (λ (b : Bool). if b then Yes else No) declines.not_valid;
  }

  pub in-decline : AppendsPrefix w0 w1 (finding_line finding) → StopsInDecline G i l l w0 w1
  in-decline wrote = record { finding = finding; declines = declines; unread = refl; wrote = wrote }

-- no follower has started or resumed, and the line that says why was not written whole
pub decline-part : (time : Option ℕ) (G : VerifyFn) (i : Inputs) (finding : Finding) → Declines G i finding → (l w0 w1 : Option (List ℕ)) (r : Result Verdict RunFault)
    → OnErr r (AppendsPrefix w0 w1 (finding_line finding)) → (r ≡ Err Memory → Appends w0 w1 []) → IfErr r (λ e. e ≢ Read) → IfErr r (ReplaysPart time G i l l w0 w1)
decline-part time G i finding declines l w0 w1 r part memory own =
    line-part r (ReplaysPart time G i l l w0 w1) part (λ p. inl (in-decline G i finding declines l w0 w1 p)) memory (λ none. inl (record { unread = refl; wrote = none })) own
