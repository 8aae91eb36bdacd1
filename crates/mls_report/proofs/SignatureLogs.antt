-- What the messages of a log want, message by message.
use Rattle.std.proofs.Common.{◌≡◌, ◌≢◌, ◌∙◌, ℕ, ◌+◌, ◌<◌, List, [], ◌∷◌, ◌++◌, length, Bool, true, false, Option, Some, None, Result, Ok, Err, refl, sym, ap, subst, append_assoc, append-nil, arith, inl, inr}
use Rattle.std.specs.Prelude.{◌&&◌, codes, is_some, IfErr, OnErr}
use Rattle.std.specs.Io.KnownBytes.{Appends, Consumes}
use Rattle.mls_wire.specs.Devices.{AppendsPrefix}
use Rattle.mls_wire.proofs.KnownBytes.{Appends-trans}
use Rattle.mls_wire.specs.Logs.{IsRecord, IsBrokenAt}
use Rattle.std.specs.Fmt.{decimal}
use Rattle.mls_check.specs.Signatures.{VerifyFn}
use Rattle.mls_follow.specs.TimedAnswers.{IsAnswerAt}
use Rattle.mls_follow.specs.State.{State}
use Rattle.mls_apply.specs.declared.refusal.Refusal.{Refusal}
use Rattle.mls_follow.specs.declared.taken.Taken.{Taken}
use Rattle.mls_signatures.specs.declared.signature_to_verify.SignatureToVerify.{SignatureToVerify}
use Rattle.mls_report.specs.Replay.{ProcessedMessage, Follows, IsLogEnd, message_limit, state_after, messages_to_come}
use Rattle.mls_follow.specs.CoveredLogs.{all_good}
use Rattle.mls_report.specs.SignaturesReport.{HasSignatures, LoggedMessage, turns_of, HaveSignatures, signature_lines, needed_lines, log_lines, all_read, break_line, ProcessesLog, ReportsSignatureLog, SignatureLogPart}
use Rattle.mls_report.specs.SignaturesSteps.{WritesSignatures, StopsInLines, StopsInMessage, StopsInMessageLines}
use Rattle.mls_wire.specs.declared.fault.RunFault.{RunFault}
use Rattle.mls_wire.specs.declared.fault.RunFault.TheVariants.{Read, Write, Memory}
use Rattle.mls_show.specs.declared.verdict.Verdict.{Verdict}
use Rattle.mls_show.specs.declared.verdict.Verdict.TheVariants.{No}
use Rattle.mls_report.proofs.Replaying.{state_after-snoc, follows-read, follows-snoc, Consumes-nil, Appends-nil}

-- ---- one message more

turns-snoc : (ms : List LoggedMessage) (a : LoggedMessage) → turns_of (ms ++ a ∷ []) ≡ turns_of ms ++ a.turn ∷ []
turns-snoc [] a = refl
turns-snoc (x ∷ ms) a = ap (λ (ts : List ProcessedMessage). x.turn ∷ ts) (turns-snoc ms a)

turns-length : (ms : List LoggedMessage) → length (turns_of ms) ≡ length ms
turns-length [] = refl
turns-length (x ∷ ms) = omega (arith, turns-length ms)

has_signatures-snoc : (s : State) (ms : List LoggedMessage) (a : LoggedMessage) → HaveSignatures s ms → HasSignatures (state_after s (turns_of ms)) a.turn.bytes a.needed → HaveSignatures s (ms ++ a ∷ [])
has_signatures-snoc s [] a all own = (own, tt)
has_signatures-snoc s (x ∷ ms) a all own = (all.0, has_signatures-snoc x.turn.state ms a all.1 own)

lines-snoc : (R : VerifyFn) (n : ℕ) (ms : List LoggedMessage) (a : LoggedMessage) (k : ℕ) → k ≡ n + length ms
    → log_lines R n (ms ++ a ∷ []) ≡ log_lines R n ms ++ signature_lines R k a.needed
lines-snoc R n [] a k e =
    let same : n ≡ k = omega arith in
    append-nil (signature_lines R n a.needed) ∙ ap (λ i. signature_lines R i a.needed) same
lines-snoc R n (x ∷ ms) a k e =
    ap (λ l. signature_lines R n x.needed ++ l) (lines-snoc R (n + 1) ms a k (omega arith))
    ∙ sym (append_assoc (signature_lines R n x.needed) (log_lines R (n + 1) ms) (signature_lines R k a.needed))

and-true : (b : Bool) → (b && true) ≡ b
and-true true = refl
and-true false = refl

and-last : (b c d : Bool) → (b && (c && d)) ≡ ((b && c) && d)
and-last true c d = refl
and-last false c d = refl

read-snoc : (ms : List LoggedMessage) (a : LoggedMessage) → all_read (ms ++ a ∷ []) ≡ (all_read ms && is_some a.needed)
read-snoc [] a = and-true (is_some a.needed)
read-snoc (x ∷ ms) a =
    ap (λ (b : Bool). is_some x.needed && b) (read-snoc ms a) ∙ and-last (is_some x.needed) (all_read ms) (is_some a.needed)

pub read-more : (ms : List LoggedMessage) (a : LoggedMessage) (old own : Bool) → old ≡ all_read ms → own ≡ is_some a.needed → (old && own) ≡ all_read (ms ++ a ∷ [])
read-more ms a old own p q = (λ i. p i && q i) ∙ sym (read-snoc ms a)

-- what the messages so far want was told, and nothing was read behind them
pub record SignatureLogSoFar (R : VerifyFn) (s : State) (log0 log1 written0 written1 : Option (List ℕ)) (ms : List LoggedMessage) (now : State) : Type 0 where
  pub processes : ProcessesLog s log0 log1 ms []
  pub wrote : Appends written0 written1 (log_lines R 1 ms)
  pub state : now ≡ state_after s (turns_of ms)

processes-read : (s : State) (l0 l1 l2 : Option (List ℕ)) (ms : List LoggedMessage) (rest : List ℕ) → ProcessesLog s l0 l1 ms [] → Consumes l1 l2 rest → ProcessesLog s l0 l2 ms rest
processes-read s l0 l1 l2 ms rest f read = record { follows = follows-read None all_good s l0 l1 l2 (turns_of ms) rest f.follows read; has_signatures = f.has_signatures }

pub so_far-none : (R : VerifyFn) (s : State) (l w : Option (List ℕ)) → SignatureLogSoFar R s l l w w [] s
so_far-none R s l w = record {
  processes = record {
    follows = record { taken = tt; bounded = omega arith; records = []; are_records = refl; log_read = Consumes-nil l };
    has_signatures = tt;
  };
  wrote = Appends-nil w;
  state = refl;
}

module _ (R : VerifyFn) (s : State) (l0 l1 l2 w0 w1 : Option (List ℕ)) (ms : List LoggedMessage) (now : State) (n : ℕ) (body read : List ℕ)
    (f : SignatureLogSoFar R s l0 l1 w0 w1 ms now) (count : n ≡ 1 + length ms) (below : length ms < message_limit) (r : IsRecord read body) (taken : Consumes l1 l2 read) where
  module _ (needed : Option (List SignatureToVerify)) (answer : Result Taken Refusal) (new : State) where
    -- a message that was taken, and what it wants
    abbrev pub last : LoggedMessage
    last = record { turn = record { bytes = body; answer = answer; state = new }; needed = needed }

    processes-snoc : HasSignatures now body needed → IsAnswerAt None all_good now body answer new → ProcessesLog s l0 l2 (ms ++ last ∷ []) []
    processes-snoc has_signatures is_answer = record {
      follows =
          subst (λ (ts : List ProcessedMessage). Follows None all_good s l0 l2 ts []) (sym (turns-snoc ms last))
          (follows-snoc None all_good s l0 l1 l2 (turns_of ms) last.turn read f.processes.follows (omega (arith, turns-length ms)) r taken
          (subst (λ (st : State). IsAnswerAt None all_good st body answer new) f.state is_answer));
      has_signatures = has_signatures-snoc s ms last f.processes.has_signatures (subst (λ (st : State). HasSignatures st body needed) f.state has_signatures);
    }

  pub so_far-snoc : (w2 : Option (List ℕ)) (new : State) (b : Bool) (printed : WritesSignatures R now n body new w1 w2 b)
      → SignatureLogSoFar R s l0 l2 w0 w2 (ms ++ last printed.needed printed.answer new ∷ []) new
  so_far-snoc w2 new b printed =
      let a = last printed.needed printed.answer new in
      record {
        processes = processes-snoc printed.needed printed.answer new printed.has_signatures printed.is_answer;
        wrote = subst (Appends w0 w2) (sym (lines-snoc R 1 ms a n count)) (Appends-trans w0 w1 w2 _ _ f.wrote printed.wrote);
        state = sym (state_after-snoc s (turns_of ms) a.turn) ∙ ap (state_after s) (sym (turns-snoc ms a));
      }

  -- memory ran out before the message was processed
  before-message : (w2 : Option (List ℕ)) → Appends w1 w2 [] → SignatureLogPart R s l0 l2 w0 w2 Memory
  before-message w2 none = inl (record {
    logged = ms;
    rest = read;
    processes = processes-read s l0 l1 l2 ms read f.processes taken;
    left_over = inr (inl (body, r));
    wrote = subst (Appends w0 w2) (append-nil (log_lines R 1 ms)) (Appends-trans w0 w1 w2 _ _ f.wrote none);
  })

  -- the lines of the message were not written whole
  in-message :
      (w2 : Option (List ℕ)) (needed : Option (List SignatureToVerify)) (answer : Result Taken Refusal) (new : State) → HasSignatures now body needed → IsAnswerAt None all_good now body answer new
      → (e : RunFault) → StopsInMessageLines R n needed w1 w2 e → SignatureLogPart R s l0 l2 w0 w2 e
  in-message w2 needed answer new has is_answer Read stops = absurd stops
  in-message w2 needed answer new has is_answer Write stops =
      let same : n ≡ length ms + 1 = omega arith in
      inl (record {
        logged = ms;
        last = last needed answer new;
        processes = processes-snoc needed answer new has is_answer;
        part = stops.0;
        more = stops.1;
        lines_are = ap (λ k. signature_lines R k needed) (sym same) ∙ stops.2;
        wrote = Appends-trans w0 w1 w2 _ _ f.wrote stops.3;
      })
  in-message w2 None answer new has is_answer Memory stops = before-message w2 stops
  in-message w2 (Some qs) answer new has is_answer Memory stops = inr (record {
    logged = ms;
    last = record { bytes = body; answer = answer; state = new };
    front = stops.front;
    rest = stops.rest;
    processes =
        processes-snoc (Some (stops.front ++ stops.rest)) answer new
        (subst (λ (ws : List SignatureToVerify). HasSignatures now body (Some ws)) stops.split has) is_answer;
    wrote = Appends-trans w0 w1 w2 _ _ f.wrote stops.wrote;
  })

  pub part-turn : (w2 : Option (List ℕ)) (e : RunFault) → StopsInMessage R now n body w1 w2 e → SignatureLogPart R s l0 l2 w0 w2 e
  part-turn w2 e (inl before) = subst (SignatureLogPart R s l0 l2 w0 w2) (sym before.is_memory) (before-message w2 before.wrote)
  part-turn w2 e (inr stops) = in-message w2 stops.needed stops.answer stops.new stops.has_signatures stops.is_answer e stops.stops

-- ---- the lines of a message

pub lines-of-message : (R : VerifyFn) (n : ℕ) (qs : List SignatureToVerify) (a b : Option (List ℕ)) (e : RunFault) → StopsInLines (needed_lines R) qs a b e
    → StopsInMessageLines R n (Some qs) a b e
lines-of-message R n qs a b Read stops = stops
lines-of-message R n qs a b Write stops = stops
lines-of-message R n qs a b Memory stops = stops

pub line-of-message :
    {T : Type 0} (r : Result T RunFault) (R : VerifyFn) (n : ℕ) (a b : Option (List ℕ)) → OnErr r (AppendsPrefix a b (signature_lines R n None)) → (r ≡ Err Memory → Appends a b [])
    → IfErr r (λ e. e ≢ Read) → IfErr r (StopsInMessageLines R n None a b)
line-of-message (Ok x) R n a b part memory own = tt
line-of-message (Err Read) R n a b part memory own = absurd (own refl)
line-of-message (Err Write) R n a b part memory own = part
line-of-message (Err Memory) R n a b part memory own = memory refl

-- ---- where it stops

still : (ms : List LoggedMessage) (most : ℕ) → most + length ms ≡ message_limit → most ≡ messages_to_come (turns_of ms)
still ms most e = omega (arith, turns-length ms)

module _ (R : VerifyFn) (s : State) (l0 l1 l2 w0 w1 : Option (List ℕ)) (ms : List LoggedMessage) (now : State) (f : SignatureLogSoFar R s l0 l1 w0 w1 ms now)
    (most n : ℕ) (read : List ℕ) (count : most + length ms ≡ message_limit) (number : n ≡ 1 + length ms) (consumed : Consumes l1 l2 read)
    (broken : IsBrokenAt most read l2) (w2 : Option (List ℕ)) where
  line-is : decimal n ++ codes " broken\n" ≡ break_line true (length ms)
  line-is =
      let same : n ≡ length ms + 1 = omega arith in
      ap (λ k. decimal k ++ codes " broken\n") same

  log_end-is : IsLogEnd (messages_to_come (turns_of ms)) read l2 true
  log_end-is = subst (λ k. IsBrokenAt k read l2) (still ms most count) broken

  pub printed-break : (verdict : Verdict) → verdict ≡ No → Appends w1 w2 (decimal n ++ codes " broken\n") → ReportsSignatureLog R s l0 l2 w0 w2 verdict
  printed-break verdict is wrote = record {
    logged = ms;
    rest = read;
    broken = true;
    processes = processes-read s l0 l1 l2 ms read f.processes consumed;
    log_end = log_end-is;
    wrote = Appends-trans w0 w1 w2 _ _ f.wrote (subst (Appends w1 w2) line-is wrote);
    verdict_is = is;
  }

  pub in-break : AppendsPrefix w1 w2 (decimal n ++ codes " broken\n") → SignatureLogPart R s l0 l2 w0 w2 Write
  in-break p = inr (record {
    logged = ms;
    rest = read;
    processes = processes-read s l0 l1 l2 ms read f.processes consumed;
    log_end = log_end-is;
    part = p.0;
    more = p.1;
    line_is = sym line-is ∙ p.2;
    wrote = Appends-trans w0 w1 w2 _ _ f.wrote p.3;
  })

  pub before-break : Appends w1 w2 [] → SignatureLogPart R s l0 l2 w0 w2 Memory
  before-break none = inl (record {
    logged = ms;
    rest = read;
    processes = processes-read s l0 l1 l2 ms read f.processes consumed;
    left_over = inr (inr (true, log_end-is));
    wrote = subst (Appends w0 w2) (append-nil (log_lines R 1 ms)) (Appends-trans w0 w1 w2 _ _ f.wrote none);
  })
