-- What is told of a log whose bytes are known is determined.
use Rattle.std.proofs.Common.{◌≡◌, ◌∙◌, ℕ, ◌<◌, ◌≤◌, List, [], ◌∷◌, length, Bool, true, false, Option, Some, None, Ok, refl, sym, ap, subst, arith, append_assoc}
use Rattle.std.specs.Prelude.{◌++◌, ◌-◌, map}
use Rattle.mls_wire.proofs.LogLaws.{meets_once}
use Rattle.mls_wire.specs.Logs.{ReadsRecord, IsRecord}
use Rattle.mls_wire.specs.declared.log.LogStep.{LogStep}
use Rattle.mls_wire.specs.declared.log.LogStep.TheVariants as steps
use Rattle.mls_check.specs.Signatures.{VerifyFn}
use Rattle.mls_follow.proofs.TimedAnswers.{one_timed_answer}
use Rattle.mls_follow.specs.State.{State}
use Rattle.mls_follow.specs.TimedAnswers.{IsAnswerAt}
use Rattle.mls_report.specs.UniqueReports.{EndsLog, LogIsUnique}
use Rattle.mls_report.specs.Replay.{message_limit, ProcessedMessage, AreProcessed, AreRecords, IsLogEnd}

-- what a reader of the log answers at its end
abbrev end_step : Bool → LogStep
end_step true = steps.Broken
end_step false = steps.End

-- at the end a reader meets it
meets_end : (most : ℕ) (log rest left : List ℕ) (broken : Bool) → log ≡ rest ++ left → IsLogEnd most rest (Some left) broken
    → ReadsRecord (Some log) (Some left) most [] (Ok (end_step broken))
meets_end most log rest left true e h = (rest, e, h)
meets_end most log rest left false e h = (e ∙ ap (λ (x : List ℕ). x ++ left) h.0, h.1)

-- before a record it meets that
meets_record : (most : ℕ) (log front after body : List ℕ) → 0 < most → log ≡ front ++ after → IsRecord front body
    → ReadsRecord (Some log) (Some after) most body (Ok steps.Record)
meets_record most log front after body lt e h = (lt, front, e, h)

behind : (log bytes front more rest left : List ℕ) → bytes ≡ front ++ more → log ≡ (bytes ++ rest) ++ left → log ≡ front ++ ((more ++ rest) ++ left)
behind log bytes front more rest left e f =
    f ∙ ap (λ (x : List ℕ). (x ++ rest) ++ left) e ∙ ap (λ (x : List ℕ). x ++ left) (append_assoc front more rest) ∙ append_assoc front (more ++ rest) left

no_record : (broken : Bool) → end_step broken ≡ steps.Record → ⊥
no_record true e = absurd cc
no_record false e = absurd cc

one_end : (a b : Bool) → end_step a ≡ end_step b → a ≡ b
one_end true true e = refl
one_end false false e = refl
one_end true false e = absurd cc
one_end false true e = absurd cc

abbrev pub bytes_of : List ProcessedMessage → List (List ℕ)
bytes_of turns = map (λ turn. turn.bytes) turns

module _ (time : Option ℕ) (G : VerifyFn) where
  -- what is told of the bytes of a log, of which so many messages may come
  pub record MessageLines (most : ℕ) (s : State) (log : List ℕ) (turns : List ProcessedMessage) (broken : Bool) : Type 0 where
    pub taken : AreProcessed time G s turns
    pub bounded : length turns ≤ most
    pub records : List ℕ
    pub are_records : AreRecords (bytes_of turns) records
    pub rest : List ℕ
    pub left : List ℕ
    pub read : log ≡ (records ++ rest) ++ left
    pub log_end : IsLogEnd (most - length turns) rest (Some left) broken

  at_end : (most : ℕ) (s : State) (log : List ℕ) (broken : Bool) (a : MessageLines most s log [] broken) → ReadsRecord (Some log) (Some a.left) most [] (Ok (end_step broken))
  at_end most s log broken a =
      meets_end most log a.rest a.left broken (a.read ∙ ap (λ (x : List ℕ). (x ++ a.rest) ++ a.left) a.are_records)
      (subst (λ (n : ℕ). IsLogEnd n a.rest (Some a.left) broken) (omega (arith)) a.log_end)

  -- what is left behind the first record
  abbrev behind_first : (most : ℕ) (s : State) (log : List ℕ) (turn : ProcessedMessage) (turns : List ProcessedMessage) (broken : Bool) → MessageLines most s log (turn ∷ turns) broken → List ℕ
  behind_first most s log turn turns broken a = (a.are_records.1 ++ a.rest) ++ a.left

  at_record : (most : ℕ) (s : State) (log : List ℕ) (turn : ProcessedMessage) (turns : List ProcessedMessage) (broken : Bool) (a : MessageLines most s log (turn ∷ turns) broken)
      → ReadsRecord (Some log) (Some (behind_first most s log turn turns broken a)) most turn.bytes (Ok steps.Record)
  at_record most s log turn turns broken a =
      meets_record most log a.are_records.0 (behind_first most s log turn turns broken a) turn.bytes (omega (arith, a.bounded))
      (behind log a.records a.are_records.0 a.are_records.1 a.rest a.left a.are_records.4 a.read) a.are_records.2

  -- the rest of what is told, behind the first message
  reported_after : (most : ℕ) (s : State) (log : List ℕ) (turn : ProcessedMessage) (turns : List ProcessedMessage) (broken : Bool) (a : MessageLines most s log (turn ∷ turns) broken)
      → MessageLines (most - 1) turn.state (behind_first most s log turn turns broken a) turns broken
  reported_after most s log turn turns broken a =
      let same : most - length (turn ∷ turns) ≡ (most - 1) - length turns = omega (arith) in
      record {
        taken = a.taken.1;
        bounded = omega (arith, a.bounded);
        records = a.are_records.1;
        are_records = a.are_records.3;
        rest = a.rest;
        left = a.left;
        read = refl;
        log_end = subst (λ (n : ℕ). IsLogEnd n a.rest (Some a.left) broken) same a.log_end;
      }

  -- the same turn
  one_turn : (s : State) (t u : ProcessedMessage) → t.bytes ≡ u.bytes → IsAnswerAt time G s t.bytes t.answer t.state → IsAnswerAt time G s u.bytes u.answer u.state → t ≡ u
  one_turn s t u e a b =
      let same = one_timed_answer time G s u.bytes t.answer u.answer t.state u.state (subst (λ (x : List ℕ). IsAnswerAt time G s x t.answer t.state) e a) b in
      λ i. record { bytes = e i; answer = same.0 i; state = same.1 i }

  one_reported : (most : ℕ) (s : State) (log : List ℕ) (turns others : List ProcessedMessage) (broken end : Bool) → MessageLines most s log turns broken → MessageLines most s log others end
      → (turns ≡ others) × (broken ≡ end)
  one_reported most s log [] [] broken end a b =
      let met = meets_once log a.left b.left most [] [] (end_step broken) (end_step end) (at_end most s log broken a) (at_end most s log end b) in
      (refl, one_end broken end met.0)
  one_reported most s log [] (u ∷ us) broken end a b =
      let met = meets_once log a.left (behind_first most s log u us end b) most [] u.bytes (end_step broken) steps.Record (at_end most s log broken a) (at_record most s log u us end b) in
      absurd (no_record broken met.0)
  one_reported most s log (t ∷ ts) [] broken end a b =
      let met = meets_once log b.left (behind_first most s log t ts broken a) most [] t.bytes (end_step end) steps.Record (at_end most s log end b) (at_record most s log t ts broken a) in
      absurd (no_record end met.0)
  one_reported most s log (t ∷ ts) (u ∷ us) broken end a b =
      let met = meets_once log (behind_first most s log t ts broken a) (behind_first most s log u us end b) most t.bytes u.bytes steps.Record steps.Record
      (at_record most s log t ts broken a) (at_record most s log u us end b) in
      let turn = one_turn s t u (met.2 refl) a.taken.0 b.taken.0 in
      let rest = reported_after most s log u us end b in
      let moved = subst (λ (x : List ℕ). MessageLines (most - 1) u.state x us end) (sym met.1) rest in
      let back = subst (λ (x : ProcessedMessage). MessageLines (most - 1) x.state (behind_first most s log t ts broken a) us end) (sym turn) moved in
      let others = one_reported (most - 1) t.state (behind_first most s log t ts broken a) ts us broken end (reported_after most s log t ts broken a) back in
      (λ i. turn i ∷ others.0 i, others.1)

  printed : (s : State) (log : List ℕ) (left : Option (List ℕ)) (turns : List ProcessedMessage) (broken : Bool) → EndsLog time G s (Some log) left turns broken → MessageLines message_limit s log turns broken
  printed s log None turns broken h = absurd (h.follows.log_read)
  printed s log (Some left) turns broken h = record {
    taken = h.follows.taken;
    bounded = h.follows.bounded;
    records = h.follows.records;
    are_records = h.follows.are_records;
    rest = h.rest;
    left = left;
    read = h.follows.log_read;
    log_end = h.log_end;
  }

pub one_log : LogIsUnique
one_log time G s log left other turns others broken end a b =
    one_reported time G message_limit s log turns others broken end (printed time G s log left turns broken a) (printed time G s log other others end b)
