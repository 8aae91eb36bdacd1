-- What is answered to the records of an input whose bytes are known is determined.
use Rattle.std.proofs.Common.{◌≡◌, ◌∙◌, ℕ, ◌≤◌, List, [], ◌∷◌, ◌++◌, length, map, Option, Some, None, Ok, refl, sym, ap, subst, arith, append_assoc, inl, inr}
use Rattle.std.specs.Prelude.{◌-◌}
use Rattle.mls_wire.proofs.LogLaws.{meets_once}
use Rattle.mls_wire.specs.Logs.{ReadsRecord}
use Rattle.mls_wire.specs.declared.log.LogStep.{LogStep}
use Rattle.mls_wire.specs.declared.log.LogStep.TheVariants as steps
use Rattle.mls_report.specs.Replay.{AreRecords}
use Rattle.mls_show.specs.declared.verdict.Verdict.{Verdict}
use Rattle.mls_show.specs.declared.verdict.Verdict.TheVariants.{No}
use Rattle.mls_gate.specs.Answers.{Goes, Ends, Answers, broken_line}
use Rattle.mls_gate.specs.GateReport.{Turn, AreAnswered, phase_after, answers, record_limit, IsEnding, ReportsRecords}
use Rattle.mls_gate.specs.Phases.{Phase, end_verdict}
use Rattle.mls_gate.proofs.AnswersOnce.{one_outcome}

-- what is answered to the bytes of an input, of which so many records may come
pub record RecordLines (most : ℕ) (p : Phase) (all : List ℕ) (turns : List Turn) (text : List ℕ) (verdict : Verdict) : Type 0 where
  pub answered : AreAnswered p turns
  pub bounded : length turns ≤ most
  pub records : List ℕ
  pub are_records : AreRecords (map (λ turn. turn.body) turns) records
  pub rest : List ℕ
  pub left : List ℕ
  pub read : all ≡ (records ++ rest) ++ left
  pub ending : IsEnding (phase_after p turns) (most - length turns) rest (Some left) text verdict

-- ---- what a reader meets

-- the text and the verdict, by what is met
abbrev Says : Phase → LogStep → List ℕ → List ℕ → Verdict → Type 0
Says p steps.Record body text verdict = Answers p body (Ends text) × (verdict ≡ No)
Says p steps.End body text verdict = (text ≡ []) × (verdict ≡ end_verdict p)
Says p steps.Broken body text verdict = (text ≡ broken_line) × (verdict ≡ No)
Says p steps.Over body text verdict = ⊥

-- at the end a reader meets what says so
record MeetsEnd (most : ℕ) (p : Phase) (all left text : List ℕ) (verdict : Verdict) : Type 0 where
  step : LogStep
  body : List ℕ
  meets : ReadsRecord (Some all) (Some left) most body (Ok step)
  says : Says p step body text verdict

meets_end : (most : ℕ) (p : Phase) (all rest left text : List ℕ) (verdict : Verdict) → all ≡ rest ++ left → IsEnding p most rest (Some left) text verdict
    → MeetsEnd most p all left text verdict
meets_end most p all rest left text verdict e (inl h) = record {
  step = steps.End;
  body = [];
  meets = (e ∙ ap (λ (x : List ℕ). x ++ left) h.nothing_read, h.at_end);
  says = (h.no_text, h.verdict_is);
}
meets_end most p all rest left text verdict e (inr (inl h)) = record {
  step = steps.Broken;
  body = [];
  meets = (rest, e, h.broken);
  says = (h.text_is, h.verdict_is);
}
meets_end most p all rest left text verdict e (inr (inr h)) = record {
  step = steps.Record;
  body = h.body;
  meets = (h.allowed, rest, e, h.is_record);
  says = (h.answers, h.verdict_is);
}

ended_text : (text other : List ℕ) → Ends text ≡ Ends other → text ≡ other
ended_text text other e = cc

went_text : (text other : List ℕ) (p q : Phase) → Goes text p ≡ Goes other q → text ≡ other
went_text text other p q e = cc

went_phase : (text other : List ℕ) (p q : Phase) → Goes text p ≡ Goes other q → p ≡ q
went_phase text other p q e = cc

ends_or_goes : (text other : List ℕ) (q : Phase) → Ends text ≡ Goes other q → ⊥
ends_or_goes text other q e = absurd cc

-- what is met says one thing
says_once : (p : Phase) (s t : LogStep) (body more text other : List ℕ) (v o : Verdict) → s ≡ t → (s ≡ steps.Record → body ≡ more)
    → Says p s body text v → Says p t more other o → (text ≡ other) × (v ≡ o)
says_once p steps.Record steps.Record body more text other v o e same a b =
    let moved = subst (λ (x : List ℕ). Answers p x (Ends text)) (same refl) a.0 in
    (ended_text text other (one_outcome p more (Ends text) (Ends other) moved b.0), a.1 ∙ sym b.1)
says_once p steps.End steps.End body more text other v o e same a b = (a.0 ∙ sym b.0, a.1 ∙ sym b.1)
says_once p steps.Broken steps.Broken body more text other v o e same a b = (a.0 ∙ sym b.0, a.1 ∙ sym b.1)
says_once p steps.Over t body more text other v o e same a b = absurd a
says_once p s steps.Over body more text other v o e same a b = absurd b
says_once p steps.Record steps.End body more text other v o e same a b = absurd cc
says_once p steps.Record steps.Broken body more text other v o e same a b = absurd cc
says_once p steps.End steps.Record body more text other v o e same a b = absurd cc
says_once p steps.End steps.Broken body more text other v o e same a b = absurd cc
says_once p steps.Broken steps.Record body more text other v o e same a b = absurd cc
says_once p steps.Broken steps.End body more text other v o e same a b = absurd cc

-- what ends the gate is no record at which it goes on
says_no_record : (p : Phase) (s : LogStep) (body more text printed : List ℕ) (v : Verdict) (new : Phase) → s ≡ steps.Record → (s ≡ steps.Record → body ≡ more)
    → Says p s body text v → Answers p more (Goes printed new) → ⊥
says_no_record p steps.Record body more text printed v new e same a goes =
    let moved = subst (λ (x : List ℕ). Answers p x (Ends text)) (same e) a.0 in
    ends_or_goes text printed new (one_outcome p more (Ends text) (Goes printed new) moved goes)
says_no_record p steps.End body more text printed v new e same a goes = absurd cc
says_no_record p steps.Broken body more text printed v new e same a goes = absurd cc
says_no_record p steps.Over body more text printed v new e same a goes = a

behind : (all records front more rest left : List ℕ) → records ≡ front ++ more → all ≡ (records ++ rest) ++ left → all ≡ front ++ ((more ++ rest) ++ left)
behind all records front more rest left e f =
    f ∙ ap (λ (x : List ℕ). (x ++ rest) ++ left) e ∙ ap (λ (x : List ℕ). x ++ left) (append_assoc front more rest) ∙ append_assoc front (more ++ rest) left

-- ---- one record after the other

at_end : (most : ℕ) (p : Phase) (all text : List ℕ) (verdict : Verdict) (a : RecordLines most p all [] text verdict) → MeetsEnd most p all a.left text verdict
at_end most p all text verdict a =
    meets_end most p all a.rest a.left text verdict (a.read ∙ ap (λ (x : List ℕ). (x ++ a.rest) ++ a.left) a.are_records)
    (subst (λ (n : ℕ). IsEnding p n a.rest (Some a.left) text verdict) (omega (arith)) a.ending)

module _ (most : ℕ) (p : Phase) (all : List ℕ) (turn : Turn) (turns : List Turn) (text : List ℕ) (verdict : Verdict) (a : RecordLines most p all (turn ∷ turns) text verdict) where
  -- what is left behind the first record
  abbrev behind_first : List ℕ
  behind_first = (a.are_records.1 ++ a.rest) ++ a.left

  at_record : ReadsRecord (Some all) (Some behind_first) most turn.body (Ok steps.Record)
  at_record =
      let bound = a.bounded in
      (omega (arith, bound), a.are_records.0, behind all a.records a.are_records.0 a.are_records.1 a.rest a.left a.are_records.4 a.read, a.are_records.2)

  -- what is answered behind it
  reported_after : RecordLines (most - 1) turn.phase behind_first turns text verdict
  reported_after =
      let bound = a.bounded in
      let same : most - length (turn ∷ turns) ≡ (most - 1) - length turns = omega (arith) in
      record {
        answered = a.answered.1;
        bounded = omega (arith, bound);
        records = a.are_records.1;
        are_records = a.are_records.3;
        rest = a.rest;
        left = a.left;
        read = refl;
        ending = subst (λ (n : ℕ). IsEnding (phase_after turn.phase turns) n a.rest (Some a.left) text verdict) same a.ending;
      }

pub one_reported : (most : ℕ) (p : Phase) (all : List ℕ) (turns others : List Turn) (text other : List ℕ) (v o : Verdict) → RecordLines most p all turns text v
    → RecordLines most p all others other o → (answers turns ++ text ≡ answers others ++ other) × (v ≡ o)
one_reported most p all [] [] text other v o a b =
    let x = at_end most p all text v a in
    let y = at_end most p all other o b in
    let met = meets_once all a.left b.left most x.body y.body x.step y.step x.meets y.meets in
    says_once p x.step y.step x.body y.body text other v o met.0 met.2 x.says y.says
one_reported most p all [] (u ∷ us) text other v o a b =
    let x = at_end most p all text v a in
    let met = meets_once all a.left (behind_first most p all u us other o b) most x.body u.body x.step steps.Record x.meets (at_record most p all u us other o b) in
    absurd (says_no_record p x.step x.body u.body text u.text v u.phase met.0 met.2 x.says b.answered.0)
one_reported most p all (t ∷ ts) [] text other v o a b =
    let y = at_end most p all other o b in
    let met = meets_once all b.left (behind_first most p all t ts text v a) most y.body t.body y.step steps.Record y.meets (at_record most p all t ts text v a) in
    absurd (says_no_record p y.step y.body t.body other t.text o t.phase met.0 met.2 y.says a.answered.0)
one_reported most p all (t ∷ ts) (u ∷ us) text other v o a b =
    let after = behind_first most p all t ts text v a in
    let met = meets_once all after (behind_first most p all u us other o b) most t.body u.body steps.Record steps.Record
    (at_record most p all t ts text v a) (at_record most p all u us other o b) in
    let same = one_outcome p u.body (Goes t.text t.phase) (Goes u.text u.phase)
    (subst (λ (x : List ℕ). Answers p x (Goes t.text t.phase)) (met.2 refl) a.answered.0) b.answered.0 in
    let said = went_text t.text u.text t.phase u.phase same in
    let phase = went_phase t.text u.text t.phase u.phase same in
    let rest = reported_after most p all u us other o b in
    let moved = subst (λ (x : List ℕ). RecordLines (most - 1) u.phase x us other o) (sym met.1) rest in
    let back = subst (λ (q : Phase). RecordLines (most - 1) q after us other o) (sym phase) moved in
    let more = one_reported (most - 1) t.phase after ts us text other v o (reported_after most p all t ts text v a) back in (
      append_assoc t.text (answers ts) text ∙ (λ k. said k ++ more.0 k) ∙ sym (append_assoc u.text (answers us) other),
      more.1,
    )

-- ---- as a report of the records

pub record IsLogReported (p : Phase) (all text : List ℕ) (verdict : Verdict) : Type 0 where
  pub turns : List Turn
  pub last : List ℕ
  pub lines : RecordLines record_limit p all turns last verdict
  pub text_is : answers turns ++ last ≡ text

pub reported_records : (p : Phase) (all : List ℕ) (left w0 w1 : Option (List ℕ)) (verdict : Verdict) (h : ReportsRecords p (Some all) left w0 w1 verdict)
    → IsLogReported p all (answers h.turns ++ h.text) verdict
reported_records p all None w0 w1 verdict h = absurd (h.serves.all_read)
reported_records p all (Some left) w0 w1 verdict h = record {
  turns = h.turns;
  last = h.text;
  lines = record {
    answered = h.serves.answered;
    bounded = h.serves.bounded;
    records = h.serves.records;
    are_records = h.serves.are_records;
    rest = h.rest;
    left = left;
    read = h.serves.all_read;
    ending = h.ending;
  };
  text_is = refl;
}

pub one_answering : (p : Phase) (all : List ℕ) (left other w x y z : Option (List ℕ)) (v o : Verdict) (a : ReportsRecords p (Some all) left w x v)
    (b : ReportsRecords p (Some all) other y z o) → (answers a.turns ++ a.text ≡ answers b.turns ++ b.text) × (v ≡ o)
one_answering p all left other w x y z v o a b =
    let t = reported_records p all left w x v a in
    let u = reported_records p all other y z o b in
    let same = one_reported record_limit p all t.turns u.turns t.last u.last v o t.lines u.lines in
    (sym t.text_is ∙ same.0 ∙ u.text_is, same.1)
