-- What a gate writes is determined.
use Rattle.std.proofs.Common.{◌≡◌, ◌∙◌, ℕ, List, ◌++◌, Option, Some, sym, inl, inr}
use Rattle.std.specs.Io.KnownBytes.{Appends}
use Rattle.mls_wire.proofs.KnownBytes.{Appends-trans}
use Rattle.mls_check.specs.Signatures.{VerifyFn}
use Rattle.mls_follow.specs.CoveredLogs.{all_good}
use Rattle.mls_start.proofs.FirstStates.{alike_declines, first_or_declines, one_list, starts_first}
use Rattle.mls_start.specs.Inputs.{Inputs}
use Rattle.mls_report.specs.Finding.{finding_line}
use Rattle.mls_report.specs.UniqueReports.{AreAlikeTexts}
use Rattle.mls_report.proofs.InputsOnce.{written_is}
use Rattle.mls_show.specs.declared.verdict.Verdict.{Verdict}
use Rattle.mls_gate.specs.Answers.{query_text}
use Rattle.mls_gate.specs.GateReport.{answers, DeclinesGate, OpensGate, Gates}
use Rattle.mls_gate.specs.GateReports.{GateIsUnique}
use Rattle.mls_gate.specs.Phases.{Opening}
use Rattle.mls_gate.proofs.RecordsOnce.{one_answering}

-- what was written in two steps
written_both : (before : List ℕ) (between : Option (List ℕ)) (text line more : List ℕ) → Appends (Some before) between line → Appends between (Some (before ++ text)) more
    → text ≡ line ++ more
written_both before between text line more a b = written_is before text (line ++ more) (Appends-trans (Some before) between (Some (before ++ text)) line more a b)

-- two reports from the same bytes
module _ (time : Option ℕ) (G : VerifyFn) (i : Inputs) (records : List ℕ) (r q : Option (List ℕ)) (before after text other : List ℕ) (v o : Verdict) where
  -- no follower starts, twice
  both_decline : DeclinesGate i (Some records) r (Some before) (Some (before ++ text)) v → DeclinesGate i (Some records) q (Some after) (Some (after ++ other)) o
      → AreAlikeTexts text other × (v ≡ o)
  both_decline a b =
      let alike = alike_declines all_good i a.finding b.finding a.declines b.declines in (
        inr (a.finding, b.finding, alike, written_is before text (finding_line a.finding) a.wrote, written_is after other (finding_line b.finding) b.wrote),
        a.verdict_is ∙ sym b.verdict_is,
      )

  -- a follower starts, twice
  both_open : OpensGate time G i (Some records) r (Some before) (Some (before ++ text)) v → OpensGate time G i (Some records) q (Some after) (Some (after ++ other)) o
      → AreAlikeTexts text other × (v ≡ o)
  both_open a b =
      let list = one_list i a.state b.state a.signatures b.signatures a.can_start b.can_start in
      let same = one_answering (Opening i time G) records r q a.between (Some (before ++ text)) b.between (Some (after ++ other)) v o a.reports b.reports in (
        inl (written_both before a.between text (query_text G a.signatures) (answers a.reports.turns ++ a.reports.text) a.wrote a.reports.wrote
            ∙ (λ k. query_text G (list k) ++ same.0 k)
            ∙ sym (written_both after b.between other (query_text G b.signatures) (answers b.reports.turns ++ b.reports.text) b.wrote b.reports.wrote)),
        same.1,
      )

  either : Gates time G i (Some records) r (Some before) (Some (before ++ text)) v → Gates time G i (Some records) q (Some after) (Some (after ++ other)) o
      → AreAlikeTexts text other × (v ≡ o)
  either (inl a) (inl b) = both_decline a b
  either (inl a) (inr b) = absurd (first_or_declines all_good i a.finding b.state a.declines (starts_first i b.state b.signatures b.can_start))
  either (inr a) (inl b) = absurd (first_or_declines all_good i b.finding a.state b.declines (starts_first i a.state a.signatures a.can_start))
  either (inr a) (inr b) = both_open a b

pub one_gate : GateIsUnique
one_gate time G i records text other verdict more a b =
    either time G i records a.records_left b.records_left a.before b.before text other verdict more a.gates b.gates
