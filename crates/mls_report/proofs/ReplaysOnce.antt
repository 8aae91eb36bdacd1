-- What a replay writes is determined.
use Rattle.std.proofs.Common.{◌≡◌, ◌∙◌, ℕ, List, ◌++◌, Bool, Option, Some, None, refl, sym, subst, inl, inr}
use Rattle.std.proofs.lemmas.Bool.{false≢true}
use Rattle.mls_check.specs.Signatures.{VerifyFn}
use Rattle.mls_follow.specs.State.{State}
use Rattle.mls_start.proofs.FirstStates.{alike_declines, first_or_declines, one_first}
use Rattle.mls_start.specs.Inputs.{Inputs}
use Rattle.mls_report.proofs.InputsOnce.{written_is}
use Rattle.mls_report.proofs.TurnsOnce.{one_log}
use Rattle.mls_report.specs.Finding.{finding_line}
use Rattle.mls_report.specs.UniqueReports.{AreAlikeTexts, EndsLog, ReplayIsUnique}
use Rattle.mls_report.specs.Replay.{ProcessedMessage, IsVerdict, Replays, ReportsDecline, ReportsReplay, processed_lines, ending, refused_count}
use Rattle.mls_show.specs.declared.verdict.Verdict.{Verdict}
use Rattle.mls_show.specs.declared.verdict.Verdict.TheVariants.{Yes, No}

-- ---- the verdict

yes_or_no : (broken : Bool) (refused : ℕ) (v u : Verdict) → IsVerdict broken refused v → IsVerdict broken refused u → v ≡ u
yes_or_no broken refused Yes Yes a b = refl
yes_or_no broken refused No No a b = refl
yes_or_no broken refused Yes No a (inl b) = absurd (false≢true (sym a.0 ∙ b))
yes_or_no broken refused Yes No a (inr b) = absurd (b a.1)
yes_or_no broken refused No Yes (inl a) b = absurd (false≢true (sym b.0 ∙ a))
yes_or_no broken refused No Yes (inr a) b = absurd (a b.1)

-- ---- the report

-- no follower starts, twice
pub both_decline : {L : Type 0} (G : VerifyFn) (i : Inputs) (l m n o : L) (before after text other : List ℕ) (v w : Verdict)
    → ReportsDecline G i l m (Some before) (Some (before ++ text)) v → ReportsDecline G i n o (Some after) (Some (after ++ other)) w → AreAlikeTexts text other × (v ≡ w)
both_decline G i l m n o before after text other v w a b = (
  inr (
    a.finding,
    b.finding,
    alike_declines G i a.finding b.finding a.declines b.declines,
    written_is before text (finding_line a.finding) a.wrote,
    written_is after other (finding_line b.finding) b.wrote,
  ),
  a.verdict_is ∙ sym b.verdict_is,
)

module _ (time : Option ℕ) (G : VerifyFn) (i : Inputs) (log_bytes : List ℕ) (l m : Option (List ℕ)) (before after text other : List ℕ) (v o : Verdict) where
  -- a follower starts, twice
  both_replay : (s t : State) → ReportsReplay time G i (Some log_bytes) l (Some before) (Some (before ++ text)) v s
      → ReportsReplay time G i (Some log_bytes) m (Some after) (Some (after ++ other)) o t → AreAlikeTexts text other × (v ≡ o)
  both_replay s t a b =
      let es = one_first G i a.state b.state a.starts b.starts in
      let ends : EndsLog time G a.state (Some log_bytes) l a.reports.turns a.reports.broken = record { rest = a.reports.rest; follows = a.reports.follows; log_end = a.reports.log_end } in
      let other_ends : EndsLog time G b.state (Some log_bytes) m b.reports.turns b.reports.broken = record { rest = b.reports.rest; follows = b.reports.follows; log_end = b.reports.log_end } in
      let moved = subst (λ (s : State). EndsLog time G s (Some log_bytes) l a.reports.turns a.reports.broken) es ends in
      let log = one_log time G b.state log_bytes l m a.reports.turns b.reports.turns a.reports.broken b.reports.broken moved other_ends in
      let same : processed_lines 1 a.reports.turns ++ ending a.reports.broken a.state a.reports.turns ≡ processed_lines 1 b.reports.turns ++ ending b.reports.broken b.state b.reports.turns =
      λ k. processed_lines 1 (log.0 k) ++ ending (log.1 k) (es k) (log.0 k) in (
        inl (written_is before text _ a.reports.wrote ∙ same ∙ sym (written_is after other _ b.reports.wrote)),
        yes_or_no b.reports.broken (refused_count b.reports.turns) v o
            (subst (λ (z : List ProcessedMessage). IsVerdict b.reports.broken (refused_count z) v) log.0
            (subst (λ (z : Bool). IsVerdict z (refused_count a.reports.turns) v) log.1 a.reports.verdict_is)) b.reports.verdict_is,
      )

  one_report : (last more : Option State) → Replays time G i (Some log_bytes) l (Some before) (Some (before ++ text)) v last
      → Replays time G i (Some log_bytes) m (Some after) (Some (after ++ other)) o more → AreAlikeTexts text other × (v ≡ o)
  one_report None None a b = both_decline G i (Some log_bytes) l (Some log_bytes) m before after text other v o a b
  one_report None (Some t) a b = absurd (first_or_declines G i a.finding b.state a.declines b.starts)
  one_report (Some s) None a b = absurd (first_or_declines G i b.finding a.state b.declines a.starts)
  one_report (Some s) (Some t) a b = both_replay s t a b

pub one_replay : ReplayIsUnique
one_replay time G i log_bytes text other verdict more a b =
    one_report time G i log_bytes a.log_left b.log_left a.before b.before text other verdict more a.last b.last a.replays b.replays
