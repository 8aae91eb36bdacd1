-- What `signatures` writes is determined.
use Rattle.std.proofs.Common.{◌≡◌, ◌∙◌, ℕ, List, [], ◌∷◌, ◌++◌, length, Option, Some, None, refl, sym, ap, subst, inl, inr, append_assoc}
use Rattle.std.specs.Prelude.{option_map}
use Rattle.std.specs.Io.KnownBytes.{Appends}
use Rattle.mls_check.specs.Signatures.{VerifyFn}
use Rattle.mls_follow.proofs.Answering.{one_message}
use Rattle.mls_follow.specs.CoveredLogs.{all_good}
use Rattle.mls_follow.specs.MessageSignatures.{message_signatures_in_state}
use Rattle.mls_follow.specs.State.{State}
use Rattle.mls_signatures.specs.declared.signature_to_verify.SignatureToVerify.{SignatureToVerify}
use Rattle.mls_start.proofs.FirstStates.{first_or_declines, one_first, one_list, starts_first}
use Rattle.mls_start.specs.Inputs.{Inputs}
use Rattle.mls_report.proofs.InputsOnce.{written_is}
use Rattle.mls_report.proofs.ReplaysOnce.{both_decline}
use Rattle.mls_report.proofs.TurnsOnce.{one_log}
use Rattle.mls_report.specs.Replay.{ProcessedMessage}
use Rattle.mls_report.specs.SignaturesReport.{HasSignatures, LoggedMessage, HaveSignatures, turns_of, log_lines, break_line, log_verdict, all_read, needed_lines, ReportsSignatureLog, ReportsLogIf, ReportsSignatures, Signatures}
use Rattle.mls_report.specs.UniqueReports.{AreAlikeTexts, EndsLog, MessageSignaturesAreUnique, SignaturesAreUnique}
use Rattle.mls_show.specs.declared.verdict.Verdict.{Verdict}

-- ---- the signatures of messages

pub one_needed : MessageSignaturesAreUnique
one_needed s bytes None None a b = refl
one_needed s bytes None (Some v) a b = absurd (a b.message b.encoded)
one_needed s bytes (Some w) None a b = absurd (b a.message a.encoded)
one_needed s bytes (Some w) (Some v) a b =
    ap (λ (x : List SignatureToVerify). Some x)
    (a.same ∙ ap (message_signatures_in_state s) (one_message a.message b.message bytes a.encoded b.encoded) ∙ sym b.same)

head_is : (x y : ProcessedMessage) (xs ys : List ProcessedMessage) → x ∷ xs ≡ y ∷ ys → x ≡ y
head_is x y xs ys e = cc

tail_is : (x y : ProcessedMessage) (xs ys : List ProcessedMessage) → x ∷ xs ≡ y ∷ ys → xs ≡ ys
tail_is x y xs ys e = cc

-- messages that are processed alike have the same signatures
one_logged : (s : State) (logged others : List LoggedMessage) → turns_of logged ≡ turns_of others → HaveSignatures s logged → HaveSignatures s others → logged ≡ others
one_logged s [] [] e a b = refl
one_logged s [] (y ∷ ys) e a b = absurd cc
one_logged s (x ∷ xs) [] e a b = absurd cc
one_logged s (x ∷ xs) (y ∷ ys) e a b =
    let turn = head_is x.turn y.turn (turns_of xs) (turns_of ys) e in
    let needed = one_needed s y.turn.bytes x.needed y.needed (subst (λ (t : ProcessedMessage). HasSignatures s t.bytes x.needed) turn a.0) b.0 in
    let rest = one_logged y.turn.state xs ys (tail_is x.turn y.turn (turns_of xs) (turns_of ys) e) (subst (λ (t : ProcessedMessage). HaveSignatures t.state xs) turn a.1) b.1 in
    λ i. record { turn = turn i; needed = needed i } ∷ rest i

-- ---- the lines of a log

module _ (R : VerifyFn) (s : State) where
  -- of a log, twice
  module _ (log : List ℕ) (left behind : Option (List ℕ)) (w x y z : Option (List ℕ)) (v o : Verdict)
      (a : ReportsSignatureLog R s (Some log) left w x v) (b : ReportsSignatureLog R s (Some log) behind y z o) where
    one_reported : (log_lines R 1 a.logged ++ break_line a.broken (length a.logged) ≡ log_lines R 1 b.logged ++ break_line b.broken (length b.logged)) × (v ≡ o)
    one_reported =
        let ends : EndsLog None all_good s (Some log) left (turns_of a.logged) a.broken = record { rest = a.rest; follows = a.processes.follows; log_end = a.log_end } in
        let others : EndsLog None all_good s (Some log) behind (turns_of b.logged) b.broken = record { rest = b.rest; follows = b.processes.follows; log_end = b.log_end } in
        let same = one_log None all_good s log left behind (turns_of a.logged) (turns_of b.logged) a.broken b.broken ends others in
        let logged = one_logged s a.logged b.logged same.0 a.processes.has_signatures b.processes.has_signatures in
        (λ i. log_lines R 1 (logged i) ++ break_line (same.1 i) (length (logged i)), a.verdict_is ∙ (λ i. log_verdict (same.1 i) (all_read (logged i))) ∙ sym b.verdict_is)

  -- the same was written behind the start
  one_behind : (log : Option (List ℕ)) (left behind : Option (Option (List ℕ))) (w x y z : Option (List ℕ)) (v o : Verdict)
      → ReportsLogIf R s (option_map Some log) left w x v → ReportsLogIf R s (option_map Some log) behind y z o
      → (more : List ℕ) × Appends w x more × Appends y z more × (v ≡ o)
  one_behind None None None w x y z v o a b = ([], a.0, b.0, a.1 ∙ sym b.1)
  one_behind None (Some l) behind w x y z v o a b = absurd a
  one_behind None None (Some m) w x y z v o a b = absurd b
  one_behind (Some log) None behind w x y z v o a b = absurd a
  one_behind (Some log) (Some l) None w x y z v o a b = absurd b
  one_behind (Some log) (Some l) (Some m) w x y z v o a b =
      let same = one_reported log l m w x y z v o a b in
      (log_lines R 1 a.logged ++ break_line a.broken (length a.logged), a.wrote, subst (λ (lines : List ℕ). Appends y z lines) (sym same.0) b.wrote, same.1)

-- what was written after two steps
written_both : (before : List ℕ) (between : Option (List ℕ)) (text line more : List ℕ) → Appends (Some before) between line → Appends between (Some (before ++ text)) more → text ≡ line ++ more
written_both before None text line more a b = absurd a
written_both before (Some mid) text line more a b = written_is before text (line ++ more) (b ∙ ap (λ (x : List ℕ). x ++ more) a ∙ append_assoc before line more)

-- ---- the report

module _ (R : VerifyFn) (i : Inputs) (log_bytes : Option (List ℕ)) (l m : Option (Option (List ℕ))) (before after text other : List ℕ) (v o : Verdict) where
  abbrev Log : Option (Option (List ℕ))
  Log = option_map Some log_bytes

  -- a follower starts, twice
  both_report : ReportsSignatures R i Log l (Some before) (Some (before ++ text)) v
      → ReportsSignatures R i Log m (Some after) (Some (after ++ other)) o → AreAlikeTexts text other × (v ≡ o)
  both_report a b =
      let state = one_first all_good i a.state b.state (starts_first i a.state a.needed a.starts) (starts_first i b.state b.needed b.starts) in
      let list = one_list i a.state b.state a.needed b.needed a.starts b.starts in
      let moved = subst (λ (s : State). ReportsLogIf R s Log l a.between (Some (before ++ text)) v) state a.reports in
      let tail = one_behind R b.state log_bytes l m a.between (Some (before ++ text)) b.between (Some (after ++ other)) v o moved b.reports in (
        inl (written_both before a.between text (needed_lines R a.needed) tail.0 a.wrote tail.1
            ∙ ap (λ (ws : List SignatureToVerify). needed_lines R ws ++ tail.0) list
            ∙ sym (written_both after b.between other (needed_lines R b.needed) tail.0 b.wrote tail.2)),
        tail.3,
      )

  either : Signatures R i Log l (Some before) (Some (before ++ text)) v → Signatures R i Log m (Some after) (Some (after ++ other)) o
      → AreAlikeTexts text other × (v ≡ o)
  either (inl a) (inl b) = both_decline all_good i Log l Log m before after text other v o a b
  either (inl a) (inr b) = absurd (first_or_declines all_good i a.finding b.state a.declines (starts_first i b.state b.needed b.starts))
  either (inr a) (inl b) = absurd (first_or_declines all_good i b.finding a.state b.declines (starts_first i a.state a.needed a.starts))
  either (inr a) (inr b) = both_report a b

pub one_signatures : SignaturesAreUnique
one_signatures R i log_bytes text other verdict more a b =
    either R i log_bytes a.log_left b.log_left a.before b.before text other verdict more a.signatures b.signatures
