-- The report `signatures` exists, whatever the bytes of its inputs.
use Rattle.std.proofs.Common.{◌≡◌, ◌≢◌, ℕ, List, [], ◌∷◌, ◌++◌, length, Option, Some, None, Result, Ok, Err, refl, ap, subst, inl, inr}
use Rattle.std.specs.Prelude.{option_map}
use Rattle.mls_check.specs.Signatures.{VerifyFn}
use Rattle.mls_follow.specs.CoveredLogs.{all_good}
use Rattle.mls_follow.specs.MessageSignatures.{message_signatures_in_state}
use Rattle.mls_follow.specs.TimedAnswers.{IsAnswerAt}
use Rattle.mls_follow.proofs.Holding.{IsSteady}
use Rattle.mls_follow.specs.State.{State}
use Rattle.mls_apply.specs.declared.refusal.Refusal.{Refusal}
use Rattle.mls_apply.specs.declared.refusal.Refusal.TheVariants.{OutOfMemory}
use Rattle.mls_follow.specs.declared.taken.Taken.{Taken}
use Rattle.mls_signatures.specs.declared.signature_to_verify.SignatureToVerify.{SignatureToVerify}
use Rattle.mls_start.proofs.FirstStates.{first_or_declined, first_starts, first_steady}
use Rattle.mls_report.proofs.LogsExist.{IsLogReported, log_reported}
use Rattle.mls_report.proofs.TurnsOnce.{MessageLines}
use Rattle.mls_report.specs.Finding.{finding_line}
use Rattle.mls_report.specs.Replay.{ProcessedMessage, AreProcessed, message_limit}
use Rattle.mls_report.specs.ReportsExist.{SignaturesExist}
use Rattle.mls_report.specs.SignaturesReport.{HasSignatures, LoggedMessage, HaveSignatures, turns_of, log_lines, break_line, log_verdict, all_read, needed_lines, ReportsLogIf}
use Rattle.mls_show.specs.declared.verdict.Verdict.{Verdict}
use Rattle.mls_show.specs.declared.verdict.Verdict.TheVariants.{Yes, No}

-- ---- the signatures of messages

own : (e : Refusal) → (◌≡◌ {A = Result Taken Refusal} (Err e) (Err OutOfMemory) → ⊥) → e ≢ OutOfMemory
own e memory same = memory (ap Err same)

-- a message that is processed has signatures, or it is none
some_needed : (s : State) (bytes : List ℕ) (answer : Result Taken Refusal) (new : State) → IsAnswerAt None all_good s bytes answer new
    → (needed : Option (List SignatureToVerify)) × HasSignatures s bytes needed
some_needed s bytes (Ok taken) new h =
    let message = h.takes.0 in
    (Some (message_signatures_in_state s message.message), record { message = message.message; encoded = message.encoded; same = refl })
some_needed s bytes (Err e) new h =
    elim (h.takes.1 (own e h.memory)) [
      | inl none ↦ (None, none.1)
      | inr message ↦ (Some (message_signatures_in_state s message.message), record { message = message.message; encoded = message.encoded; same = refl })
    ]

-- so have those of a log
record HaveSome (s : State) (turns : List ProcessedMessage) : Type 0 where
  logged : List LoggedMessage
  are : turns ≡ turns_of logged
  has_signatures : HaveSignatures s logged

some_logged : (s : State) (turns : List ProcessedMessage) → AreProcessed None all_good s turns → HaveSome s turns
some_logged s [] h = record { logged = []; are = refl; has_signatures = tt }
some_logged s (turn ∷ turns) h =
    let first = some_needed s turn.bytes turn.answer turn.state h.0 in
    let rest = some_logged turn.state turns h.1 in
    record { logged = record { turn = turn; needed = first.0 } ∷ rest.logged; are = (λ i. turn ∷ rest.are i); has_signatures = (first.1, rest.has_signatures) }

-- ---- the lines of a log

module _ (R : VerifyFn) (s : State) (steady : IsSteady s) where
  -- what is written behind the start, and the verdict
  record HasBehind (log : Option (List ℕ)) : Type 0 where
    more : List ℕ
    verdict : Verdict
    left : Option (Option (List ℕ))
    reports : (mid : List ℕ) → ReportsLogIf R s (option_map Some log) left (Some mid) (Some (mid ++ more)) verdict

  some_behind : (log : Option (List ℕ)) → HasBehind log
  some_behind None = record { more = []; verdict = Yes; left = None; reports = λ mid. (refl, refl) }
  some_behind (Some log) =
      let there : IsLogReported None all_good message_limit s log = log_reported None all_good message_limit s log steady in
      let some = some_logged s there.turns there.printed.taken in
      let printed = subst (λ (turns : List ProcessedMessage). MessageLines None all_good message_limit s log turns there.broken) some.are there.printed in
      record {
        more = log_lines R 1 some.logged ++ break_line there.broken (length some.logged);
        verdict = log_verdict there.broken (all_read some.logged);
        left = Some (Some printed.left);
        reports = λ mid. record {
          logged = some.logged;
          rest = printed.rest;
          broken = there.broken;
          processes = record {
            follows = record { taken = printed.taken; bounded = printed.bounded; records = printed.records; are_records = printed.are_records; log_read = printed.read };
            has_signatures = some.has_signatures;
          };
          log_end = printed.log_end;
          wrote = refl;
          verdict_is = refl;
        };
      }

-- ---- the report

pub some_signatures : SignaturesExist
some_signatures R i log_bytes =
    elim (first_or_declined all_good i) [
      | inl s ↦
          (let needed = first_starts i s.0 s.1 in
          let behind : HasBehind R s.0 (first_steady all_good i s.0 s.1) log_bytes = some_behind R s.0 (first_steady all_good i s.0 s.1) log_bytes in (
            needed_lines R needed.0 ++ behind.more,
            behind.verdict,
            record {
              log_left = behind.left;
              before = [];
              signatures = inr (record {
                state = s.0;
                needed = needed.0;
                starts = needed.1;
                between = Some (needed_lines R needed.0);
                wrote = refl;
                reports = behind.reports (needed_lines R needed.0);
              });
            },
          ))
      | inr f ↦ (
        finding_line f.0,
        No,
        record {
          log_left = option_map Some log_bytes;
          before = [];
          signatures = inl (record { finding = f.0; declines = f.1; unread = refl; wrote = refl; verdict_is = refl });
        },
      )
    ]
