-- The contracts of the steps of `replay`, and of reading a record. Used by contracts.
use Rattle.std.specs.Prelude.{List, [], ℕ, ◌+◌, ◌++◌, codes, length, Bool, false, Option, Result, is_ok, ◌≡◌}
use Rattle.std.specs.Fmt.{decimal}
use Rattle.std.specs.Io.KnownBytes.{Appends, Consumes}
use Rattle.mls_wire.specs.Devices.{AppendsPrefix}
use Rattle.mls_wire.specs.Logs.{IsRecord, IsIncomplete, LogState, ended}
use Rattle.mls_check.specs.Signatures.{VerifyFn}
use Rattle.mls_follow.specs.State.{State}
use Rattle.mls_follow.specs.TimedAnswers.{IsAnswerAt}
use Rattle.mls_apply.specs.declared.refusal.Refusal.{Refusal}
use Rattle.mls_follow.specs.declared.taken.Taken.{Taken}
use Rattle.mls_report.specs.declared.log_records.RecordStep.{RecordStep}
use Rattle.mls_report.specs.declared.log_records.RecordStep.TheVariants as steps
use Rattle.mls_report.specs.Replay.{ProcessedMessage, Follows, IsLogEnd, ReportsLog, accepted_count, answer_text, state_after, messages_to_come, processed_lines}
use Rattle.mls_wire.specs.declared.fault.RunFault.{RunFault}
use Rattle.mls_wire.specs.declared.fault.RunFault.TheVariants.{Read, Write, Memory}
use Rattle.mls_show.specs.declared.verdict.Verdict.{Verdict}

-- `ReadsStep log0 log1 old new step`: a reader, `old` before and `new` after, has read a record of a log, after which
-- one fewer may come, or what shows that the log has ended or is broken.
abbrev pub ReadsStep : Option (List ℕ) → Option (List ℕ) → LogState → LogState → RecordStep → Type 0
ReadsStep log0 log1 old new steps.Record =
    (old.most ≡ new.most + 1) × (new.is_over ≡ false)
    × (read : List ℕ) × Consumes log0 log1 read × IsRecord read new.body
ReadsStep log0 log1 old new (steps.End broken) =
    (new ≡ ended old) × (read : List ℕ) × Consumes log0 log1 read × IsLogEnd old.most read log1 broken

-- `ReadsUndecided log0 log1 most`: the bytes read of a log, of which `most` messages may still come, don't decide yet
-- what comes next.
pub record ReadsUndecided (log0 log1 : Option (List ℕ)) (most : ℕ) : Type 0 where
  pub rest : List ℕ
  pub read : Consumes log0 log1 rest
  pub undecided : IsIncomplete most rest

-- The line of message n with this answer.
abbrev pub answer_line : ℕ → Result Taken Refusal → State → List ℕ
answer_line n answer s = decimal n ++ (answer_text answer s ++ codes "\n")

-- Message n was processed and reported.
pub record ReportsMessage (time : Option ℕ) (G : VerifyFn) (s : State) (n : ℕ) (bytes : List ℕ) (new : State)
    (written0 written1 : Option (List ℕ)) (is_accepted : Bool) : Type 0 where
  pub answer : Result Taken Refusal
  pub is_answer : IsAnswerAt time G s bytes answer new
  pub counted : is_accepted ≡ is_ok answer
  pub wrote : Appends written0 written1 (answer_line n answer new)

-- Message n was processed, and the output failed in its line.
pub record StopsTurn (time : Option ℕ) (G : VerifyFn) (s : State) (n : ℕ) (bytes : List ℕ)
    (written0 written1 : Option (List ℕ)) : Type 0 where
  pub answer : Result Taken Refusal
  pub new : State
  pub is_answer : IsAnswerAt time G s bytes answer new
  pub wrote : AppendsPrefix written0 written1 (answer_line n answer new)

-- Message n was not reported, with this fault.
abbrev pub StopsAtMessage : Option ℕ → VerifyFn → State → ℕ → List ℕ → Option (List ℕ) → Option (List ℕ) → RunFault → Type 0
StopsAtMessage time G s n bytes written0 written1 Read = ⊥
StopsAtMessage time G s n bytes written0 written1 Write = StopsTurn time G s n bytes written0 written1
StopsAtMessage time G s n bytes written0 written1 Memory = Appends written0 written1 []

-- Each message of a log was reported, these numbers were accepted and refused, and the log has ended or is broken.
pub record FollowsLog (time : Option ℕ) (G : VerifyFn) (s : State) (log0 log1 written0 written1 : Option (List ℕ))
    (now : State) (accepted refused : ℕ) (broken : Bool) : Type 0 where
  pub turns : List ProcessedMessage
  pub rest : List ℕ
  pub follows : Follows time G s log0 log1 turns rest
  pub log_end : IsLogEnd (messages_to_come turns) rest log1 broken
  pub wrote : Appends written0 written1 (processed_lines 1 turns)
  pub state : now ≡ state_after s turns
  pub taken : accepted ≡ accepted_count turns
  pub counted : accepted + refused ≡ length turns

-- The report of a log was written from the state `s` on, and `last` is the state after it.
abbrev pub ReplaysLog : Option ℕ → VerifyFn → State → Option (List ℕ) → Option (List ℕ) → Option (List ℕ) → Option (List ℕ)
    → Verdict → State → Type 0
ReplaysLog time G s log0 log1 written0 written1 verdict last =
    (printed : ReportsLog time G s log0 log1 written0 written1 verdict) × (last ≡ state_after s printed.turns)
