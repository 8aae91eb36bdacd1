-- The report `replay`: a line for each message of a log, and a last one. `i` is what the group is followed from. `log0` and
-- `log1` are what the log has left before and after, `written0` and `written1` what the output holds. G is the
-- verification function of the checker, `time` the time at which messages are judged, if one is passed, `turns` are
-- processed messages. Used by contracts.
use Rattle.std.specs.Prelude.{List, [], ◌∷◌, ℕ, ◌+◌, ◌-◌, ◌≤◌, ◌++◌, codes, length, map, Bool, true, false, Option, Some, None, Result, Ok, Err, is_ok, ◌≡◌, ◌≢◌, ◌⊎◌}
use Rattle.std.specs.Fmt.{decimal}
use Rattle.std.specs.Io.KnownBytes.{Appends, Consumes, IsAtEnd}
use Rattle.mls_wire.specs.Devices.{AppendsPrefix}
use Rattle.mls_wire.specs.Logs.{IsRecord, IsBrokenAt, IsIncomplete}
use Rattle.mls_check.specs.LeafValidation.{member_number}
use Rattle.mls_check.specs.Signatures.{VerifyFn}
use Rattle.mls_apply.specs.Refusals.{number_of}
use Rattle.mls_follow.specs.State.{State}
use Rattle.mls_follow.specs.TimedAnswers.{IsAnswerAt}
use Rattle.mls_apply.specs.declared.refusal.Refusal.{Refusal}
use Rattle.mls_apply.specs.declared.refusal.Refusal.TheVariants.{Member}
use Rattle.mls_follow.specs.declared.taken.Taken.{Taken}
use Rattle.mls_follow.specs.declared.taken.Taken.TheVariants.{Proposal, Commit}
use Rattle.mls_start.specs.Inputs.{Inputs}
use Rattle.mls_start.specs.StartFindings.{IsFirstState, Declines}
use Rattle.mls_start.specs.declared.finding.Finding.{Finding}
use Rattle.mls_report.specs.Finding.{finding_line}
use Rattle.mls_show.specs.ValueTexts.{hex_text}
use Rattle.mls_wire.specs.declared.fault.RunFault.{RunFault}
use Rattle.mls_wire.specs.declared.fault.RunFault.TheVariants.{Read, Write, Memory}
use Rattle.mls_show.specs.declared.verdict.Verdict.{Verdict}
use Rattle.mls_show.specs.declared.verdict.Verdict.TheVariants.{Yes, No}

-- The most messages of a log: a limit of this library.
abbrev pub message_limit : ℕ
message_limit = 1000000

-- ---- the messages, and their lines

-- A message of a log, its result, and the state after it.
pub record ProcessedMessage : Type 0 where
  pub bytes : List ℕ
  pub answer : Result Taken Refusal
  pub state : State

-- `AreProcessed time G s turns`: the messages are processed one after the other, from the state `s` on, and none runs out
-- of memory.
abbrev pub AreProcessed : Option ℕ → VerifyFn → State → List ProcessedMessage → Type 0
AreProcessed time G s [] = Unit {0}
AreProcessed time G s (turn ∷ turns) =
    IsAnswerAt time G s turn.bytes turn.answer turn.state × AreProcessed time G turn.state turns

-- `state_after s turns` is the state after the messages.
abbrev pub state_after : State → List ProcessedMessage → State
state_after s [] = s
state_after s (turn ∷ turns) = state_after turn.state turns

-- `refusal_text e` is the number of a refusal, and for 25 that of the fault of the leaf node.
abbrev pub refusal_text : Refusal → List ℕ
refusal_text (Member fault) = codes "25 " ++ decimal (member_number fault)
refusal_text e = decimal (number_of e)

-- `ended_text ended` is the word that follows a commit after which the group is over (RFC 9420, 11.2), else nothing.
abbrev pub ended_text : Bool → List ℕ
ended_text false = []
ended_text true = codes " ended"

-- `answer_text answer s` is the text of a result: the reference of a proposal (RFC 9420, 5.2); of a commit the epoch
-- that it begins, the tree hash and the confirmed transcript hash of that epoch (8.1), and whether the group is over.
abbrev pub answer_text : Result Taken Refusal → State → List ℕ
answer_text (Ok (Proposal reference)) s = codes " accepted proposal " ++ hex_text reference
answer_text (Ok (Commit epoch)) s =
    codes " accepted commit " ++ (decimal epoch
    ++ (codes " " ++ (hex_text s.context.tree_hash ++ (codes " " ++ (hex_text s.context.confirmed
    ++ ended_text s.ended)))))
answer_text (Err e) s = codes " refused " ++ refusal_text e

-- `processed_line n turn` is the line of message n.
abbrev pub processed_line : ℕ → ProcessedMessage → List ℕ
processed_line n turn = decimal n ++ (answer_text turn.answer turn.state ++ codes "\n")

-- `processed_lines n turns` is the lines of messages, the first of which has number n.
abbrev pub processed_lines : ℕ → List ProcessedMessage → List ℕ
processed_lines n [] = []
processed_lines n (turn ∷ turns) = processed_line n turn ++ processed_lines (n + 1) turns

-- `one_if b` is 1 if `b` is true, else 0.
abbrev pub one_if : Bool → ℕ
one_if false = 0
one_if true = 1

-- `accepted_count turns` is how many messages were accepted.
abbrev pub accepted_count : List ProcessedMessage → ℕ
accepted_count [] = 0
accepted_count (turn ∷ turns) = one_if (is_ok turn.answer) + accepted_count turns

-- `refused_count turns` is how many messages were refused.
abbrev pub refused_count : List ProcessedMessage → ℕ
refused_count turns = length turns - accepted_count turns

-- `log_counts_line accepted refused broken epoch` is the last line: the counts, and the epoch at the end.
abbrev pub log_counts_line : ℕ → ℕ → ℕ → ℕ → List ℕ
log_counts_line accepted refused broken epoch =
    codes "accepted " ++ (decimal accepted
    ++ (codes " refused " ++ (decimal refused
    ++ (codes " broken " ++ (decimal broken
    ++ (codes " epoch " ++ (decimal epoch ++ codes "\n")))))))

-- `last_lines broken accepted refused epoch` is the last lines after these numbers of messages: that the next one is
-- broken, if it is, and the counts.
abbrev pub last_lines : Bool → ℕ → ℕ → ℕ → List ℕ
last_lines false accepted refused epoch = log_counts_line accepted refused 0 epoch
last_lines true accepted refused epoch =
    decimal (accepted + refused + 1) ++ (codes " broken\n" ++ log_counts_line accepted refused 1 epoch)

-- `ending broken s turns` is the last lines after these messages.
abbrev pub ending : Bool → State → List ProcessedMessage → List ℕ
ending broken s turns =
    last_lines broken (accepted_count turns) (refused_count turns) (state_after s turns).context.epoch

-- `IsVerdict broken refused verdict`: the verdict is Yes if nothing was refused or broken, else No.
abbrev pub IsVerdict : Bool → ℕ → Verdict → Type 0
IsVerdict broken refused Yes = (broken ≡ false) × (refused ≡ 0)
IsVerdict broken refused No = (broken ≡ true) ⊎ (refused ≢ 0)

-- ---- the log

-- `AreRecords bodies bytes`: the bytes are the records of these bodies, one after the other.
abbrev pub AreRecords : List (List ℕ) → List ℕ → Type 0
AreRecords [] bytes = bytes ≡ []
AreRecords (body ∷ bodies) bytes =
    (front : List ℕ) × (rest : List ℕ) × IsRecord front body × AreRecords bodies rest
    × (bytes ≡ front ++ rest)

-- `messages_to_come turns` is how many messages may still come.
abbrev pub messages_to_come : List ProcessedMessage → ℕ
messages_to_come turns = message_limit - length turns

-- `IsLogEnd most rest left broken`: a log of which `most` messages may still come is broken, as the bytes `rest` show,
-- or has ended.
abbrev pub IsLogEnd : ℕ → List ℕ → Option (List ℕ) → Bool → Type 0
IsLogEnd most rest left true = IsBrokenAt most rest left
IsLogEnd most rest left false = (rest ≡ []) × IsAtEnd left

-- `Follows time G s log0 log1 turns rest`: the messages of the records that were read of the log are processed, from the
-- state `s` on. After these records the bytes `rest` were read.
pub record Follows (time : Option ℕ) (G : VerifyFn) (s : State) (log0 log1 : Option (List ℕ))
    (turns : List ProcessedMessage) (rest : List ℕ) : Type 0 where
  pub taken : AreProcessed time G s turns
  pub bounded : length turns ≤ message_limit
  pub records : List ℕ
  pub are_records : AreRecords (map (λ turn. turn.bytes) turns) records
  pub log_read : Consumes log0 log1 (records ++ rest)

-- ---- the report of a follower that has started

-- `ReportsLog time G s log0 log1 written0 written1 verdict`: the line of each message was written, the log has ended or is
-- broken, and the last lines were written.
pub record ReportsLog (time : Option ℕ) (G : VerifyFn) (s : State) (log0 log1 written0 written1 : Option (List ℕ))
    (verdict : Verdict) : Type 0 where
  pub turns : List ProcessedMessage
  pub rest : List ℕ
  pub broken : Bool
  pub follows : Follows time G s log0 log1 turns rest
  pub log_end : IsLogEnd (messages_to_come turns) rest log1 broken
  pub wrote : Appends written0 written1 (processed_lines 1 turns ++ ending broken s turns)
  pub verdict_is : IsVerdict broken (refused_count turns) verdict

-- `StopsReading time G s log0 log1 written0 written1`: the log failed. The line of each whole message that was read was
-- written, and the bytes after these determine nothing more.
pub record StopsReading (time : Option ℕ) (G : VerifyFn) (s : State) (log0 log1 written0 written1 : Option (List ℕ)) :
    Type 0 where
  pub turns : List ProcessedMessage
  pub rest : List ℕ
  pub follows : Follows time G s log0 log1 turns rest
  pub undecided : IsIncomplete (messages_to_come turns) rest
  pub wrote : Appends written0 written1 (processed_lines 1 turns)

-- `StopsInLine time G s log0 log1 written0 written1`: the output failed in the line of the last message that was read.
-- Nothing was read after that message.
pub record StopsInLine (time : Option ℕ) (G : VerifyFn) (s : State) (log0 log1 written0 written1 : Option (List ℕ)) :
    Type 0 where
  pub turns : List ProcessedMessage
  pub last : ProcessedMessage
  pub follows : Follows time G s log0 log1 (turns ++ last ∷ []) []
  pub part : List ℕ
  pub more : List ℕ
  pub line_is : processed_line (length turns + 1) last ≡ part ++ more
  pub wrote : Appends written0 written1 (processed_lines 1 turns ++ part)

-- `StopsInEnding time G s log0 log1 written0 written1`: the output failed in the last lines.
pub record StopsInEnding (time : Option ℕ) (G : VerifyFn) (s : State) (log0 log1 written0 written1 : Option (List ℕ)) :
    Type 0 where
  pub turns : List ProcessedMessage
  pub rest : List ℕ
  pub broken : Bool
  pub follows : Follows time G s log0 log1 turns rest
  pub log_end : IsLogEnd (messages_to_come turns) rest log1 broken
  pub part : List ℕ
  pub more : List ℕ
  pub ending_is : ending broken s turns ≡ part ++ more
  pub wrote : Appends written0 written1 (processed_lines 1 turns ++ part)

-- `IsLeftOver most rest left`: what was read after the printed messages when memory ran out. It is incomplete, one more
-- record, or what shows that the log has ended or is broken.
abbrev pub IsLeftOver : ℕ → List ℕ → Option (List ℕ) → Type 0
IsLeftOver most rest left =
    IsIncomplete most rest ⊎ (((body : List ℕ) × IsRecord rest body)
    ⊎ ((broken : Bool) × IsLogEnd most rest left broken))

-- `StopsWithoutMemory time G s log0 log1 written0 written1`: memory ran out. The line of each message that was read was
-- written, except the one at which it ran out.
pub record StopsWithoutMemory (time : Option ℕ) (G : VerifyFn) (s : State) (log0 log1 written0 written1 : Option (List ℕ)) :
    Type 0 where
  pub turns : List ProcessedMessage
  pub rest : List ℕ
  pub follows : Follows time G s log0 log1 turns rest
  pub left_over : IsLeftOver (messages_to_come turns) rest log1
  pub wrote : Appends written0 written1 (processed_lines 1 turns)

-- `ReportsPart time G s log0 log1 written0 written1 fault`: what was written if the report of the log was not written whole,
-- by the fault that is returned.
abbrev pub ReportsPart : Option ℕ → VerifyFn → State → Option (List ℕ) → Option (List ℕ) → Option (List ℕ)
    → Option (List ℕ) → RunFault → Type 0
ReportsPart time G s log0 log1 written0 written1 Read = StopsReading time G s log0 log1 written0 written1
ReportsPart time G s log0 log1 written0 written1 Write =
    StopsInLine time G s log0 log1 written0 written1 ⊎ StopsInEnding time G s log0 log1 written0 written1
ReportsPart time G s log0 log1 written0 written1 Memory = StopsWithoutMemory time G s log0 log1 written0 written1

-- ---- the whole report

-- `ReportsDecline G i log0 log1 written0 written1 verdict`: no follower starts or resumes from the inputs, the log was not
-- read, and one line says why.
pub record ReportsDecline {L : Type 0} (G : VerifyFn) (i : Inputs) (log0 log1 : L) (written0 written1 : Option (List ℕ))
    (verdict : Verdict) : Type 0 where
  pub finding : Finding
  pub declines : Declines G i finding
  pub unread : log1 ≡ log0
  pub wrote : Appends written0 written1 (finding_line finding)
  pub verdict_is : verdict ≡ No

-- `ReportsReplay time G i log0 log1 written0 written1 verdict last`: a follower starts or resumes, the report of the log was
-- written, and `last` is the state after the last whole message of the log.
pub record ReportsReplay (time : Option ℕ) (G : VerifyFn) (i : Inputs) (log0 log1 written0 written1 : Option (List ℕ))
    (verdict : Verdict) (last : State) : Type 0 where
  pub state : State
  pub starts : IsFirstState G i state
  pub reports : ReportsLog time G state log0 log1 written0 written1 verdict
  pub last_is : last ≡ state_after state reports.turns

-- `Replays time G i log0 log1 written0 written1 verdict last`: the report was written whole. `last` is the state after the
-- last whole message of the log; None if no follower starts or resumes.
abbrev pub Replays : Option ℕ → VerifyFn → Inputs → Option (List ℕ) → Option (List ℕ) → Option (List ℕ)
    → Option (List ℕ) → Verdict → Option State → Type 0
Replays time G i log0 log1 written0 written1 verdict None = ReportsDecline G i log0 log1 written0 written1 verdict
Replays time G i log0 log1 written0 written1 verdict (Some last) =
    ReportsReplay time G i log0 log1 written0 written1 verdict last

-- ---- a part of the report

-- `ReportsNothing log0 log1 written0 written1`: nothing was written, and the log was not read.
pub record ReportsNothing {L : Type 0} (log0 log1 : L) (written0 written1 : Option (List ℕ)) : Type 0 where
  pub unread : log1 ≡ log0
  pub wrote : Appends written0 written1 []

-- `StopsInDecline G i log0 log1 written0 written1`: the output failed in the line that says why no follower starts or
-- resumes. The log was not read.
pub record StopsInDecline {L : Type 0} (G : VerifyFn) (i : Inputs) (log0 log1 : L) (written0 written1 : Option (List ℕ))
    : Type 0 where
  pub finding : Finding
  pub declines : Declines G i finding
  pub unread : log1 ≡ log0
  pub wrote : AppendsPrefix written0 written1 (finding_line finding)

-- `StopsBefore G i log0 log1 written0 written1 fault`: no follower has started or resumed, by the fault that is returned.
abbrev pub StopsBefore : VerifyFn → Inputs → Option (List ℕ) → Option (List ℕ) → Option (List ℕ) → Option (List ℕ)
    → RunFault → Type 0
StopsBefore G i log0 log1 written0 written1 Read = ReportsNothing log0 log1 written0 written1
StopsBefore G i log0 log1 written0 written1 Write = StopsInDecline G i log0 log1 written0 written1
StopsBefore G i log0 log1 written0 written1 Memory = ReportsNothing log0 log1 written0 written1

-- `StopsAfter time G i log0 log1 written0 written1 fault`: a follower has started or resumed, and the report of the log was
-- not written whole.
pub record StopsAfter (time : Option ℕ) (G : VerifyFn) (i : Inputs) (log0 log1 written0 written1 : Option (List ℕ))
    (fault : RunFault) : Type 0 where
  pub state : State
  pub starts : IsFirstState G i state
  pub reports : ReportsPart time G state log0 log1 written0 written1 fault

-- `ReplaysPart time G i log0 log1 written0 written1 fault`: what was written if the report was not written whole, by the
-- fault that is returned. It is a prefix of what the bytes that were read determine.
abbrev pub ReplaysPart : Option ℕ → VerifyFn → Inputs → Option (List ℕ) → Option (List ℕ) → Option (List ℕ)
    → Option (List ℕ) → RunFault → Type 0
ReplaysPart time G i log0 log1 written0 written1 fault =
    StopsBefore G i log0 log1 written0 written1 fault ⊎ StopsAfter time G i log0 log1 written0 written1 fault
