-- The report `signatures`: a line for each signature to verify that has no receipt. `R` is the verification function of
-- the receipts, `logged` are messages with their signatures; `i`, `log0`, `log1`, `written0`, `written1` as in `Replay`.
-- Used by contracts.
use Rattle.std.specs.Prelude.{List, [], ◌∷◌, ℕ, ◌+◌, ◌++◌, ◌&&◌, codes, length, map, Bool, true, false, if◌then◌else◌, is_some, Option, Some, None, option_map, ◌≡◌, ◌⊎◌}
use Rattle.std.specs.Fmt.{decimal}
use Rattle.std.specs.Io.KnownBytes.{Appends}
use Rattle.sha2.specs.Sha256.{sha256}
use Rattle.mls_wire.specs.Devices.{Device, AppendsPrefix}
use Rattle.mls_wire.specs.Logs.{IsIncomplete}
use Rattle.mls_check.specs.Receipts.{receipt_input}
use Rattle.mls_check.specs.Signatures.{VerifyFn}
use Rattle.mls_follow.specs.Acceptance.{EncodesNoMessage}
use Rattle.mls_follow.specs.CoveredLogs.{all_good}
use Rattle.mls_follow.specs.State.{State}
use Rattle.mls_follow.specs.MessageSignatures.{AreSignaturesOf}
use Rattle.mls_signatures.specs.declared.signature_to_verify.SignatureToVerify.{SignatureToVerify}
use Rattle.mls_start.specs.Inputs.{Inputs}
use Rattle.mls_start.specs.StartSignatures.{StartsWith}
use Rattle.mls_report.specs.Replay.{ProcessedMessage, Follows, IsLogEnd, IsLeftOver, messages_to_come, ReportsDecline, ReportsNothing, StopsInDecline}
use Rattle.mls_show.specs.ValueTexts.{hex_text}
use Rattle.mls_wire.specs.declared.fault.RunFault.{RunFault}
use Rattle.mls_wire.specs.declared.fault.RunFault.TheVariants.{Read, Write, Memory}
use Rattle.mls_show.specs.declared.verdict.Verdict.{Verdict}
use Rattle.mls_show.specs.declared.verdict.Verdict.TheVariants.{Yes, No}

-- ---- lines

-- `receipt_text receipt` is the receipt of a signature, or a dash if it has none, because a part is over the limit of a
-- vector.
abbrev pub receipt_text : Option (List ℕ) → List ℕ
receipt_text None = codes "-"
receipt_text (Some digest) = hex_text digest

-- `signature_line w` is the line of a signature: its receipt, the suite, the key, the SignContent (RFC 9420, 5.1.2) and
-- the signature.
abbrev pub signature_line : SignatureToVerify → List ℕ
signature_line w =
    receipt_text (option_map sha256 (receipt_input w.suite w.key w.content w.signature))
    ++ (codes " " ++ (decimal w.suite
    ++ (codes " " ++ (hex_text w.key
    ++ (codes " " ++ (hex_text w.content
    ++ (codes " " ++ (hex_text w.signature ++ codes "\n"))))))))

-- `line_unless R w` is the line of a signature, or nothing if the signature has a receipt.
abbrev pub line_unless : VerifyFn → SignatureToVerify → List ℕ
line_unless R w = if R w.suite w.key w.content w.signature then [] else signature_line w

-- `needed_lines R ws` is the lines of the signatures of a list without a receipt.
abbrev pub needed_lines : VerifyFn → List SignatureToVerify → List ℕ
needed_lines R [] = []
needed_lines R (w ∷ ws) = line_unless R w ++ needed_lines R ws

-- ---- the messages of a log

-- `HasSignatures s bytes needed`: `needed` is the signatures of a message in a state, or `None` if the bytes are no
-- message.
abbrev pub HasSignatures : State → List ℕ → Option (List SignatureToVerify) → Type 0
HasSignatures s bytes None = EncodesNoMessage s.profile bytes
HasSignatures s bytes (Some needed) = AreSignaturesOf s bytes needed

-- A message of a log, and its signatures in the state before it.
pub record LoggedMessage : Type 0 where
  pub turn : ProcessedMessage
  pub needed : Option (List SignatureToVerify)

-- `turns_of logged` is the messages as they are processed.
abbrev pub turns_of : List LoggedMessage → List ProcessedMessage
turns_of logged = map (λ a. a.turn) logged

-- `HaveSignatures s logged`: the messages have these signatures, from the state `s` on.
abbrev pub HaveSignatures : State → List LoggedMessage → Type 0
HaveSignatures s [] = Unit {0}
HaveSignatures s (a ∷ logged) = HasSignatures s a.turn.bytes a.needed × HaveSignatures a.turn.state logged

-- `signature_lines R n needed` is the lines of message n: of its signatures, or, if it cannot be read, the line of
-- `replay`.
abbrev pub signature_lines : VerifyFn → ℕ → Option (List SignatureToVerify) → List ℕ
signature_lines R n None = decimal n ++ codes " refused 1\n"
signature_lines R n (Some needed) = needed_lines R needed

-- `log_lines R n logged` is the lines of messages, the first of which has number n.
abbrev pub log_lines : VerifyFn → ℕ → List LoggedMessage → List ℕ
log_lines R n [] = []
log_lines R n (a ∷ logged) = signature_lines R n a.needed ++ log_lines R (n + 1) logged

-- `all_read logged`: each message could be read.
abbrev pub all_read : List LoggedMessage → Bool
all_read [] = true
all_read (a ∷ logged) = is_some a.needed && all_read logged

-- `break_line broken count` is the line of a broken log after this number of messages, as in `replay`.
abbrev pub break_line : Bool → ℕ → List ℕ
break_line false count = []
break_line true count = decimal (count + 1) ++ codes " broken\n"

-- `log_verdict broken readable` is Yes if the log is not broken and each message could be read, else No.
abbrev pub log_verdict : Bool → Bool → Verdict
log_verdict true readable = No
log_verdict false true = Yes
log_verdict false false = No

-- `ProcessesLog s log0 log1 logged rest`: the messages of the records that were read of a log are processed as by
-- `replay`, each signature being good, and have these signatures. After these records the bytes `rest` were read.
pub record ProcessesLog (s : State) (log0 log1 : Option (List ℕ)) (logged : List LoggedMessage) (rest : List ℕ)
    : Type 0 where
  pub follows : Follows None all_good s log0 log1 (turns_of logged) rest
  pub has_signatures : HaveSignatures s logged

-- ---- the report of a log

-- `ReportsSignatureLog R s log0 log1 written0 written1 verdict`: the lines of each message were written, and the log
-- has ended or is broken.
pub record ReportsSignatureLog (R : VerifyFn) (s : State) (log0 log1 written0 written1 : Option (List ℕ))
    (verdict : Verdict) : Type 0 where
  pub logged : List LoggedMessage
  pub rest : List ℕ
  pub broken : Bool
  pub processes : ProcessesLog s log0 log1 logged rest
  pub log_end : IsLogEnd (messages_to_come (turns_of logged)) rest log1 broken
  pub wrote : Appends written0 written1 (log_lines R 1 logged ++ break_line broken (length logged))
  pub verdict_is : verdict ≡ log_verdict broken (all_read logged)

-- `SignatureLogReading R s log0 log1 written0 written1`: the log failed. The lines of each whole message that was read
-- were written, and the bytes after these determine nothing more.
pub record SignatureLogReading (R : VerifyFn) (s : State) (log0 log1 written0 written1 : Option (List ℕ)) :
    Type 0 where
  pub logged : List LoggedMessage
  pub rest : List ℕ
  pub processes : ProcessesLog s log0 log1 logged rest
  pub undecided : IsIncomplete (messages_to_come (turns_of logged)) rest
  pub wrote : Appends written0 written1 (log_lines R 1 logged)

-- `SignatureLogInLines R s log0 log1 written0 written1`: the output failed in the lines of the last message that was
-- read. Nothing was read after that message.
pub record SignatureLogInLines (R : VerifyFn) (s : State) (log0 log1 written0 written1 : Option (List ℕ)) :
    Type 0 where
  pub logged : List LoggedMessage
  pub last : LoggedMessage
  pub processes : ProcessesLog s log0 log1 (logged ++ last ∷ []) []
  pub part : List ℕ
  pub more : List ℕ
  pub lines_are : signature_lines R (length logged + 1) last.needed ≡ part ++ more
  pub wrote : Appends written0 written1 (log_lines R 1 logged ++ part)

-- `SignatureLogInBreak R s log0 log1 written0 written1`: the output failed in the line of a broken log.
pub record SignatureLogInBreak (R : VerifyFn) (s : State) (log0 log1 written0 written1 : Option (List ℕ)) :
    Type 0 where
  pub logged : List LoggedMessage
  pub rest : List ℕ
  pub processes : ProcessesLog s log0 log1 logged rest
  pub log_end : IsLogEnd (messages_to_come (turns_of logged)) rest log1 true
  pub part : List ℕ
  pub more : List ℕ
  pub line_is : break_line true (length logged) ≡ part ++ more
  pub wrote : Appends written0 written1 (log_lines R 1 logged ++ part)

-- `SignatureLogWithoutMemory R s log0 log1 written0 written1`: memory ran out. The lines of each message that was read
-- were written, except the one at which it ran out.
pub record SignatureLogWithoutMemory (R : VerifyFn) (s : State) (log0 log1 written0 written1 : Option (List ℕ)) :
    Type 0 where
  pub logged : List LoggedMessage
  pub rest : List ℕ
  pub processes : ProcessesLog s log0 log1 logged rest
  pub left_over : IsLeftOver (messages_to_come (turns_of logged)) rest log1
  pub wrote : Appends written0 written1 (log_lines R 1 logged)

-- `SignatureLogInSignatures R s log0 log1 written0 written1`: memory ran out in the lines of the last message that was
-- read. The lines of the signatures before were written whole. Nothing was read after that message.
pub record SignatureLogInSignatures (R : VerifyFn) (s : State) (log0 log1 written0 written1 : Option (List ℕ)) :
    Type 0 where
  pub logged : List LoggedMessage
  pub last : ProcessedMessage
  pub front : List SignatureToVerify
  pub rest : List SignatureToVerify
  pub processes : ProcessesLog s log0 log1
      (logged ++ record { turn = last; needed = Some (front ++ rest) } ∷ []) []
  pub wrote : Appends written0 written1 (log_lines R 1 logged ++ needed_lines R front)

-- `SignatureLogPart R s log0 log1 written0 written1 fault`: what was written if the report of the log was not written
-- whole, by the fault that is returned.
abbrev pub SignatureLogPart : VerifyFn → State → Option (List ℕ) → Option (List ℕ) → Option (List ℕ)
    → Option (List ℕ) → RunFault → Type 0
SignatureLogPart R s log0 log1 written0 written1 Read = SignatureLogReading R s log0 log1 written0 written1
SignatureLogPart R s log0 log1 written0 written1 Write =
    SignatureLogInLines R s log0 log1 written0 written1 ⊎ SignatureLogInBreak R s log0 log1 written0 written1
SignatureLogPart R s log0 log1 written0 written1 Memory =
    SignatureLogWithoutMemory R s log0 log1 written0 written1
    ⊎ SignatureLogInSignatures R s log0 log1 written0 written1

-- `device_bytes device log` is the bytes that a log that is passed has left, `device` being the device of a log.
abbrev pub device_bytes : {L : Type 0} → (L → Device) → Option L → Option (Option (List ℕ))
device_bytes device log = option_map (λ l. (device l).bytes) log

-- `has_failed failed`: a log that is passed has failed.
abbrev pub has_failed : Option Bool → Bool
has_failed None = false
has_failed (Some failed) = failed

-- `ReportsLogIf R s log0 log1 written0 written1 verdict`: the report of the log was written, or there is no log, and
-- the verdict is Yes.
abbrev pub ReportsLogIf : VerifyFn → State → Option (Option (List ℕ)) → Option (Option (List ℕ))
    → Option (List ℕ) → Option (List ℕ) → Verdict → Type 0
ReportsLogIf R s None None written0 written1 verdict =
    Appends written0 written1 [] × (verdict ≡ Yes)
ReportsLogIf R s (Some log0) (Some log1) written0 written1 verdict =
    ReportsSignatureLog R s log0 log1 written0 written1 verdict
ReportsLogIf R s _ _ written0 written1 verdict = ⊥

-- `LogPartIf R s log0 log1 ..`: a part of the lines of the log was written, before this fault. Without a log there is
-- no such part.
abbrev pub LogPartIf : VerifyFn → State → Option (Option (List ℕ)) → Option (Option (List ℕ))
    → Option (List ℕ) → Option (List ℕ) → RunFault → Type 0
LogPartIf R s (Some log0) (Some log1) written0 written1 fault =
    SignatureLogPart R s log0 log1 written0 written1 fault
LogPartIf R s _ _ written0 written1 fault = ⊥

-- ---- the whole report. A follower starts or resumes from the inputs if each signature is good, or none does even then

-- `ReportsSignatures R i log0 log1 written0 written1 verdict`: a follower starts or resumes. The lines of the signatures of
-- that were written, and then those of the log, if there is one.
pub record ReportsSignatures (R : VerifyFn) (i : Inputs) (log0 log1 : Option (Option (List ℕ)))
    (written0 written1 : Option (List ℕ)) (verdict : Verdict) : Type 0 where
  pub state : State
  pub needed : List SignatureToVerify
  pub starts : StartsWith i state needed
  pub between : Option (List ℕ)
  pub wrote : Appends written0 between (needed_lines R needed)
  pub reports : ReportsLogIf R state log0 log1 between written1 verdict

-- `Signatures R i log0 log1 written0 written1 verdict`: the report was written whole.
abbrev pub Signatures : VerifyFn → Inputs → Option (Option (List ℕ)) → Option (Option (List ℕ)) → Option (List ℕ)
    → Option (List ℕ) → Verdict → Type 0
Signatures R i log0 log1 written0 written1 verdict =
    ReportsDecline all_good i log0 log1 written0 written1 verdict
    ⊎ ReportsSignatures R i log0 log1 written0 written1 verdict

-- ---- a part of the report

-- `SignaturesInStart R i log0 log1 written0 written1`: the output failed in the lines of the start.
pub record SignaturesInStart (R : VerifyFn) (i : Inputs) (log0 log1 : Option (Option (List ℕ)))
    (written0 written1 : Option (List ℕ)) : Type 0 where
  pub state : State
  pub needed : List SignatureToVerify
  pub starts : StartsWith i state needed
  pub unread : log1 ≡ log0
  pub wrote : AppendsPrefix written0 written1 (needed_lines R needed)

-- `SignaturesWithoutMemory R i log0 log1 written0 written1`: memory ran out in the lines of the start. The lines of the
-- signatures before were written whole.
pub record SignaturesWithoutMemory (R : VerifyFn) (i : Inputs) (log0 log1 : Option (Option (List ℕ)))
    (written0 written1 : Option (List ℕ)) : Type 0 where
  pub state : State
  pub front : List SignatureToVerify
  pub rest : List SignatureToVerify
  pub starts : StartsWith i state (front ++ rest)
  pub unread : log1 ≡ log0
  pub wrote : Appends written0 written1 (needed_lines R front)

-- `SignaturesBefore R i log0 log1 written0 written1 fault`: nothing of the log was read, by the fault that is returned.
abbrev pub SignaturesBefore : VerifyFn → Inputs → Option (Option (List ℕ)) → Option (Option (List ℕ))
    → Option (List ℕ) → Option (List ℕ) → RunFault → Type 0
SignaturesBefore R i log0 log1 written0 written1 Read = ReportsNothing log0 log1 written0 written1
SignaturesBefore R i log0 log1 written0 written1 Write =
    StopsInDecline all_good i log0 log1 written0 written1
    ⊎ SignaturesInStart R i log0 log1 written0 written1
SignaturesBefore R i log0 log1 written0 written1 Memory =
    ReportsNothing log0 log1 written0 written1
    ⊎ SignaturesWithoutMemory R i log0 log1 written0 written1

-- `SignaturesAfter R i log0 log1 written0 written1 fault`: the lines of the start were written whole, and those of the log
-- were not.
pub record SignaturesAfter (R : VerifyFn) (i : Inputs) (log0 log1 : Option (Option (List ℕ)))
    (written0 written1 : Option (List ℕ)) (fault : RunFault) : Type 0 where
  pub state : State
  pub needed : List SignatureToVerify
  pub starts : StartsWith i state needed
  pub between : Option (List ℕ)
  pub wrote : Appends written0 between (needed_lines R needed)
  pub reports : LogPartIf R state log0 log1 between written1 fault

-- `SignaturesPart R i log0 log1 written0 written1 fault`: what was written if the report was not written whole, by the
-- fault that is returned. It is a prefix of what the bytes that were read determine.
abbrev pub SignaturesPart : VerifyFn → Inputs → Option (Option (List ℕ)) → Option (Option (List ℕ)) → Option (List ℕ)
    → Option (List ℕ) → RunFault → Type 0
SignaturesPart R i log0 log1 written0 written1 fault =
    SignaturesBefore R i log0 log1 written0 written1 fault
    ⊎ SignaturesAfter R i log0 log1 written0 written1 fault
