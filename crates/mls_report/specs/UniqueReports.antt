-- A report is a function of what the group is followed from (`i`), of the bytes of the log, of the checker's verification
-- function G, and of the time, if one is passed. Used by contracts.
use Rattle.std.specs.Prelude.{List, ℕ, ◌++◌, Bool, Option, Some, option_map, ◌≡◌, ◌⊎◌}
use Rattle.mls_check.specs.Signatures.{VerifyFn}
use Rattle.mls_follow.specs.State.{State}
use Rattle.mls_signatures.specs.declared.signature_to_verify.SignatureToVerify.{SignatureToVerify}
use Rattle.mls_start.specs.FindingLaws.{AreAlike}
use Rattle.mls_start.specs.Inputs.{Inputs}
use Rattle.mls_start.specs.declared.finding.Finding.{Finding}
use Rattle.mls_report.specs.Finding.{finding_line}
use Rattle.mls_report.specs.Replay.{ProcessedMessage, Follows, IsLogEnd, Replays, messages_to_come}
use Rattle.mls_report.specs.SignaturesReport.{HasSignatures, Signatures}
use Rattle.mls_show.specs.ReadAll.{ReadsAll}
use Rattle.mls_show.specs.declared.verdict.Verdict.{Verdict}

-- ---- an input

-- The bytes of a source determine what is read of it to its end, however they are divided among reads.
abbrev pub InputIsUnique : Type 0
InputIsUnique =
    (all : List ℕ) (left behind : Option (List ℕ)) (bytes other : List ℕ)
    → ReadsAll (Some all) left bytes → ReadsAll (Some all) behind other → bytes ≡ other

-- ---- a replay

-- `EndsLog time G s log left turns broken`: the messages of a log are processed from the state `s` on, and the log has ended
-- or is broken.
pub record EndsLog (time : Option ℕ) (G : VerifyFn) (s : State) (log left : Option (List ℕ))
    (turns : List ProcessedMessage) (broken : Bool) : Type 0 where
  pub rest : List ℕ
  pub follows : Follows time G s log left turns rest
  pub log_end : IsLogEnd (messages_to_come turns) rest left broken

-- The bytes of a log determine which messages are processed, the result of each, and whether the log is broken.
abbrev pub LogIsUnique : Type 0
LogIsUnique =
    (time : Option ℕ) (G : VerifyFn) (s : State) (log : List ℕ) (left behind : Option (List ℕ))
    (turns others : List ProcessedMessage) (broken end : Bool) → EndsLog time G s (Some log) left turns broken
    → EndsLog time G s (Some log) behind others end → (turns ≡ others) × (broken ≡ end)

-- `AreAlikeTexts text other`: the texts are equal, except for which fault is named of an input that cannot be read.
abbrev pub AreAlikeTexts : List ℕ → List ℕ → Type 0
AreAlikeTexts text other =
    (text ≡ other) ⊎ ((finding : Finding) × (more : Finding) × AreAlike finding more
    × (text ≡ finding_line finding) × (other ≡ finding_line more))

-- `IsReplayReport time G i log_bytes text verdict`: a replay from the inputs over these bytes of a log has written this text,
-- and has this verdict.
pub record IsReplayReport (time : Option ℕ) (G : VerifyFn) (i : Inputs) (log_bytes text : List ℕ) (verdict : Verdict)
    : Type 0 where
  pub log_left : Option (List ℕ)
  pub before : List ℕ
  pub last : Option State
  pub replays : Replays time G i (Some log_bytes) log_left (Some before) (Some (before ++ text)) verdict last

-- The inputs and the bytes of a log determine what a replay writes, and its verdict.
abbrev pub ReplayIsUnique : Type 0
ReplayIsUnique =
    (time : Option ℕ) (G : VerifyFn) (i : Inputs) (log_bytes text other : List ℕ) (verdict more : Verdict)
    → IsReplayReport time G i log_bytes text verdict → IsReplayReport time G i log_bytes other more
    → AreAlikeTexts text other × (verdict ≡ more)

-- ---- the signatures to verify

-- The bytes of a message and the state before it determine its signatures, or that the bytes are no message.
abbrev pub MessageSignaturesAreUnique : Type 0
MessageSignaturesAreUnique =
    (s : State) (bytes : List ℕ) (needed other : Option (List SignatureToVerify))
    → HasSignatures s bytes needed → HasSignatures s bytes other → needed ≡ other

-- `IsSignaturesReport R i log_bytes text verdict`: the report `signatures` of the inputs, and of these bytes of a log or
-- without one, has written this text, and has this verdict. `R` is the verification function of the receipts.
pub record IsSignaturesReport (R : VerifyFn) (i : Inputs) (log_bytes : Option (List ℕ)) (text : List ℕ)
    (verdict : Verdict) : Type 0 where
  pub log_left : Option (Option (List ℕ))
  pub before : List ℕ
  pub signatures : Signatures R i (option_map Some log_bytes) log_left (Some before) (Some (before ++ text)) verdict

-- The inputs, the bytes of a log and the verification function of the receipts determine what `signatures` writes, and its
-- verdict.
abbrev pub SignaturesAreUnique : Type 0
SignaturesAreUnique =
    (R : VerifyFn) (i : Inputs) (log_bytes : Option (List ℕ)) (text other : List ℕ) (verdict more : Verdict)
    → IsSignaturesReport R i log_bytes text verdict → IsSignaturesReport R i log_bytes other more
    → AreAlikeTexts text other × (verdict ≡ more)
