-- The contracts of the steps of `signatures`. Internal: no public contract uses this.
use Rattle.std.specs.Prelude.{List, [], ◌++◌, ℕ, Bool, Option, Some, None, is_some, Result, ◌≡◌, ◌⊎◌}
use Rattle.std.specs.Io.KnownBytes.{Appends}
use Rattle.mls_wire.specs.Devices.{AppendsPrefix}
use Rattle.mls_check.specs.Signatures.{VerifyFn}
use Rattle.mls_follow.specs.State.{State}
use Rattle.mls_follow.specs.TimedAnswers.{IsAnswerAt}
use Rattle.mls_apply.specs.declared.refusal.Refusal.{Refusal}
use Rattle.mls_follow.specs.declared.taken.Taken.{Taken}
use Rattle.mls_signatures.specs.declared.signature_to_verify.SignatureToVerify.{SignatureToVerify}
use Rattle.mls_follow.specs.CoveredLogs.{all_good}
use Rattle.mls_report.specs.SignaturesReport.{HasSignatures, signature_lines, needed_lines}
use Rattle.mls_wire.specs.declared.fault.RunFault.{RunFault}
use Rattle.mls_wire.specs.declared.fault.RunFault.TheVariants.{Read, Write, Memory}

-- ---- lines that are written one signature after the other. `lines` is the lines of a list of signatures

-- Memory ran out. The lines of the signatures before were written whole.
pub record LinesWithoutMemory (lines : List SignatureToVerify → List ℕ) (signatures : List SignatureToVerify)
    (written0 written1 : Option (List ℕ)) : Type 0 where
  pub front : List SignatureToVerify
  pub rest : List SignatureToVerify
  pub split : signatures ≡ front ++ rest
  pub wrote : Appends written0 written1 (lines front)

-- The lines were not written whole, with this fault.
abbrev pub StopsInLines : (List SignatureToVerify → List ℕ) → List SignatureToVerify → Option (List ℕ)
    → Option (List ℕ) → RunFault → Type 0
StopsInLines lines signatures written0 written1 Read = ⊥
StopsInLines lines signatures written0 written1 Write = AppendsPrefix written0 written1 (lines signatures)
StopsInLines lines signatures written0 written1 Memory = LinesWithoutMemory lines signatures written0 written1

-- ---- a message

-- The needed signatures of message n were reported, and it was processed.
pub record WritesSignatures (R : VerifyFn) (s : State) (n : ℕ) (bytes : List ℕ) (new : State)
    (written0 written1 : Option (List ℕ)) (is_read : Bool) : Type 0 where
  pub needed : Option (List SignatureToVerify)
  pub has_signatures : HasSignatures s bytes needed
  pub answer : Result Taken Refusal
  pub is_answer : IsAnswerAt None all_good s bytes answer new
  pub wrote : Appends written0 written1 (signature_lines R n needed)
  pub read : is_read ≡ is_some needed

-- Memory ran out in the lines of a message. The lines of the signatures before were written whole.
abbrev pub MessageLinesWithoutMemory : VerifyFn → Option (List SignatureToVerify) → Option (List ℕ)
    → Option (List ℕ) → Type 0
MessageLinesWithoutMemory R None written0 written1 = Appends written0 written1 []
MessageLinesWithoutMemory R (Some needed) written0 written1 =
    LinesWithoutMemory (needed_lines R) needed written0 written1

-- The lines of message n were not written whole, with this fault.
abbrev pub StopsInMessageLines : VerifyFn → ℕ → Option (List SignatureToVerify) → Option (List ℕ) → Option (List ℕ)
    → RunFault → Type 0
StopsInMessageLines R n needed written0 written1 Read = ⊥
StopsInMessageLines R n needed written0 written1 Write = AppendsPrefix written0 written1 (signature_lines R n needed)
StopsInMessageLines R n needed written0 written1 Memory = MessageLinesWithoutMemory R needed written0 written1

-- Message n was processed, and then its lines were not written whole, with this fault.
pub record StopsInSignatures (R : VerifyFn) (s : State) (n : ℕ) (bytes : List ℕ)
    (written0 written1 : Option (List ℕ)) (fault : RunFault) : Type 0 where
  pub needed : Option (List SignatureToVerify)
  pub has_signatures : HasSignatures s bytes needed
  pub answer : Result Taken Refusal
  pub new : State
  pub is_answer : IsAnswerAt None all_good s bytes answer new
  pub stops : StopsInMessageLines R n needed written0 written1 fault

-- Memory ran out before message n was processed.
pub record StopsBeforeMessage (written0 written1 : Option (List ℕ)) (fault : RunFault) : Type 0 where
  pub is_memory : fault ≡ Memory
  pub wrote : Appends written0 written1 []

-- The needed signatures of message n were not reported, with this fault.
abbrev pub StopsInMessage : VerifyFn → State → ℕ → List ℕ → Option (List ℕ) → Option (List ℕ) → RunFault → Type 0
StopsInMessage R s n bytes written0 written1 fault =
    StopsBeforeMessage written0 written1 fault ⊎ StopsInSignatures R s n bytes written0 written1 fault
