-- Which signatures suffice: a checker that accepts those of a start and a log leads to the results of one that accepts
-- every signature (own rule). `R` is its verification function, such as that of a set of receipts. Used by contracts.
use Rattle.std.specs.Prelude.{◌≡◌, ◌↔◌, ℕ, true, List, [], ◌∷◌, map, All, Option, Some, option_map, Result}
use Rattle.mls_tree.specs.RatchetTree.{RatchetTree}
use Rattle.sha2.specs.Sha256.{sha256}
use Rattle.mls_check.specs.Receipts.{receipt_input, listed}
use Rattle.mls_check.specs.ReceiptSets.{has_digest}
use Rattle.mls_check.specs.Signatures.{VerifyFn}
use Rattle.mls_msgs.specs.declared.group_info.GroupInfo.{GroupInfo}
use Rattle.mls_msgs.specs.declared.profile.Profile.{Profile}
use Rattle.mls_apply.specs.declared.refusal.Refusal.{Refusal}
use Rattle.mls_follow.specs.State.{State}
use Rattle.mls_follow.specs.Start.{UsesTree, IsStart, IsStartFault}
use Rattle.mls_follow.specs.Runs.{Call, IsAnswer}
use Rattle.mls_follow.specs.Validity.{IsValidState}
use Rattle.mls_signatures.specs.SignaturesToVerify.{start_signatures}
use Rattle.mls_follow.specs.MessageSignatures.{AreSignaturesOf}
use Rattle.mls_follow.specs.declared.start_fault.StartFault.{StartFault}
use Rattle.mls_follow.specs.declared.taken.Taken.{Taken}
use Rattle.mls_signatures.specs.declared.signature_to_verify.SignatureToVerify.{SignatureToVerify}
use Rattle.mls_msgs.specs.declared.rules.Rules.{Rules}

-- `all_good` accepts every signature.
abbrev pub all_good : VerifyFn
all_good suite key content signature = true

-- `Covers R needed`: `R` accepts each of these signatures.
abbrev pub Covers : VerifyFn → List SignatureToVerify → Type 0
Covers R needed = All (λ q. R q.suite q.key q.content q.signature ≡ true) needed

-- `CoversStart R info supplied`: `R` accepts each signature of the start, for each tree that the start may use.
abbrev pub CoversStart : VerifyFn → GroupInfo → Option RatchetTree → Type 0
CoversStart R info supplied =
    (t : RatchetTree) → UsesTree supplied info.extensions t → Covers R (start_signatures info t.tree)

-- `CoversMessage R s bytes`: `R` accepts each signature of the message in the state. Bytes that are no message have
-- none.
abbrev pub CoversMessage : VerifyFn → State → List ℕ → Type 0
CoversMessage R s bytes = (needed : List SignatureToVerify) → AreSignaturesOf s bytes needed → Covers R needed

-- `CoversLog R s messages`: `R` accepts each signature of each message, in the state to which the messages before it
-- lead if every signature is good.
abbrev pub CoversLog : VerifyFn → State → List (List ℕ) → Type 0
CoversLog R s [] = Unit {0}
CoversLog R s (bytes ∷ log) =
    CoversMessage R s bytes
    × ((answer : Result Taken Refusal) (new : State) → IsAnswer all_good s bytes answer new → CoversLog R new log)

-- `IsAnsweredRun G s calls new`: a run that does not run out of memory.
abbrev pub IsAnsweredRun : VerifyFn → State → List Call → State → Type 0
IsAnsweredRun G s [] new = new ≡ s
IsAnsweredRun G s (call ∷ calls) new =
    (mid : State) × IsAnswer G s call.bytes call.answer mid × IsAnsweredRun G mid calls new

-- `HaveReceipts digests needed`: each of these signatures has a receipt, which is in the list.
abbrev pub HaveReceipts : List (List ℕ) → List SignatureToVerify → Type 0
HaveReceipts digests needed =
    All (λ q. (digest : List ℕ)
    × (option_map sha256 (receipt_input q.suite q.key q.content q.signature) ≡ Some digest)
    × (has_digest digests digest ≡ true)) needed

-- ---- theorems

-- Receipts cover the signatures whose receipts they are.
abbrev pub ReceiptsCover : Type 0
ReceiptsCover =
    (digests : List (List ℕ)) (needed : List SignatureToVerify) → HaveReceipts digests needed → Covers (listed digests) needed

-- Two runs from one state over the same messages, which do not run out of memory, are equal.
abbrev pub AnsweredRunsAreOne : Type 0
AnsweredRunsAreOne =
    (G : VerifyFn) (s : State) (calls others : List Call) (new other : State)
    → map (λ call. call.bytes) calls ≡ map (λ call. call.bytes) others
    → IsAnsweredRun G s calls new → IsAnsweredRun G s others other → (calls ≡ others) × (new ≡ other)

-- If each signature of the start is good, a follower starts in the same state, or in none, as if every signature were
-- good.
abbrev pub CoveredStartsAreTrusted : Type 0
CoveredStartsAreTrusted =
    (asked : Rules) (profile : Profile) (R : VerifyFn) (info : GroupInfo) (supplied : Option RatchetTree) (s : State) → CoversStart R info supplied
    → IsStart asked profile R info supplied s ↔ IsStart asked profile all_good info supplied s

-- If each signature of the start is good, a start has the same faults as if every signature were good.
abbrev pub CoveredFaultsAreTrusted : Type 0
CoveredFaultsAreTrusted =
    (asked : Rules) (R : VerifyFn) (info : GroupInfo) (supplied : Option RatchetTree) (fault : StartFault) → CoversStart R info supplied
    → IsStartFault asked R info supplied fault ↔ IsStartFault asked all_good info supplied fault

-- If each signature of a message is good, its result and the state after it are those as if every signature were good.
-- The state before it is valid by `R`.
abbrev pub CoveredAnswersAreTrusted : Type 0
CoveredAnswersAreTrusted =
    (R : VerifyFn) (s : State) (bytes : List ℕ) (answer : Result Taken Refusal) (new : State)
    → IsValidState R s → CoversMessage R s bytes
    → IsAnswer R s bytes answer new ↔ IsAnswer all_good s bytes answer new

-- The same holds of each message of a log, from a state that is valid by `R`.
abbrev pub CoveredRunsAreTrusted : Type 0
CoveredRunsAreTrusted =
    (R : VerifyFn) (s : State) (calls : List Call) (new : State)
    → IsValidState R s → CoversLog R s (map (λ call. call.bytes) calls)
    → IsAnsweredRun R s calls new ↔ IsAnsweredRun all_good s calls new

-- If `R` accepts each signature of a start and a log, then the start, the results and the states are those of a
-- follower that accepts every signature.
abbrev pub CoveredLogsAreTrusted : Type 0
CoveredLogsAreTrusted =
    (asked : Rules) (profile : Profile) (R : VerifyFn) (info : GroupInfo) (supplied : Option RatchetTree) (first last : State)
    (calls : List Call)
    → CoversStart R info supplied → CoversLog R first (map (λ call. call.bytes) calls)
    → (IsStart asked profile R info supplied first × IsAnsweredRun R first calls last)
    ↔ (IsStart asked profile all_good info supplied first × IsAnsweredRun all_good first calls last)
