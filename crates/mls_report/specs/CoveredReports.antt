-- What `signatures` is for: a checker that accepts each signature that it prints of a start and a log leads to the
-- results of one that accepts every signature (own rule). `R` is its verification function, such as that of a receipts
-- file. Used by contracts.
use Rattle.std.specs.Prelude.{List, [], ◌∷◌, ℕ, Option, Some, None}
use Rattle.mls_tree.specs.RatchetTree.{RatchetTree}
use Rattle.mls_check.specs.Signatures.{VerifyFn}
use Rattle.mls_msgs.specs.declared.rules.Rules.{Rules}
use Rattle.mls_msgs.specs.declared.group_info.GroupInfo.{GroupInfo}
use Rattle.mls_follow.specs.CoveredLogs.{Covers}
use Rattle.mls_follow.specs.Start.{IsStart}
use Rattle.mls_follow.specs.State.{State}
use Rattle.mls_signatures.specs.declared.signature_to_verify.SignatureToVerify.{SignatureToVerify}
use Rattle.mls_report.specs.Replay.{Follows}
use Rattle.mls_report.specs.SignaturesReport.{LoggedMessage, ProcessesLog, turns_of}
use Rattle.mls_start.specs.StartSignatures.{StartHasSignatures}
use Rattle.mls_msgs.specs.declared.profile.Profile.{Profile}

-- `CoversNeeded R needed`: `R` accepts each signature of a message, if the message can be read.
abbrev pub CoversNeeded : VerifyFn → Option (List SignatureToVerify) → Type 0
CoversNeeded R None = Unit {0}
CoversNeeded R (Some needed) = Covers R needed

-- `CoversLogged R logged`: `R` accepts each signature of the messages.
abbrev pub CoversLogged : VerifyFn → List LoggedMessage → Type 0
CoversLogged R [] = Unit {0}
CoversLogged R (a ∷ logged) = CoversNeeded R a.needed × CoversLogged R logged

-- If `R` accepts each signature that `signatures` prints of a start and a log, a follower with `R`, the same profile and the
-- same strict rules starts in the same state, returns the same result for each message, and moves to the same state.
abbrev pub CoveredReportsReplay : Type 0
CoveredReportsReplay =
    (asked : Rules) (profile : Profile) (R : VerifyFn) (info : GroupInfo) (supplied : Option RatchetTree) (s : State)
    (needed : List SignatureToVerify) (log0 log1 : Option (List ℕ)) (logged : List LoggedMessage) (rest : List ℕ)
    → StartHasSignatures asked profile info supplied s needed → Covers R needed → ProcessesLog s log0 log1 logged rest
    → CoversLogged R logged
    → IsStart asked profile R info supplied s × Follows None R s log0 log1 (turns_of logged) rest
