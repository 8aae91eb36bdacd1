-- The line and the verdict of a finding, that is, of what is found of a group's inputs (`mls_start`). `written0` and
-- `written1` are what the output holds before and after. Used by contracts.
use Rattle.std.specs.Prelude.{ℕ, List, [], ◌++◌, codes, if◌then◌else◌, Option, ◌≡◌, ◌⊎◌}
use Rattle.std.specs.Fmt.{decimal}
use Rattle.std.specs.Io.KnownBytes.{Appends}
use Rattle.mls_wire.specs.Devices.{AppendsPrefix}
use Rattle.mls_show.specs.FaultText.{wire_fault_text, node_fault_text}
use Rattle.mls_show.specs.ValueTexts.{hex_text}
use Rattle.mls_start.specs.Finding.{is_valid}
use Rattle.mls_start.specs.declared.finding.Finding.{Finding}
use Rattle.mls_start.specs.declared.finding.Finding.TheVariants.{ContextUnreadable, InfoUnreadable, NotGroupInfo, TreeUnreadable, UnsupportedVersion, UnsupportedSuite, RequirementsUnreadable, TreeRefused, MembersRefused, StartRefused, StateRefused, TreeNotStrict, StateNotStrict, TreeValid, Starts}
use Rattle.mls_start.specs.declared.finding.Started.{Started}
use Rattle.mls_report.specs.FaultText.{tree_fault_text, member_fault_text, start_fault_text, resume_fault_text, strict_fault_text, strict_refused_text}
use Rattle.mls_show.specs.declared.verdict.Verdict.{Verdict}
use Rattle.mls_show.specs.declared.verdict.Verdict.TheVariants.{Yes, No}

-- `started_text s` is the text of a follower that starts: its epoch, its number of members, and its tree hash
-- (RFC 9420, 8.1).
abbrev pub started_text : Started → List ℕ
started_text s =
    codes "valid epoch " ++ (decimal s.epoch
    ++ (codes " members " ++ (decimal s.members
    ++ (codes " tree " ++ hex_text s.tree_hash))))

-- `finding_text finding` is the text of a finding.
abbrev pub finding_text : Finding → List ℕ
finding_text (ContextUnreadable fault) = codes "context unreadable " ++ wire_fault_text fault
finding_text (InfoUnreadable fault) = codes "info unreadable " ++ wire_fault_text fault
finding_text NotGroupInfo = codes "info unreadable NotGroupInfo"
finding_text (TreeUnreadable fault) = codes "tree unreadable " ++ node_fault_text fault
finding_text UnsupportedVersion = codes "context refused UnsupportedVersion"
finding_text UnsupportedSuite = codes "context refused UnsupportedSuite"
finding_text RequirementsUnreadable = codes "context refused RequirementsUnreadable"
finding_text (TreeRefused fault) = codes "tree refused " ++ tree_fault_text fault
finding_text (MembersRefused fault) = codes "members refused " ++ member_fault_text fault
finding_text (StartRefused fault) = codes "start refused " ++ start_fault_text fault
finding_text (StateRefused fault) = codes "state " ++ resume_fault_text fault
finding_text (TreeNotStrict fault) = codes "strict refused " ++ strict_fault_text fault
finding_text (StateNotStrict refused) = codes "state refused " ++ strict_refused_text refused
finding_text (TreeValid tree_hash) = codes "valid " ++ hex_text tree_hash
finding_text (Starts started) = started_text started

-- `finding_line finding` is the line of a finding.
abbrev pub finding_line : Finding → List ℕ
finding_line finding = finding_text finding ++ codes "\n"

-- `finding_verdict finding` is Yes for a valid tree and for a follower that starts or resumes, else No.
abbrev pub finding_verdict : Finding → Verdict
finding_verdict finding = if is_valid finding then Yes else No

-- ---- the report of a finding

-- `ReportsFinding IsFound written0 written1 verdict`: the line of a finding of which `IsFound` holds was written whole, and
-- the verdict is that of this finding.
pub record ReportsFinding (IsFound : Finding → Type 0) (written0 written1 : Option (List ℕ))
    (verdict : Verdict) : Type 0 where
  pub finding : Finding
  pub found : IsFound finding
  pub wrote : Appends written0 written1 (finding_line finding)
  pub verdict_is : verdict ≡ finding_verdict finding

-- `ReportsFindingPrefix IsFound written0 written1`: a prefix of the line of a finding of which `IsFound` holds was written.
pub record ReportsFindingPrefix (IsFound : Finding → Type 0)
    (written0 written1 : Option (List ℕ)) : Type 0 where
  pub finding : Finding
  pub found : IsFound finding
  pub wrote : AppendsPrefix written0 written1 (finding_line finding)

-- `ReportsFindingPart IsFound written0 written1`: nothing was written, or a prefix of the line of what is found.
abbrev pub ReportsFindingPart : (Finding → Type 0) → Option (List ℕ) → Option (List ℕ) → Type 0
ReportsFindingPart IsFound written0 written1 =
    Appends written0 written1 [] ⊎ ReportsFindingPrefix IsFound written0 written1
