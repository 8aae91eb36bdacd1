-- The report `show`. `bytes` is the input, `text` the report. Used by contracts.
use Rattle.std.specs.Prelude.{ℕ, List, [], codes, Option, ◌≡◌, ◌⊎◌}
use Rattle.std.specs.Io.KnownBytes.{Appends}
use Rattle.mls_nodes.specs.NodeModel.{NodeValue}
use Rattle.mls_nodes.specs.RatchetTreeEncoding.{filled}
use Rattle.mls_tree.specs.TreeDecoding.{IsTree}
use Rattle.mls_msgs.specs.declared.message.Message.{Message}
use Rattle.mls_msgs.specs.declared.message.Message.TheVariants as messages
use Rattle.mls_msgs.specs.declared.profile.Profile.{Profile}
use Rattle.mls_msgs.specs.declared.profile.Profile.TheVariants.{Members}
use Rattle.mls_show.specs.InfoText.{info_text}
use Rattle.mls_show.specs.InputReports.{IsMessage, IsNoMessageReport, IsNoTreeReport, ShowsMessage}
use Rattle.mls_show.specs.KeyPackageText.{key_package_text}
use Rattle.mls_show.specs.LogReport.{ShowsLog, StopsLog}
use Rattle.mls_show.specs.MembersReport.{IsMembersReport}
use Rattle.mls_show.specs.OneInputReport.{WritesReport, WritesPrefix}
use Rattle.mls_show.specs.StateReport.{IsStateReport}
use Rattle.mls_show.specs.TreeText.{tree_text}
use Rattle.mls_show.specs.declared.verdict.Verdict.{Verdict}
use Rattle.mls_show.specs.declared.verdict.Verdict.TheVariants.{Yes, No}
use Rattle.mls_show.specs.declared.show.ShowKind.{ShowKind}
use Rattle.mls_show.specs.declared.show.ShowKind.TheVariants as kind
use Rattle.mls_wire.specs.declared.fault.RunFault.{RunFault}
use Rattle.mls_wire.specs.declared.fault.RunFault.TheVariants.{Read, Write, Memory}

-- `IsTreeReport bytes text verdict`: the report of a tree that can be read (RFC 9420, 12.4.3.3).
pub record IsTreeReport (bytes text : List ℕ) (verdict : Verdict) : Type 0 where
  pub nodes : List (Option NodeValue)
  pub is_tree : IsTree bytes nodes
  pub text_is : text ≡ tree_text (filled nodes)
  pub verdict_is : verdict ≡ Yes

-- `InfoReport m text verdict`: the report of a message in place of a GroupInfo (RFC 9420, 12.4.3): its lines, or that
-- it is no GroupInfo.
abbrev pub InfoReport : Message → List ℕ → Verdict → Type 0
InfoReport (messages.GroupInfo info) text verdict = (text ≡ info_text info) × (verdict ≡ Yes)
InfoReport other text verdict = (text ≡ codes "unreadable NotGroupInfo\n") × (verdict ≡ No)

-- `IsInfoReport bytes text verdict`: the report of a GroupInfo, or of another message.
pub record IsInfoReport (bytes text : List ℕ) (verdict : Verdict) : Type 0 where
  pub sent : Message
  pub is_message : IsMessage bytes sent
  pub report : InfoReport sent text verdict

-- `KeyPackageReport m text verdict`: the report of a message in place of a KeyPackage (RFC 9420, 10): its lines, or that it
-- is no KeyPackage.
abbrev pub KeyPackageReport : Message → List ℕ → Verdict → Type 0
KeyPackageReport (messages.KeyPackage key_package) text verdict =
    (text ≡ key_package_text key_package) × (verdict ≡ Yes)
KeyPackageReport other text verdict = (text ≡ codes "unreadable NotKeyPackage\n") × (verdict ≡ No)

-- `IsKeyPackageReport bytes text verdict`: the report of a KeyPackage, or of another message.
pub record IsKeyPackageReport (bytes text : List ℕ) (verdict : Verdict) : Type 0 where
  pub sent : Message
  pub is_message : IsMessage bytes sent
  pub report : KeyPackageReport sent text verdict

-- `IsShowReport profile k bytes text verdict`: `text` is the report of `bytes` that are shown as the kind `k`, and
-- `verdict` its verdict. Messages are decoded in `profile`, infos and KeyPackages in the members' profile. A log has no such
-- report, since it is not read whole: `ShowsLog` says what is written of it.
abbrev pub IsShowReport : Profile → ShowKind → List ℕ → List ℕ → Verdict → Type 0
IsShowReport profile kind.Tree bytes text verdict =
    IsTreeReport bytes text verdict ⊎ IsNoTreeReport bytes text verdict
IsShowReport profile kind.Info bytes text verdict =
    IsInfoReport bytes text verdict ⊎ IsNoMessageReport Members bytes text verdict
IsShowReport profile kind.Message bytes text verdict = ShowsMessage profile bytes text verdict
IsShowReport profile kind.KeyPackage bytes text verdict =
    IsKeyPackageReport bytes text verdict ⊎ IsNoMessageReport Members bytes text verdict
IsShowReport profile kind.Members bytes text verdict = IsMembersReport bytes text verdict
IsShowReport profile kind.State bytes text verdict = IsStateReport bytes text verdict
IsShowReport profile kind.Log bytes text verdict = ⊥

-- `Shows profile kind left0 left1 written0 written1 verdict`: the report was written whole, of an input that was read to its
-- end. A log is read up to its end, or to where it is broken.
abbrev pub Shows : Profile → ShowKind → Option (List ℕ) → Option (List ℕ) → Option (List ℕ) → Option (List ℕ)
    → Verdict → Type 0
Shows profile kind.Log left0 left1 written0 written1 verdict = ShowsLog profile left0 left1 written0 written1 verdict
Shows profile k left0 left1 written0 written1 verdict =
    WritesReport (IsShowReport profile k) left0 left1 written0 written1 verdict

-- `StopsShowing profile k left0 left1 written0 written1 fault`: what was written of an input that is read whole, if the
-- report was not written whole, by the fault that is returned: a prefix of the report of an input that had ended, or nothing.
abbrev pub StopsShowing : Profile → ShowKind → Option (List ℕ) → Option (List ℕ) → Option (List ℕ)
    → Option (List ℕ) → RunFault → Type 0
StopsShowing profile k left0 left1 written0 written1 Read = Appends written0 written1 []
StopsShowing profile k left0 left1 written0 written1 Write =
    WritesPrefix (IsShowReport profile k) left0 left1 written0 written1
StopsShowing profile k left0 left1 written0 written1 Memory = Appends written0 written1 []

-- `ShowsPart profile kind left0 left1 written0 written1 fault`: what was written if the report was not written whole, by the
-- fault that is returned.
abbrev pub ShowsPart : Profile → ShowKind → Option (List ℕ) → Option (List ℕ) → Option (List ℕ)
    → Option (List ℕ) → RunFault → Type 0
ShowsPart profile kind.Log left0 left1 written0 written1 fault = StopsLog profile left0 left1 written0 written1 fault
ShowsPart profile k left0 left1 written0 written1 fault = StopsShowing profile k left0 left1 written0 written1 fault
