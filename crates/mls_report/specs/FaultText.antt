-- The texts of faults in reports (docs/FORMATS.md). Used by contracts.
use Rattle.std.specs.Prelude.{ℕ, List, ◌++◌, codes, Option, Some, None}
use Rattle.std.specs.Fmt.{decimal}
use Rattle.mls_show.specs.FaultText.{node_fault_text}
use Rattle.mls_check.specs.declared.members.MemberFault.{MemberFault}
use Rattle.mls_check.specs.declared.members.MemberFault.TheVariants as members
use Rattle.mls_check.specs.declared.tree_validation.TreeFault.{TreeFault}
use Rattle.mls_check.specs.declared.tree_validation.TreeFault.TheVariants as trees
use Rattle.mls_msgs.specs.StrictRules.{strict_number, strict_name}
use Rattle.mls_strict.specs.declared.strict_fault.StrictFault.{StrictFault}
use Rattle.mls_follow.specs.declared.added_rules.StrictRefused.{StrictRefused}
use Rattle.mls_follow.specs.declared.added_rules.StrictRefused.TheVariants as stricts
use Rattle.mls_follow.specs.declared.resume_fault.ResumeFault.{ResumeFault}
use Rattle.mls_follow.specs.declared.resume_fault.ResumeFault.TheVariants as resumes
use Rattle.mls_follow.specs.declared.start_fault.StartFault.{StartFault}
use Rattle.mls_follow.specs.declared.start_fault.StartFault.TheVariants as starts

-- `tree_fault_text f` is why a tree is not valid, by number and name, with the node index (RFC 9420, 7.8, 7.9.2 and
-- 12.4.3.1).
abbrev pub tree_fault_text : TreeFault → List ℕ
tree_fault_text trees.HashDiffers = codes "1 HashDiffers"
tree_fault_text (trees.UnmergedUnsorted node_index) = codes "2 UnmergedUnsorted " ++ decimal node_index
tree_fault_text (trees.UnmergedUnsound node_index) = codes "3 UnmergedUnsound " ++ decimal node_index
tree_fault_text (trees.KeyRepeated node_index) = codes "4 KeyRepeated " ++ decimal node_index
tree_fault_text (trees.ParentHashInvalid node_index) = codes "5 ParentHashInvalid " ++ decimal node_index
tree_fault_text trees.OutOfMemory = codes "OutOfMemory"

-- `member_fault_text f` is why a leaf node is not valid, by number and name, with the leaf index (RFC 9420, 7.3).
abbrev pub member_fault_text : MemberFault → List ℕ
member_fault_text (members.ExtensionUnlisted leaf) = codes "1 ExtensionUnlisted " ++ decimal leaf
member_fault_text (members.RequirementUnmet leaf) = codes "2 RequirementUnmet " ++ decimal leaf
member_fault_text (members.CredentialUnsupported leaf) =
    codes "3 CredentialUnsupported " ++ decimal leaf
member_fault_text (members.SignatureKeyRepeated leaf) =
    codes "4 SignatureKeyRepeated " ++ decimal leaf
member_fault_text (members.LeafSignature leaf) = codes "5 LeafSignature " ++ decimal leaf
member_fault_text members.OutOfMemory = codes "OutOfMemory"

-- `named_at number name place` is the number, the name, and the node index if there is one.
abbrev pub named_at : ℕ → List ℕ → Option ℕ → List ℕ
named_at number name None = decimal number ++ (codes " " ++ name)
named_at number name (Some node_index) =
    decimal number ++ (codes " " ++ (name ++ (codes " " ++ decimal node_index)))

-- `strict_fault_text f` is the strict rule that is not met (own rule), by number and name, with the node index if a node does
-- not meet it.
abbrev pub strict_fault_text : StrictFault → List ℕ
strict_fault_text fault = named_at (strict_number fault.rule) (strict_name fault.rule) fault.place

-- `start_fault_text f` is why no follower starts, by number and name, with the fault of the tree or of a leaf node
-- (RFC 9420, 12.4.3.1), or the strict rule that is not met (own rule).
abbrev pub start_fault_text : StartFault → List ℕ
start_fault_text starts.UnsupportedVersion = codes "1 UnsupportedVersion"
start_fault_text starts.UnsupportedSuite = codes "2 UnsupportedSuite"
start_fault_text starts.NoTree = codes "3 NoTree"
start_fault_text starts.RequirementsUnreadable = codes "4 RequirementsUnreadable"
start_fault_text (starts.Tree fault) = codes "5 Tree " ++ tree_fault_text fault
start_fault_text (starts.Member fault) = codes "6 Member " ++ member_fault_text fault
start_fault_text starts.SignerNotMember = codes "7 SignerNotMember"
start_fault_text starts.InfoSignature = codes "8 InfoSignature"
start_fault_text (starts.Strict fault) = codes "9 Strict " ++ strict_fault_text fault
start_fault_text starts.OutOfMemory = codes "OutOfMemory"

-- `resume_fault_text f` is why no follower resumes from the file of a state: it cannot be read, or the first condition
-- that fails, by number and name, with the fault of the tree or of a leaf node, the number of the pending proposal or of the
-- KeyPackageRef, or the strict rule of the file that is not met.
abbrev pub resume_fault_text : ResumeFault → List ℕ
resume_fault_text (resumes.Unreadable fault) = codes "unreadable " ++ node_fault_text fault
resume_fault_text resumes.ChecksumDiffers = codes "refused 2 ChecksumDiffers"
resume_fault_text resumes.UnsupportedVersion = codes "refused 3 UnsupportedVersion"
resume_fault_text resumes.UnsupportedSuite = codes "refused 4 UnsupportedSuite"
resume_fault_text resumes.RequirementsUnreadable = codes "refused 5 RequirementsUnreadable"
resume_fault_text (resumes.Tree fault) = codes "refused 6 Tree " ++ tree_fault_text fault
resume_fault_text (resumes.Member fault) = codes "refused 7 Member " ++ member_fault_text fault
resume_fault_text resumes.InterimLength = codes "refused 8 InterimLength"
resume_fault_text (resumes.KnownInvalid n) = codes "refused 9 KnownInvalid " ++ decimal n
resume_fault_text (resumes.AddedInvalid n) = codes "refused 12 AddedInvalid " ++ decimal n
resume_fault_text (resumes.Strict fault) = codes "refused 10 Strict " ++ strict_fault_text fault
resume_fault_text (resumes.KnownStrict n) = codes "refused 11 KnownStrict " ++ decimal n
resume_fault_text resumes.OutOfMemory = codes "OutOfMemory"

-- `strict_refused_text r` is why the strict rules that are asked cannot be added to those of a state that was resumed, by
-- number and name, with the rule that is not met, or the number of the pending proposal (own rule).
abbrev pub strict_refused_text : StrictRefused → List ℕ
strict_refused_text (stricts.Group fault) = codes "10 Strict " ++ strict_fault_text fault
strict_refused_text (stricts.Known n) = codes "11 KnownStrict " ++ decimal n
strict_refused_text stricts.OutOfMemory = codes "OutOfMemory"
