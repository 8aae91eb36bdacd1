-- The numbers by which the calls for C name what came of a call: 0 for success, up to 99 those of the reports
-- (docs/FORMATS.md), from 100 on their own. Used by contracts.
use Rattle.std.specs.Prelude.{ℕ, ◌≡◌, ◌≤◌, ◌^◌, Bool, true, false, ◌==◌, if◌then◌else◌, Option, Some, None, Result, Ok, Err}
use Rattle.mls_wire.specs.declared.fault.WireFault.{WireFault}
use Rattle.mls_wire.specs.declared.fault.WireFaultKind.{WireFaultKind}
use Rattle.mls_wire.specs.declared.fault.WireFaultKind.TheVariants as kinds
use Rattle.mls_nodes.specs.declared.fault.NodeFault.{NodeFault}
use Rattle.mls_nodes.specs.declared.fault.NodeFault.TheVariants as nodes
use Rattle.mls_check.specs.LeafValidation.{member_number}
use Rattle.mls_check.specs.declared.members.MemberFault.{MemberFault}
use Rattle.mls_check.specs.declared.members.MemberFault.TheVariants as members
use Rattle.mls_check.specs.declared.tree_validation.TreeFault.{TreeFault}
use Rattle.mls_check.specs.declared.tree_validation.TreeFault.TheVariants as trees
use Rattle.mls_msgs.specs.Rules.{rule_bits}
use Rattle.mls_msgs.specs.StrictRules.{strict_number}
use Rattle.mls_msgs.specs.declared.profile.Profile.{Profile}
use Rattle.mls_msgs.specs.declared.profile.Profile.TheVariants.{Members, Full}
use Rattle.mls_msgs.specs.declared.rules.Rules.{Rules}
use Rattle.mls_apply.specs.Refusals.{number_of}
use Rattle.mls_follow.specs.StartNumbers.{start_number_of}
use Rattle.mls_apply.specs.declared.refusal.Refusal.{Refusal}
use Rattle.mls_apply.specs.declared.refusal.Refusal.TheVariants as refusals
use Rattle.mls_follow.specs.declared.added_rules.StrictRefused.{StrictRefused}
use Rattle.mls_follow.specs.declared.added_rules.StrictRefused.TheVariants as stricts
use Rattle.mls_follow.specs.declared.resume_fault.ResumeFault.{ResumeFault}
use Rattle.mls_follow.specs.declared.resume_fault.ResumeFault.TheVariants as resumes
use Rattle.mls_follow.specs.declared.start_fault.StartFault.{StartFault}
use Rattle.mls_follow.specs.declared.start_fault.StartFault.TheVariants as starts
use Rattle.mls_follow.specs.declared.taken.Taken.{Taken}
use Rattle.mls_follow.specs.declared.taken.Taken.TheVariants.{Proposal, Commit}
use Rattle.mls_strict.specs.declared.strict_fault.StrictFault.{StrictFault}
use Rattle.mls_start.specs.declared.finding.Finding.{Finding}
use Rattle.mls_start.specs.declared.finding.Finding.TheVariants as findings
use Rattle.mls_c.specs.declared.input_verdict.InputVerdict.{InputVerdict}
use Rattle.mls_c.specs.declared.judgement.Judgement.{Judgement}

-- ---- numbers of the calls' own

-- an allocation failed
abbrev pub out_of_memory : ℕ
out_of_memory = 100

-- the value is longer than the buffer
abbrev pub buffer_too_small : ℕ
buffer_too_small = 101

-- the handle has no follower
abbrev pub no_follower : ℕ
no_follower = 102

-- no profile has this number
abbrev pub unsupported_profile : ℕ
unsupported_profile = 103

-- the receipts are not of 32 bytes each
abbrev pub bad_receipts : ℕ
bad_receipts = 104

-- the value has no encoding within the limits
abbrev pub too_long : ℕ
too_long = 105

-- the bytes of the GroupInfo are no message
abbrev pub info_unreadable : ℕ
info_unreadable = 106

-- the message is no GroupInfo
abbrev pub not_group_info : ℕ
not_group_info = 107

-- the bytes of the tree are no ratchet_tree
abbrev pub tree_unreadable : ℕ
tree_unreadable = 108

-- the bytes of the context are no GroupContext
abbrev pub context_unreadable : ℕ
context_unreadable = 109

-- the state is of another profile
abbrev pub other_profile : ℕ
other_profile = 110

-- a bit above bit 12 is 1: the number encodes no set of strict rules
abbrev pub unsupported_rules : ℕ
unsupported_rules = 114

-- no leaf node is at the leaf index: the leaf is blank, or the tree has no such leaf
abbrev pub no_member : ℕ
no_member = 115

-- there are no more pending proposals than the number
abbrev pub no_proposal : ℕ
no_proposal = 116

-- `one_if b` is 1 if `b` is true, else 0.
abbrev pub one_if : Bool → ℕ
one_if false = 0
one_if true = 1

-- ---- profiles

-- `profile_with_number number` is the profile with this number: 1 the members' profile, 2 the full profile.
abbrev pub profile_with_number : ℕ → Option Profile
profile_with_number number = if number == 1 then Some Members else (if number == 2 then Some Full else None)

-- ---- sets of strict rules

-- `EncodesRules bits asked`: the number `bits` encodes the set `asked` of strict rules. Its bit `n - 40` is 1 if and only if
-- the set has the strict rule `n`, and each other bit is 0.
abbrev pub EncodesRules : ℕ → Rules → Type 0
EncodesRules bits asked = rule_bits asked ≡ bits

-- `EncodesNoRules bits`: a bit above bit 12 is 1, so the number encodes no set of strict rules.
abbrev pub EncodesNoRules : ℕ → Type 0
EncodesNoRules bits = 2 ^ 13 ≤ bits

-- ---- verdicts

-- `verdict number inner place` has these three numbers.
abbrev pub verdict : ℕ → ℕ → ℕ → InputVerdict
verdict number inner place = record { number = number; inner = inner; place = place }

-- `plain_verdict number` is a verdict with this number alone.
abbrev pub plain_verdict : ℕ → InputVerdict
plain_verdict number = verdict number 0 0

-- `wire_number kind` is the number of what is wrong with bytes that cannot be read.
abbrev pub wire_number : WireFaultKind → ℕ
wire_number kinds.Truncated = 1
wire_number kinds.NotShortest = 2
wire_number kinds.BadPrefix = 3
wire_number kinds.BadOptional = 4
wire_number (kinds.BadTag value) = 5
wire_number kinds.OddLength = 6
wire_number kinds.Trailing = 7
wire_number kinds.TooLong = 8

-- `unreadable_by number fault` is the verdict of bytes that cannot be read: what is wrong, and the offset.
abbrev pub unreadable_by : ℕ → WireFault → InputVerdict
unreadable_by number fault = verdict number (wire_number fault.kind) fault.at

-- `node_verdict number fault` is the verdict of a ratchet tree that cannot be read: what is wrong, and the offset or the
-- node index.
abbrev pub node_verdict : ℕ → NodeFault → InputVerdict
node_verdict number (nodes.Wire fault) = unreadable_by number fault
node_verdict number (nodes.WrongNodeKind place) = verdict number 9 place
node_verdict number nodes.LastBlank = verdict number 10 0
node_verdict number nodes.EmptyTree = verdict number 11 0
node_verdict number nodes.TooManyLeaves = verdict number 12 0
node_verdict number nodes.OutOfMemory = plain_verdict out_of_memory

-- `tree_verdict number fault` is the verdict of a tree that is not valid: what is wrong, and the node index.
abbrev pub tree_verdict : ℕ → TreeFault → InputVerdict
tree_verdict number trees.HashDiffers = verdict number 1 0
tree_verdict number (trees.UnmergedUnsorted place) = verdict number 2 place
tree_verdict number (trees.UnmergedUnsound place) = verdict number 3 place
tree_verdict number (trees.KeyRepeated place) = verdict number 4 place
tree_verdict number (trees.ParentHashInvalid place) = verdict number 5 place
tree_verdict number trees.OutOfMemory = plain_verdict out_of_memory

-- `member_fault_leaf fault` is the leaf index of a fault of a leaf node.
abbrev pub member_fault_leaf : MemberFault → ℕ
member_fault_leaf (members.ExtensionUnlisted leaf) = leaf
member_fault_leaf (members.RequirementUnmet leaf) = leaf
member_fault_leaf (members.CredentialUnsupported leaf) = leaf
member_fault_leaf (members.SignatureKeyRepeated leaf) = leaf
member_fault_leaf (members.LeafSignature leaf) = leaf
member_fault_leaf members.OutOfMemory = 0

-- `member_verdict number fault` is the verdict of a leaf node that is not valid: what is wrong, and the leaf index.
abbrev pub member_verdict : ℕ → MemberFault → InputVerdict
member_verdict number members.OutOfMemory = plain_verdict out_of_memory
member_verdict number fault = verdict number (member_number fault) (member_fault_leaf fault)

-- `place_number place` is the node index, or 2^64 - 1 if there is none.
abbrev pub place_number : Option ℕ → ℕ
place_number None = 18446744073709551615
place_number (Some node_index) = node_index

-- `strict_verdict number fault` is the verdict of a strict rule that is not met (own rule): the number of the rule, and the
-- node index, if a node does not meet it.
abbrev pub strict_verdict : ℕ → StrictFault → InputVerdict
strict_verdict number fault = verdict number (strict_number fault.rule) (place_number fault.place)

-- `start_verdict fault` is the verdict of a start that is refused.
abbrev pub start_verdict : StartFault → InputVerdict
start_verdict starts.OutOfMemory = plain_verdict out_of_memory
start_verdict (starts.Tree fault) = tree_verdict 5 fault
start_verdict (starts.Member fault) = member_verdict 6 fault
start_verdict (starts.Strict fault) = strict_verdict 9 fault
start_verdict fault = plain_verdict (start_number_of fault)

-- `resume_verdict fault` is the verdict of a resumption that is refused: the number of the fault, and what is wrong. The
-- conditions have the order of their numbers, except that 12 comes before 10 and 11.
abbrev pub resume_verdict : ResumeFault → InputVerdict
resume_verdict (resumes.Unreadable fault) = node_verdict 1 fault
resume_verdict resumes.ChecksumDiffers = plain_verdict 2
resume_verdict resumes.UnsupportedVersion = plain_verdict 3
resume_verdict resumes.UnsupportedSuite = plain_verdict 4
resume_verdict resumes.RequirementsUnreadable = plain_verdict 5
resume_verdict (resumes.Tree fault) = tree_verdict 6 fault
resume_verdict (resumes.Member fault) = member_verdict 7 fault
resume_verdict resumes.InterimLength = plain_verdict 8
resume_verdict (resumes.KnownInvalid n) = verdict 9 0 n
resume_verdict (resumes.AddedInvalid n) = verdict 12 0 n
resume_verdict (resumes.Strict fault) = strict_verdict 10 fault
resume_verdict (resumes.KnownStrict n) = verdict 11 0 n
resume_verdict resumes.OutOfMemory = plain_verdict out_of_memory

-- `added_verdict e` is the verdict of strict rules that cannot be added to those of a follower: 10 and the first rule that
-- the GroupContext or the tree does not meet, or 11 and the number of the first pending proposal that does not meet one,
-- from 0 on.
abbrev pub added_verdict : StrictRefused → InputVerdict
added_verdict (stricts.Group fault) = strict_verdict 10 fault
added_verdict (stricts.Known n) = verdict 11 0 n
added_verdict stricts.OutOfMemory = plain_verdict out_of_memory

-- `verdict_of finding` is the verdict of what is found of a group's inputs. The numbers of a GroupContext with its
-- tree are those of a start.
abbrev pub verdict_of : Finding → InputVerdict
verdict_of (findings.ContextUnreadable fault) = unreadable_by context_unreadable fault
verdict_of (findings.InfoUnreadable fault) = unreadable_by info_unreadable fault
verdict_of findings.NotGroupInfo = plain_verdict not_group_info
verdict_of (findings.TreeUnreadable fault) = node_verdict tree_unreadable fault
verdict_of findings.UnsupportedVersion = plain_verdict 1
verdict_of findings.UnsupportedSuite = plain_verdict 2
verdict_of findings.RequirementsUnreadable = plain_verdict 4
verdict_of (findings.TreeRefused fault) = tree_verdict 5 fault
verdict_of (findings.MembersRefused fault) = member_verdict 6 fault
verdict_of (findings.TreeNotStrict fault) = strict_verdict 9 fault
verdict_of (findings.StartRefused fault) = start_verdict fault
verdict_of (findings.StateRefused fault) = resume_verdict fault
verdict_of (findings.StateNotStrict refused) = added_verdict refused
verdict_of (findings.TreeValid tree_hash) = plain_verdict 0
verdict_of (findings.Starts started) = plain_verdict 0

-- ---- judgements

-- `not_judged number` is the answer to a message that was not processed.
abbrev pub not_judged : ℕ → Judgement
not_judged number = record { number = number; kind = 0; inner = 0; leaf = 0; epoch = 0 }

-- `leaf_judgement fault` is the answer to a message that is refused for a leaf node: 25, the number of the fault, and the
-- leaf index.
abbrev pub leaf_judgement : MemberFault → Judgement
leaf_judgement fault =
    record { number = 25; kind = 0; inner = member_number fault; leaf = member_fault_leaf fault; epoch = 0 }

-- `refused_judgement e` is the answer to a message that is refused, by the number of the rule.
abbrev pub refused_judgement : Refusal → Judgement
refused_judgement refusals.OutOfMemory = not_judged out_of_memory
refused_judgement (refusals.Member fault) = leaf_judgement fault
refused_judgement e = not_judged (number_of e)

-- `judgement_of answer` is the answer to a message that was processed: kind 1 for a proposal that is accepted, 2 for a
-- commit, with the epoch that it begins.
abbrev pub judgement_of : Result Taken Refusal → Judgement
judgement_of (Ok (Proposal reference)) = record { number = 0; kind = 1; inner = 0; leaf = 0; epoch = 0 }
judgement_of (Ok (Commit epoch)) = record { number = 0; kind = 2; inner = 0; leaf = 0; epoch = epoch }
judgement_of (Err e) = refused_judgement e
