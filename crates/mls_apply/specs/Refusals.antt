-- The refusals of a message, a proposal, a proposal list or an update path: their numbers and their names (docs/FORMATS.md).
-- Used by contracts.
use Rattle.std.specs.Prelude.{ℕ, List, codes}
use Rattle.mls_check.specs.declared.members.MemberFault.{MemberFault}
use Rattle.mls_check.specs.declared.members.MemberFault.TheVariants as members
use Rattle.mls_msgs.specs.StrictRules.{strict_number, strict_name}
use Rattle.mls_apply.specs.declared.fault.ApplyFault.{ApplyFault}
use Rattle.mls_apply.specs.declared.fault.ApplyFault.TheVariants as faults
use Rattle.mls_apply.specs.declared.refusal.Refusal.{Refusal}
use Rattle.mls_apply.specs.declared.refusal.Refusal.TheVariants as refusals

-- `number_of e` is the number of a refusal.
abbrev pub number_of : Refusal → ℕ
number_of refusals.OutOfMemory = 0
number_of refusals.Malformed = 1
number_of refusals.NotPublic = 2
number_of refusals.WrongGroup = 3
number_of refusals.WrongEpoch = 4
number_of refusals.SenderNotMember = 5
number_of refusals.NotHandshake = 6
number_of refusals.BadSignature = 7
number_of refusals.KnownProposal = 8
number_of refusals.AddInvalid = 9
number_of refusals.UpdateInvalid = 10
number_of refusals.RemoveInvalid = 11
number_of refusals.LastEpoch = 12
number_of refusals.UnknownReference = 13
number_of refusals.UpdateByCommitter = 14
number_of refusals.RemovesCommitter = 15
number_of refusals.SameLeafTwice = 16
number_of refusals.PathMissing = 17
number_of refusals.TooManyLeaves = 18
number_of refusals.PathLength = 19
number_of refusals.PathSource = 20
number_of refusals.PathKeyUsed = 21
number_of refusals.CiphertextCount = 22
number_of refusals.PathParentHash = 23
number_of refusals.KeyRepeated = 24
number_of (refusals.Member fault) = 25
number_of refusals.TwoContextExtensions = 26
number_of refusals.ContextExtensionsInvalid = 27
number_of refusals.GroupOver = 28
number_of refusals.UnknownExternal = 29
number_of refusals.SenderContent = 30
number_of refusals.PskInvalid = 31
number_of refusals.ReInitInvalid = 32
number_of refusals.ExternalInitMisplaced = 33
number_of refusals.PskTwice = 34
number_of refusals.ReInitNotAlone = 35
number_of refusals.JoinList = 36
number_of refusals.ResyncInvalid = 37
number_of (refusals.Strict r) = strict_number r
number_of refusals.LifetimeOutside = 53

-- `name_of e` is the name of a refusal. A report adds the fault of a leaf node to Member.
abbrev pub name_of : Refusal → List ℕ
name_of refusals.OutOfMemory = codes "OutOfMemory"
name_of refusals.Malformed = codes "Malformed"
name_of refusals.NotPublic = codes "NotPublic"
name_of refusals.WrongGroup = codes "WrongGroup"
name_of refusals.WrongEpoch = codes "WrongEpoch"
name_of refusals.SenderNotMember = codes "SenderNotMember"
name_of refusals.NotHandshake = codes "NotHandshake"
name_of refusals.BadSignature = codes "BadSignature"
name_of refusals.KnownProposal = codes "KnownProposal"
name_of refusals.AddInvalid = codes "AddInvalid"
name_of refusals.UpdateInvalid = codes "UpdateInvalid"
name_of refusals.RemoveInvalid = codes "RemoveInvalid"
name_of refusals.LastEpoch = codes "LastEpoch"
name_of refusals.UnknownReference = codes "UnknownReference"
name_of refusals.UpdateByCommitter = codes "UpdateByCommitter"
name_of refusals.RemovesCommitter = codes "RemovesCommitter"
name_of refusals.SameLeafTwice = codes "SameLeafTwice"
name_of refusals.PathMissing = codes "PathMissing"
name_of refusals.TooManyLeaves = codes "TooManyLeaves"
name_of refusals.PathLength = codes "PathLength"
name_of refusals.PathSource = codes "PathSource"
name_of refusals.PathKeyUsed = codes "PathKeyUsed"
name_of refusals.CiphertextCount = codes "CiphertextCount"
name_of refusals.PathParentHash = codes "PathParentHash"
name_of refusals.KeyRepeated = codes "KeyRepeated"
name_of (refusals.Member fault) = codes "Member"
name_of refusals.TwoContextExtensions = codes "TwoContextExtensions"
name_of refusals.ContextExtensionsInvalid = codes "ContextExtensionsInvalid"
name_of refusals.GroupOver = codes "GroupOver"
name_of refusals.UnknownExternal = codes "UnknownExternal"
name_of refusals.SenderContent = codes "SenderContent"
name_of refusals.PskInvalid = codes "PskInvalid"
name_of refusals.ReInitInvalid = codes "ReInitInvalid"
name_of refusals.ExternalInitMisplaced = codes "ExternalInitMisplaced"
name_of refusals.PskTwice = codes "PskTwice"
name_of refusals.ReInitNotAlone = codes "ReInitNotAlone"
name_of refusals.JoinList = codes "JoinList"
name_of refusals.ResyncInvalid = codes "ResyncInvalid"
name_of (refusals.Strict r) = strict_name r
name_of refusals.LifetimeOutside = codes "LifetimeOutside"

-- `member_refusal fault` is the same fault of a leaf node as a refusal.
abbrev pub member_refusal : MemberFault → Refusal
member_refusal (members.ExtensionUnlisted index) = refusals.Member (members.ExtensionUnlisted index)
member_refusal (members.RequirementUnmet index) = refusals.Member (members.RequirementUnmet index)
member_refusal (members.CredentialUnsupported index) = refusals.Member (members.CredentialUnsupported index)
member_refusal (members.SignatureKeyRepeated index) = refusals.Member (members.SignatureKeyRepeated index)
member_refusal (members.LeafSignature index) = refusals.Member (members.LeafSignature index)
member_refusal members.OutOfMemory = refusals.OutOfMemory

-- `unapplied fault` is the refusal of a commit whose list cannot be applied. No follower comes to a blank leaf.
abbrev pub unapplied : ApplyFault → Refusal
unapplied faults.NoSuchLeaf = refusals.TooManyLeaves
unapplied faults.TooManyLeaves = refusals.TooManyLeaves
unapplied faults.OutOfMemory = refusals.OutOfMemory
