-- The faults of a lone Add, and what a call says of one. Internal: no public contract uses this.
use Rattle.std.specs.Prelude.{◌≡◌, ◌≢◌, Option, Some}
use Rattle.mls_check.specs.declared.members.MemberFault.{MemberFault}
use Rattle.mls_check.specs.declared.members.MemberFault.TheVariants as members
use Rattle.mls_follow.specs.declared.lone_add.AddFault.{AddFault}
use Rattle.mls_follow.specs.declared.lone_add.AddFault.TheVariants.{Member, OutOfMemory}

-- `add_fault_of fault` is the same fault of a leaf node as an `AddFault`.
abbrev pub add_fault_of : MemberFault → AddFault
add_fault_of (members.ExtensionUnlisted index) = Member (members.ExtensionUnlisted index)
add_fault_of (members.RequirementUnmet index) = Member (members.RequirementUnmet index)
add_fault_of (members.CredentialUnsupported index) = Member (members.CredentialUnsupported index)
add_fault_of (members.SignatureKeyRepeated index) = Member (members.SignatureKeyRepeated index)
add_fault_of (members.LeafSignature index) = Member (members.LeafSignature index)
add_fault_of members.OutOfMemory = OutOfMemory

-- `FailsAddRule failing e`: a fault other than OutOfMemory is that of the rule that fails.
abbrev pub FailsAddRule : Option AddFault → AddFault → Type 0
FailsAddRule failing e = e ≢ OutOfMemory → failing ≡ Some e
