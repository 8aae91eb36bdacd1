-- Faults of a tree and of its leaf nodes as faults of a GroupContext with its tree. Internal: no public contract uses
-- this.
use Rattle.mls_check.specs.declared.group_tree.GroupTreeFault.{GroupTreeFault}
use Rattle.mls_check.specs.declared.group_tree.GroupTreeFault.TheVariants.{Tree, Member, OutOfMemory}
use Rattle.mls_check.specs.declared.members.MemberFault.{MemberFault}
use Rattle.mls_check.specs.declared.members.MemberFault.TheVariants as members
use Rattle.mls_check.specs.declared.tree_validation.TreeFault.{TreeFault}
use Rattle.mls_check.specs.declared.tree_validation.TreeFault.TheVariants as trees

-- `tree_fault_of fault` is the same fault of a tree as a `GroupTreeFault`.
abbrev pub tree_fault_of : TreeFault → GroupTreeFault
tree_fault_of trees.HashDiffers = Tree trees.HashDiffers
tree_fault_of (trees.UnmergedUnsorted node_index) = Tree (trees.UnmergedUnsorted node_index)
tree_fault_of (trees.UnmergedUnsound node_index) = Tree (trees.UnmergedUnsound node_index)
tree_fault_of (trees.KeyRepeated node_index) = Tree (trees.KeyRepeated node_index)
tree_fault_of (trees.ParentHashInvalid node_index) = Tree (trees.ParentHashInvalid node_index)
tree_fault_of trees.OutOfMemory = OutOfMemory

-- `member_fault_of fault` is the same fault of a leaf node as a `GroupTreeFault`.
abbrev pub member_fault_of : MemberFault → GroupTreeFault
member_fault_of (members.ExtensionUnlisted index) = Member (members.ExtensionUnlisted index)
member_fault_of (members.RequirementUnmet index) = Member (members.RequirementUnmet index)
member_fault_of (members.CredentialUnsupported index) = Member (members.CredentialUnsupported index)
member_fault_of (members.SignatureKeyRepeated index) = Member (members.SignatureKeyRepeated index)
member_fault_of (members.LeafSignature index) = Member (members.LeafSignature index)
member_fault_of members.OutOfMemory = OutOfMemory
