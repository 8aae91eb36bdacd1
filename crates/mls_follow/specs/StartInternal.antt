-- Where a follower starts, for a GroupInfo whose version and suite are supported, and a tree (RFC 9420, 12.4.3).
-- `supplied` is the tree that the caller passes, if there is one. Internal: no public contract uses this.
use Rattle.std.specs.Prelude.{◌≡◌, ℕ, List, true, Option, Some}
use Rattle.mls_nodes.specs.declared.leaf.LeafNode.{LeafNode}
use Rattle.mls_nodes.specs.declared.required_capabilities.RequiredCapabilities.{RequiredCapabilities}
use Rattle.mls_tree.specs.Tree.{leaf_at}
use Rattle.mls_tree.specs.RatchetTree.{RatchetTree}
use Rattle.mls_check.specs.Signatures.{VerifyFn}
use Rattle.mls_check.specs.GroupTree.{HasMembers}
use Rattle.mls_check.specs.declared.group_tree.GroupTreeFault.{GroupTreeFault}
use Rattle.mls_check.specs.declared.group_tree.GroupTreeFault.TheVariants as groups
use Rattle.mls_msgs.specs.declared.group_info.GroupInfo.{GroupInfo}
use Rattle.mls_msgs.specs.declared.profile.Profile.{Profile}
use Rattle.mls_follow.specs.Start.{UsesTree, is_info_signed, initial_state, IsStart, IsStartFault, IsStrictStartFault}
use Rattle.mls_follow.specs.declared.start_fault.StartFault.{StartFault}
use Rattle.mls_follow.specs.declared.start_fault.StartFault.TheVariants.{RequirementsUnreadable, Tree, Member, Strict, OutOfMemory}
use Rattle.mls_msgs.specs.declared.rules.Rules.{Rules}

-- `StartsWith asked G info t interim`: if the GroupInfo has the tree, a follower starts, with this interim transcript hash.
abbrev pub StartsWith : Rules → VerifyFn → GroupInfo → RatchetTree → List ℕ → Type 0
StartsWith asked G info t interim =
    (profile : Profile) (supplied : Option RatchetTree) → UsesTree supplied info.extensions t
    → IsStart asked profile G info supplied (initial_state asked profile info t interim)

-- `FailsWith asked G info t fault`: if the GroupInfo has the tree, no follower starts, for this fault.
abbrev pub FailsWith : Rules → VerifyFn → GroupInfo → RatchetTree → StartFault → Type 0
FailsWith asked G info t fault =
    (supplied : Option RatchetTree) → UsesTree supplied info.extensions t
    → IsStartFault asked G info supplied fault

-- `IsSignedIn G info t`: the signer's leaf is non-blank, and the signature of the GroupInfo is good.
pub record IsSignedIn (G : VerifyFn) (info : GroupInfo) (t : RatchetTree) : Type 0 where
  pub signer : LeafNode
  pub set : leaf_at 0 t.tree info.signer ≡ Some signer
  pub signed : is_info_signed G info signer ≡ true

-- `FailsStrictly asked info t fault`: the GroupInfo or its tree does not meet a strict rule, for this fault.
abbrev pub FailsStrictly : Rules → GroupInfo → RatchetTree → StartFault → Type 0
FailsStrictly asked info t (Strict fault) = IsStrictStartFault asked info t fault
FailsStrictly asked info t OutOfMemory = Unit {0}
FailsStrictly asked info t fault = ⊥

-- `FailsSigned asked G info t fault`: if the leaf nodes of the tree are valid, no follower starts, for this fault.
abbrev pub FailsSigned : Rules → VerifyFn → GroupInfo → RatchetTree → StartFault → Type 0
FailsSigned asked G info t fault =
    (supplied : Option RatchetTree) (required : RequiredCapabilities)
    → HasMembers G info.context (UsesTree supplied info.extensions) t required
    → IsStartFault asked G info supplied fault

-- `start_fault_of fault` is the same fault of a tree as a `StartFault`.
abbrev pub start_fault_of : GroupTreeFault → StartFault
start_fault_of groups.RequirementsUnreadable = RequirementsUnreadable
start_fault_of (groups.Tree fault) = Tree fault
start_fault_of (groups.Member fault) = Member fault
start_fault_of groups.OutOfMemory = OutOfMemory
