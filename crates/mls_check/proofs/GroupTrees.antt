-- What each check of a group's tree says of all of them, and that they say the same where the tree is given in another way.
use Rattle.std.proofs.Common.{◌≡◌, ◌≢◌, refl}
use Rattle.mls_nodes.specs.Requirements.{Requires, HasNoRequirements}
use Rattle.mls_nodes.specs.declared.context.GroupContext.{GroupContext}
use Rattle.mls_nodes.specs.declared.required_capabilities.RequiredCapabilities.{RequiredCapabilities}
use Rattle.mls_tree.specs.RatchetTree.{RatchetTree}
use Rattle.mls_hash.specs.SuiteHash.{hash_of}
use Rattle.mls_check.specs.GroupTree.{IsSupportedContext, HasTree, HasReadableRequirements, HasValidTree, HasMembers, FailsRequirements, FailsValid, FailsMembers, IsGroupTreeFault}
use Rattle.mls_check.specs.GroupTreeInternal.{tree_fault_of, member_fault_of}
use Rattle.mls_check.specs.LeafValidation.{LeavesAreValid, IsMemberFault}
use Rattle.mls_check.specs.Signatures.{VerifyFn}
use Rattle.mls_check.specs.ValidTree.{Valid, IsFirstTreeFault}
use Rattle.mls_check.specs.declared.members.MemberFault.{MemberFault}
use Rattle.mls_check.specs.declared.members.MemberFault.TheVariants as members
use Rattle.mls_check.specs.declared.tree_validation.TreeFault.{TreeFault}
use Rattle.mls_check.specs.declared.tree_validation.TreeFault.TheVariants as trees

-- ---- of a tree that is given

module _ (G : VerifyFn) (c : GroupContext) (t : RatchetTree) (followed : IsSupportedContext c) where
  abbrev pub Own : RatchetTree → Type 0
  Own u = u ≡ t

  there : HasTree c Own t
  there = record { supported = followed; uses = refl }

  pub requirements_fail : HasNoRequirements c → FailsRequirements c Own
  requirements_fail none = record { tree = t; has_tree = there; none = none }

  module _ (required : RequiredCapabilities) (requires : Requires c required) where
    read : HasReadableRequirements c Own t required
    read = record { has_tree = there; requires = requires }

    pub invalid : (fault : TreeFault) → fault ≢ trees.OutOfMemory → IsFirstTreeFault (hash_of c.cipher_suite) c.tree_hash t.tree fault → FailsValid c Own fault
    invalid fault own first = record { tree = t; required = required; readable = read; not_out_of_memory = own; first = first }

    pub tree_fails : (fault : TreeFault) → IsFirstTreeFault (hash_of c.cipher_suite) c.tree_hash t.tree fault → IsGroupTreeFault G c Own (tree_fault_of fault)
    tree_fails trees.HashDiffers first = invalid trees.HashDiffers (λ e. cc) first
    tree_fails (trees.UnmergedUnsorted p) first = invalid (trees.UnmergedUnsorted p) (λ e. cc) first
    tree_fails (trees.UnmergedUnsound p) first = invalid (trees.UnmergedUnsound p) (λ e. cc) first
    tree_fails (trees.KeyRepeated p) first = invalid (trees.KeyRepeated p) (λ e. cc) first
    tree_fails (trees.ParentHashInvalid p) first = invalid (trees.ParentHashInvalid p) (λ e. cc) first
    tree_fails trees.OutOfMemory first = tt

    module _ (valid : Valid (hash_of c.cipher_suite) c.tree_hash t.tree) where
      checked : HasValidTree c Own t required
      checked = record { readable = read; valid = valid }

      pub strangers : (fault : MemberFault) → fault ≢ members.OutOfMemory → IsMemberFault G c.cipher_suite c.group_id required t.tree fault → FailsMembers G c Own fault
      strangers fault own first = record { tree = t; required = required; valid_tree = checked; not_out_of_memory = own; first = first }

      pub members_fail : (fault : MemberFault) → IsMemberFault G c.cipher_suite c.group_id required t.tree fault → IsGroupTreeFault G c Own (member_fault_of fault)
      members_fail (members.ExtensionUnlisted i) first = strangers (members.ExtensionUnlisted i) (λ e. cc) first
      members_fail (members.RequirementUnmet i) first = strangers (members.RequirementUnmet i) (λ e. cc) first
      members_fail (members.CredentialUnsupported i) first = strangers (members.CredentialUnsupported i) (λ e. cc) first
      members_fail (members.SignatureKeyRepeated i) first = strangers (members.SignatureKeyRepeated i) (λ e. cc) first
      members_fail (members.LeafSignature i) first = strangers (members.LeafSignature i) (λ e. cc) first
      members_fail members.OutOfMemory first = tt

      pub all_members : LeavesAreValid G c.cipher_suite c.group_id required t.tree → HasMembers G c Own t required
      all_members are_members = record { valid_tree = checked; members = are_members }

-- ---- of a tree that is given in another way too

module _ (G : VerifyFn) (c : GroupContext) (IsGiven IsToo : RatchetTree → Type 0) (too : (t : RatchetTree) → IsGiven t → IsToo t) where
  tree_too : (t : RatchetTree) → HasTree c IsGiven t → HasTree c IsToo t
  tree_too t h = record { supported = h.supported; uses = too t h.uses }

  readable_too : (t : RatchetTree) (required : RequiredCapabilities) → HasReadableRequirements c IsGiven t required → HasReadableRequirements c IsToo t required
  readable_too t required h = record { has_tree = tree_too t h.has_tree; requires = h.requires }

  valid_too : (t : RatchetTree) (required : RequiredCapabilities) → HasValidTree c IsGiven t required → HasValidTree c IsToo t required
  valid_too t required h = record { readable = readable_too t required h.readable; valid = h.valid }

  pub members_too : (t : RatchetTree) (required : RequiredCapabilities) → HasMembers G c IsGiven t required → HasMembers G c IsToo t required
  members_too t required h = record { valid_tree = valid_too t required h.valid_tree; members = h.members }

  pub requirements_too : FailsRequirements c IsGiven → FailsRequirements c IsToo
  requirements_too h = record { tree = h.tree; has_tree = tree_too h.tree h.has_tree; none = h.none }

  pub invalid_too : (fault : TreeFault) → FailsValid c IsGiven fault → FailsValid c IsToo fault
  invalid_too fault h = record {
    tree = h.tree;
    required = h.required;
    readable = readable_too h.tree h.required h.readable;
    not_out_of_memory = h.not_out_of_memory;
    first = h.first;
  }

  pub strangers_too : (fault : MemberFault) → FailsMembers G c IsGiven fault → FailsMembers G c IsToo fault
  strangers_too fault h = record {
    tree = h.tree;
    required = h.required;
    valid_tree = valid_too h.tree h.required h.valid_tree;
    not_out_of_memory = h.not_out_of_memory;
    first = h.first;
  }
