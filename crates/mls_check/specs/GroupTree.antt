-- Validation of a GroupContext with its tree (RFC 9420, 12.4.3.1): conditions in their order, and which of them fails
-- first. `IsGiven t` says that `t` is the tree, however it is given. Each condition includes those before it. G is the
-- verification function of a checker. Used by contracts.
use Rattle.std.specs.Prelude.{◌≡◌, ◌≢◌, ◌⊎◌}
use Rattle.mls_nodes.specs.Requirements.{Requires, HasNoRequirements}
use Rattle.mls_nodes.specs.declared.context.GroupContext.{GroupContext}
use Rattle.mls_nodes.specs.declared.required_capabilities.RequiredCapabilities.{RequiredCapabilities}
use Rattle.mls_tree.specs.RatchetTree.{RatchetTree}
use Rattle.mls_hash.specs.SuiteHash.{hash_of}
use Rattle.mls_hash.specs.Suites.{IsSupported}
use Rattle.mls_check.specs.Signatures.{VerifyFn}
use Rattle.mls_check.specs.LeafValidation.{LeavesAreValid, IsMemberFault}
use Rattle.mls_check.specs.ValidTree.{Valid, IsFirstTreeFault}
use Rattle.mls_check.specs.declared.group_tree.GroupTreeFault.{GroupTreeFault}
use Rattle.mls_check.specs.declared.group_tree.GroupTreeFault.TheVariants.{RequirementsUnreadable, Tree, Member, OutOfMemory}
use Rattle.mls_check.specs.declared.members.MemberFault.{MemberFault}
use Rattle.mls_check.specs.declared.members.MemberFault.TheVariants as members
use Rattle.mls_check.specs.declared.tree_validation.TreeFault.{TreeFault}
use Rattle.mls_check.specs.declared.tree_validation.TreeFault.TheVariants as trees

-- `IsSupportedContext c`: the version is 1 (RFC 9420, 6), and the cipher suite is supported (17.1).
pub record IsSupportedContext (c : GroupContext) : Type 0 where
  pub version : c.version ≡ 1
  pub suite : IsSupported c.cipher_suite

-- `FailsSuite c`: the version is 1, and the cipher suite is not supported.
pub record FailsSuite (c : GroupContext) : Type 0 where
  pub version : c.version ≡ 1
  pub unsupported : ¬ IsSupported c.cipher_suite

module _ (c : GroupContext) (IsGiven : RatchetTree → Type 0) where
  -- `HasTree c IsGiven t`: the context is supported, and `t` is the given tree.
  pub record HasTree (t : RatchetTree) : Type 0 where
    pub supported : IsSupportedContext c
    pub uses : IsGiven t

  -- `HasReadableRequirements c IsGiven t required`: `HasTree` holds, and the group requires `required`, which can be
  -- read (RFC 9420, 11.1).
  pub record HasReadableRequirements (t : RatchetTree) (required : RequiredCapabilities) : Type 0 where
    pub has_tree : HasTree t
    pub requires : Requires c required

  -- `HasValidTree c IsGiven t required`: `HasReadableRequirements` holds, and the tree is valid for the tree hash of
  -- the context (RFC 9420, 7.9.2, 12.4.3.1).
  pub record HasValidTree (t : RatchetTree) (required : RequiredCapabilities) : Type 0 where
    pub readable : HasReadableRequirements t required
    pub valid : Valid (hash_of c.cipher_suite) c.tree_hash t.tree

  -- `FailsRequirements c IsGiven`: the context is supported and there is a tree, but the required capabilities cannot
  -- be read.
  pub record FailsRequirements : Type 0 where
    pub tree : RatchetTree
    pub has_tree : HasTree tree
    pub none : HasNoRequirements c

  -- `FailsValid c IsGiven fault`: the required capabilities can be read, but the tree is not valid, for this fault.
  pub record FailsValid (fault : TreeFault) : Type 0 where
    pub tree : RatchetTree
    pub required : RequiredCapabilities
    pub readable : HasReadableRequirements tree required
    pub not_out_of_memory : fault ≢ trees.OutOfMemory
    pub first : IsFirstTreeFault (hash_of c.cipher_suite) c.tree_hash tree.tree fault

module _ (G : VerifyFn) (c : GroupContext) (IsGiven : RatchetTree → Type 0) where
  -- `HasMembers G c IsGiven t required`: `HasValidTree` holds, and each leaf node is valid (RFC 9420, 7.3).
  pub record HasMembers (t : RatchetTree) (required : RequiredCapabilities) : Type 0 where
    pub valid_tree : HasValidTree c IsGiven t required
    pub members : LeavesAreValid G c.cipher_suite c.group_id required t.tree

  -- `FailsMembers G c IsGiven fault`: the tree is valid, but not each leaf node is, for this fault.
  pub record FailsMembers (fault : MemberFault) : Type 0 where
    pub tree : RatchetTree
    pub required : RequiredCapabilities
    pub valid_tree : HasValidTree c IsGiven tree required
    pub not_out_of_memory : fault ≢ members.OutOfMemory
    pub first : IsMemberFault G c.cipher_suite c.group_id required tree.tree fault

  -- `IsGroupTreeFault G c IsGiven fault`: the fault is that of the first condition that fails. `OutOfMemory` says
  -- nothing.
  abbrev pub IsGroupTreeFault : GroupTreeFault → Type 0
  IsGroupTreeFault RequirementsUnreadable = FailsRequirements c IsGiven
  IsGroupTreeFault (Tree fault) = FailsValid c IsGiven fault
  IsGroupTreeFault (Member fault) = FailsMembers fault
  IsGroupTreeFault OutOfMemory = Unit {0}

-- For a supported context and a tree: `HasMembers` holds, or there is a fault.
abbrev pub GroupTreeOrFault : Type 0
GroupTreeOrFault = (G : VerifyFn) (c : GroupContext) (t : RatchetTree) → IsSupportedContext c
    → ((required : RequiredCapabilities) × HasMembers G c (λ u. u ≡ t) t required)
    ⊎ ((fault : GroupTreeFault) × (fault ≢ OutOfMemory) × IsGroupTreeFault G c (λ u. u ≡ t) fault)

-- `HasMembers` and a fault exclude each other.
abbrev pub NoFaultOfGroupTree : Type 0
NoFaultOfGroupTree = (G : VerifyFn) (c : GroupContext) (t : RatchetTree) (required : RequiredCapabilities) (fault : GroupTreeFault)
    → HasMembers G c (λ u. u ≡ t) t required → IsGroupTreeFault G c (λ u. u ≡ t) fault → fault ≢ OutOfMemory → ⊥

-- There is at most one fault.
abbrev pub GroupTreeFaultIsUnique : Type 0
GroupTreeFaultIsUnique = (G : VerifyFn) (c : GroupContext) (t : RatchetTree) (fault other : GroupTreeFault)
    → fault ≢ OutOfMemory → other ≢ OutOfMemory → IsGroupTreeFault G c (λ u. u ≡ t) fault → IsGroupTreeFault G c (λ u. u ≡ t) other
    → fault ≡ other
