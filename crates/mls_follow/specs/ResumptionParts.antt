-- Results of the calls that resume a follower. Internal: no public contract uses this.
use Rattle.std.specs.Prelude.{◌≡◌, ℕ, List, [], Option, Some, None, Result, Ok, Err}
use Rattle.mls_nodes.specs.declared.context.GroupContext.{GroupContext}
use Rattle.mls_nodes.specs.declared.fault.NodeFault.{NodeFault}
use Rattle.mls_nodes.specs.declared.fault.NodeFault.TheVariants as nodes
use Rattle.mls_tree.specs.PublicTreeModel.{KeptTree, plain}
use Rattle.mls_tree.specs.RatchetTree.{RatchetTree}
use Rattle.mls_tree.specs.Tree as trees
use Rattle.mls_check.specs.Signatures.{VerifyFn}
use Rattle.mls_check.specs.declared.group_tree.GroupTreeFault.{GroupTreeFault}
use Rattle.mls_check.specs.declared.group_tree.GroupTreeFault.TheVariants as groups
use Rattle.mls_msgs.specs.Rules.{plain_rules}
use Rattle.mls_msgs.specs.declared.authenticated.AuthenticatedParts.{AuthenticatedParts}
use Rattle.mls_msgs.specs.declared.framed_content.Content.TheVariants as contents
use Rattle.mls_msgs.specs.declared.message.Message.{Message}
use Rattle.mls_msgs.specs.declared.message.Message.TheVariants as messages
use Rattle.mls_msgs.specs.declared.proposal.Proposal.{Proposal}
use Rattle.mls_state.specs.declared.state.FollowerState.{FollowerState}
use Rattle.mls_state.specs.declared.state.GroupMode.{GroupMode}
use Rattle.mls_follow.specs.State.{State}
use Rattle.mls_follow.specs.StoredState.{IsTreeBody}
use Rattle.mls_follow.specs.AddedRules.{HasAddedRules, IsStrictRefused}
use Rattle.mls_follow.specs.Resumption.{FailsEntry, HoldEntries, added_misfit, is_over, profile_of_mode}
use Rattle.mls_follow.specs.declared.added_rules.StrictRefused.{StrictRefused}
use Rattle.mls_follow.specs.declared.added_rules.StrictRefused.TheVariants as refusals
use Rattle.mls_follow.specs.declared.resume_fault.ResumeFault.{ResumeFault}
use Rattle.mls_follow.specs.declared.resume_fault.ResumeFault.TheVariants.{Unreadable, ChecksumDiffers, UnsupportedVersion, UnsupportedSuite, RequirementsUnreadable, Tree, Member, InterimLength, KnownInvalid, AddedInvalid, Strict, KnownStrict, OutOfMemory}

-- `HasNoTree body`: the body is that of no ratchet tree.
abbrev pub HasNoTree : List ℕ → Type 0
HasNoTree body = (t : RatchetTree) → IsTreeBody body t → ⊥

-- `ReadsTreeBody body result`: the call returned the tree of the body. A fault other than `OutOfMemory` comes only if
-- there is none.
abbrev pub ReadsTreeBody : List ℕ → Result KeptTree NodeFault → Type 0
ReadsTreeBody body (Ok t) = IsTreeBody body (plain t)
ReadsTreeBody body (Err nodes.OutOfMemory) = Unit {0}
ReadsTreeBody body (Err e) = HasNoTree body

-- `unreadable fault` is the fault of a tree's body as a `ResumeFault`.
abbrev pub unreadable : NodeFault → ResumeFault
unreadable nodes.OutOfMemory = OutOfMemory
unreadable (nodes.Wire f) = Unreadable (nodes.Wire f)
unreadable (nodes.WrongNodeKind node_index) = Unreadable (nodes.WrongNodeKind node_index)
unreadable nodes.LastBlank = Unreadable nodes.LastBlank
unreadable nodes.EmptyTree = Unreadable nodes.EmptyTree
unreadable nodes.TooManyLeaves = Unreadable nodes.TooManyLeaves

-- `resume_fault_of fault` is the same fault of a tree as a `ResumeFault`.
abbrev pub resume_fault_of : GroupTreeFault → ResumeFault
resume_fault_of groups.RequirementsUnreadable = RequirementsUnreadable
resume_fault_of (groups.Tree fault) = Tree fault
resume_fault_of (groups.Member fault) = Member fault
resume_fault_of groups.OutOfMemory = OutOfMemory

-- `resume_fault_of_strict refused` is the same reason why strict rules can't be added, as a `ResumeFault`.
abbrev pub resume_fault_of_strict : StrictRefused → ResumeFault
resume_fault_of_strict (refusals.Group fault) = Strict fault
resume_fault_of_strict (refusals.Known n) = KnownStrict n
resume_fault_of_strict refusals.OutOfMemory = OutOfMemory

-- `IsKnownFault G s es fault`: the fault is that of the first entry that can't be pending, from the state `s` on.
-- `OutOfMemory` says nothing.
abbrev pub IsKnownFault : VerifyFn → State → List AuthenticatedParts → ResumeFault → Type 0
IsKnownFault G s es (Unreadable fault) = ⊥
IsKnownFault G s es ChecksumDiffers = ⊥
IsKnownFault G s es UnsupportedVersion = ⊥
IsKnownFault G s es UnsupportedSuite = ⊥
IsKnownFault G s es RequirementsUnreadable = ⊥
IsKnownFault G s es (Tree fault) = ⊥
IsKnownFault G s es (Member fault) = ⊥
IsKnownFault G s es InterimLength = ⊥
IsKnownFault G s es (KnownInvalid n) = FailsEntry G s es n
IsKnownFault G s es (AddedInvalid n) = ⊥
IsKnownFault G s es (Strict fault) = ⊥
IsKnownFault G s es (KnownStrict n) = ⊥
IsKnownFault G s es OutOfMemory = Unit {0}

-- `HasProposal m`: the message is a PublicMessage of a proposal.
abbrev pub HasProposal : Message → Type 0
HasProposal (messages.Public m) = (p : Proposal) × (m.auth.content.content ≡ contents.Proposal p)
HasProposal (messages.Unread wire_format body) = ⊥
HasProposal (messages.GroupInfo g) = ⊥
HasProposal (messages.KeyPackage k) = ⊥

-- `ReadsReferences suite t added result`: the call returned the references of those that the last commit added, or the number of
-- the first that doesn't fit.
abbrev pub ReadsReferences : ℕ → trees.Tree → Option (List (List ℕ)) → Result (Option (List (List ℕ))) ResumeFault → Type 0
ReadsReferences suite t added (Ok references) = (added_misfit suite t added ≡ None) × (references ≡ added)
ReadsReferences suite t added (Err (AddedInvalid n)) = added_misfit suite t added ≡ Some n
ReadsReferences suite t added (Err OutOfMemory) = Unit {0}
ReadsReferences suite t added (Err _) = ⊥

-- `state_without_pending mode context t interim` is the state with no pending proposals, no strict rules, and no references of
-- those that were added.
abbrev pub state_without_pending : GroupMode → GroupContext → trees.Tree → List ℕ → State
state_without_pending mode context t interim = record {
  profile = profile_of_mode mode;
  rules = plain_rules;
  context = context;
  tree = t;
  interim = interim;
  known = [];
  ended = is_over mode;
  added = None;
}

-- `MakesState G base c s`: from the state `base` without its pending proposals, the content of a file leads to the state `s`: its
-- entries are held, the references of those that were added fit, and its strict rules are added.
pub record MakesState (G : VerifyFn) (base : State) (c : FollowerState) (s : State) : Type 0 where
  pub with_pending : State
  pub held : HoldEntries G base c.known with_pending
  pub added_fit : added_misfit base.context.cipher_suite base.tree c.added ≡ None
  pub made_strict : HasAddedRules c.rules (record with_pending { added = c.added }) s

-- `FailsStrictFrom G base c e`: the strict rules can't be added, for this reason.
pub record FailsStrictFrom (G : VerifyFn) (base : State) (c : FollowerState) (e : StrictRefused) : Type 0 where
  pub with_pending : State
  pub held : HoldEntries G base c.known with_pending
  pub added_fit : added_misfit base.context.cipher_suite base.tree c.added ≡ None
  pub fails : IsStrictRefused c.rules (record with_pending { added = c.added }) e

-- `FailsAddedFrom G base c n`: the references of those that were added don't fit, for the n-th.
pub record FailsAddedFrom (G : VerifyFn) (base : State) (c : FollowerState) (n : ℕ) : Type 0 where
  pub with_pending : State
  pub held : HoldEntries G base c.known with_pending
  pub misfit : added_misfit base.context.cipher_suite base.tree c.added ≡ Some n

-- `IsStateFault G base c fault`: the fault is that of the first of the conditions 9, 12, 10, 11 that fails. `OutOfMemory` says
-- nothing.
abbrev pub IsStateFault : VerifyFn → State → FollowerState → ResumeFault → Type 0
IsStateFault G base c (Unreadable fault) = ⊥
IsStateFault G base c ChecksumDiffers = ⊥
IsStateFault G base c UnsupportedVersion = ⊥
IsStateFault G base c UnsupportedSuite = ⊥
IsStateFault G base c RequirementsUnreadable = ⊥
IsStateFault G base c (Tree fault) = ⊥
IsStateFault G base c (Member fault) = ⊥
IsStateFault G base c InterimLength = ⊥
IsStateFault G base c (KnownInvalid n) = FailsEntry G base c.known n
IsStateFault G base c (AddedInvalid n) = FailsAddedFrom G base c n
IsStateFault G base c (Strict fault) = FailsStrictFrom G base c (refusals.Group fault)
IsStateFault G base c (KnownStrict n) = FailsStrictFrom G base c (refusals.Known n)
IsStateFault G base c OutOfMemory = Unit {0}

-- `without_tree c` is the content of a file without its tree.
abbrev pub without_tree : FollowerState → FollowerState
without_tree c = record c { tree = [] }
