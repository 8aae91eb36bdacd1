-- How a follower resumes from a file (own rules; RFC 9420, 12.4.3.1, for the context and the tree): conditions in their
-- order, and which of them fails first. The signer and the signature of a GroupInfo have no part in it. G is the
-- verification function of the checker, `c` the content of the file, `t` its tree. Used by contracts.
use Rattle.std.specs.Prelude.{◌≡◌, ◌≢◌, ◌≤◌, ℕ, zero, suc, ◌==◌, ◌&&◌, nat_lt, if◌then◌else◌, List, [], ◌∷◌, length, Bool, true, false, Option, Some, None, Ok}
use Rattle.mls_wire.specs.Limits.{input_limit}
use Rattle.mls_nodes.specs.declared.required_capabilities.RequiredCapabilities.{RequiredCapabilities}
use Rattle.mls_tree.specs.RatchetTree.{RatchetTree}
use Rattle.mls_tree.specs.Tree as trees
use Rattle.mls_hash.specs.SuiteHash.{hash_length}
use Rattle.mls_check.specs.Signatures.{VerifyFn}
use Rattle.mls_check.specs.GroupTree.{HasMembers, FailsSuite, FailsRequirements, FailsValid, FailsMembers}
use Rattle.mls_msgs.specs.Rules.{plain_rules}
use Rattle.mls_msgs.specs.declared.authenticated.AuthenticatedParts.{AuthenticatedParts}
use Rattle.mls_msgs.specs.declared.framed_content.Sender.{Sender}
use Rattle.mls_msgs.specs.declared.framed_content.Sender.TheVariants as senders
use Rattle.mls_msgs.specs.declared.message.Message.{Message}
use Rattle.mls_msgs.specs.declared.message.Message.TheVariants as messages
use Rattle.mls_msgs.specs.declared.profile.Profile.{Profile}
use Rattle.mls_msgs.specs.declared.profile.Profile.TheVariants as profiles
use Rattle.mls_state.specs.Layout.{state_file}
use Rattle.mls_state.specs.StateFile.{HasChecksum}
use Rattle.mls_state.specs.declared.file.StateFile.{StateFile}
use Rattle.mls_state.specs.declared.state.FollowerState.{FollowerState}
use Rattle.mls_state.specs.declared.state.GroupMode.{GroupMode}
use Rattle.mls_state.specs.declared.state.GroupMode.TheVariants.{Members, Full, Ended}
use Rattle.mls_follow.specs.State.{State, EncodesMessage}
use Rattle.mls_follow.specs.Runs.{IsTransition}
use Rattle.mls_follow.specs.AddedRules.{HasAddedRules, IsStrictRefused}
use Rattle.mls_follow.specs.StoredState.{IsTreeBody, IsIntact}
use Rattle.mls_follow.specs.declared.added_rules.StrictRefused.{StrictRefused}
use Rattle.mls_follow.specs.declared.added_rules.StrictRefused.TheVariants as refused
use Rattle.mls_follow.specs.declared.taken.Taken.TheVariants as takens
use Rattle.mls_follow.specs.declared.resume_fault.ResumeFault.{ResumeFault}
use Rattle.mls_follow.specs.declared.resume_fault.ResumeFault.TheVariants.{Unreadable, ChecksumDiffers, UnsupportedVersion, UnsupportedSuite, RequirementsUnreadable, Tree, Member, InterimLength, KnownInvalid, AddedInvalid, Strict, KnownStrict, OutOfMemory}

-- Condition 1: the bytes encode a file, of no more bytes than an input may have, and its tree can be read.
pub record IsReadableFile (bytes : List ℕ) (file : StateFile) (t : RatchetTree) : Type 0 where
  pub encoded : state_file file ≡ Some bytes
  pub bounded : length bytes ≤ input_limit
  pub tree : IsTreeBody file.state.tree t

-- Condition 2, with 1: the checksum is that of the state. That is `IsIntact`.

-- Conditions 3 to 7: the version and the suite are supported, the required capabilities can be read, the tree is valid,
-- and its leaf nodes are valid. That is `HasMembers` of the context and the tree.

-- Condition 8, with 3 to 7: the interim transcript hash has the length of the suite's hashes (RFC 9420, 8.2 and 17.1).
pub record HasInterim (G : VerifyFn) (c : FollowerState) (t : RatchetTree) : Type 0 where
  pub required : RequiredCapabilities
  pub has_members : HasMembers G c.context (λ u. u ≡ t) t required
  pub hashed : length c.interim ≡ hash_length c.context.cipher_suite

-- `tag_of_entry sender` is the membership tag that the PublicMessage of an entry has here, if its sender is a member: an empty
-- one (RFC 9420, 6.2). Without strict rules none looks at it.
abbrev pub tag_of_entry : Sender → Option (List ℕ)
tag_of_entry (senders.Member _) = Some []
tag_of_entry (senders.External _) = None
tag_of_entry senders.NewMemberProposal = None
tag_of_entry senders.NewMemberCommit = None

-- `entry_message a` is the PublicMessage of the entry `a`.
abbrev pub entry_message : AuthenticatedParts → Message
entry_message a = messages.Public (record { auth = a; membership_tag = tag_of_entry a.content.sender })

-- `AcceptsMessage G s m new`: in the state `s` the message is acceptable, and a proposal, and `new` is the next state.
pub record AcceptsMessage (G : VerifyFn) (s : State) (m : Message) (new : State) : Type 0 where
  pub bytes : List ℕ
  pub encoded : EncodesMessage s.profile m bytes
  pub reference : List ℕ
  pub accepted : IsTransition G s bytes (Ok (takens.Proposal reference)) new

-- `Holds G s a new`: in the state `s` the entry `a` can be the next pending proposal, and `new` is the state with it. Its wire
-- format is that of a PublicMessage (RFC 9420, 6), and its message is accepted.
pub record Holds (G : VerifyFn) (s : State) (a : AuthenticatedParts) (new : State) : Type 0 where
  pub format : a.wire_format ≡ 1
  pub accepts : AcceptsMessage G s (entry_message a) new

-- Condition 9, for the entries of a file: `HoldEntries G s es new`: each of them in turn can be pending, from the state `s` on,
-- and `new` is the state with all of them.
abbrev pub HoldEntries : VerifyFn → State → List AuthenticatedParts → State → Type 0
HoldEntries G s [] new = new ≡ s
HoldEntries G s (a ∷ es) new = (mid : State) × Holds G s a mid × HoldEntries G mid es new

-- `FailsEntry G s es n`: those before the n-th can be pending, but the n-th can't. The first one is 0.
abbrev pub FailsEntry : VerifyFn → State → List AuthenticatedParts → ℕ → Type 0
FailsEntry G s [] n = ⊥
FailsEntry G s (a ∷ es) zero = (mid : State) → Holds G s a mid → ⊥
FailsEntry G s (a ∷ es) (suc n) = (mid : State) × Holds G s a mid × FailsEntry G mid es n

-- `misfit suite members k rs` is the number of the first of the references that can't be the KeyPackageRef of a member that a
-- commit added: it has another length than the suite's hashes (RFC 9420, 5.2), or there are no more members than references
-- before it. The first one of them is the k-th.
abbrev pub misfit : ℕ → ℕ → ℕ → List (List ℕ) → Option ℕ
misfit suite members k [] = None
misfit suite members k (r ∷ rs) =
    if length r == hash_length suite && nat_lt k members then misfit suite members (suc k) rs else Some k

-- Condition 12, which comes after 9: `added_misfit suite t added` is `None`, where `added` is the references of those that the last
-- commit added.
abbrev pub added_misfit : ℕ → trees.Tree → Option (List (List ℕ)) → Option ℕ
added_misfit suite t None = None
added_misfit suite t (Some rs) = misfit suite (trees.member_count t) 0 rs

-- Conditions 10 and 11, which come last: the context and the tree, and the pending proposals, meet the strict rules of the file.
-- These are then added to the state: `HasAddedRules`.

-- `profile_of_mode mode` is the profile in which a group of a file is followed.
abbrev pub profile_of_mode : GroupMode → Profile
profile_of_mode Members = profiles.Members
profile_of_mode Full = profiles.Full
profile_of_mode Ended = profiles.Full

-- `is_over mode`: the group of a file is over.
abbrev pub is_over : GroupMode → Bool
is_over Members = false
is_over Full = false
is_over Ended = true

-- `base_state c t` is the state of a file without its pending proposals, its strict rules, and the references of those that the
-- last commit added.
abbrev pub base_state : FollowerState → RatchetTree → State
base_state c t = record {
  profile = profile_of_mode c.mode;
  rules = plain_rules;
  context = c.context;
  tree = t.tree;
  interim = c.interim;
  known = [];
  ended = is_over c.mode;
  added = None;
}

-- `IsPlainStateOf G c t s`: the conditions 3 to 9 and 12 hold, and `s` is the state without its strict rules.
pub record IsPlainStateOf (G : VerifyFn) (c : FollowerState) (t : RatchetTree) (s : State) : Type 0 where
  pub has_interim : HasInterim G c t
  pub with_pending : State
  pub held : HoldEntries G (base_state c t) c.known with_pending
  pub added_fit : added_misfit c.context.cipher_suite t.tree c.added ≡ None
  pub state : s ≡ record with_pending { added = c.added }

-- `IsStateOf G c t s`: the conditions 3 to 12 hold, and `s` is the state.
pub record IsStateOf (G : VerifyFn) (c : FollowerState) (t : RatchetTree) (s : State) : Type 0 where
  pub without_rules : State
  pub is_plain : IsPlainStateOf G c t without_rules
  pub made_strict : HasAddedRules c.rules without_rules s

-- `IsResumed G bytes s`: a follower resumes from the bytes in the state `s`. All twelve conditions hold.
pub record IsResumed (G : VerifyFn) (bytes : List ℕ) (s : State) : Type 0 where
  pub content : FollowerState
  pub tree : RatchetTree
  pub intact : IsIntact bytes content tree
  pub state : IsStateOf G content tree s

-- ---- why no follower resumes: the first condition that fails

-- `InFile bytes Fails`: the file is intact, and `Fails` holds of its content and its tree.
abbrev pub InFile : List ℕ → (FollowerState → RatchetTree → Type 0) → Type 0
InFile bytes Fails = (c : FollowerState) × (t : RatchetTree) × IsIntact bytes c t × Fails c t

-- `FailsInterim G c t`: condition 8 fails.
pub record FailsInterim (G : VerifyFn) (c : FollowerState) (t : RatchetTree) : Type 0 where
  pub required : RequiredCapabilities
  pub has_members : HasMembers G c.context (λ u. u ≡ t) t required
  pub other : length c.interim ≢ hash_length c.context.cipher_suite

-- `FailsKnown G c t n`: condition 9 fails, at the n-th entry.
pub record FailsKnown (G : VerifyFn) (c : FollowerState) (t : RatchetTree) (n : ℕ) : Type 0 where
  pub has_interim : HasInterim G c t
  pub fails : FailsEntry G (base_state c t) c.known n

-- `FailsAddedRefs G c t n`: condition 12 fails, after 9 holds, at the n-th reference.
pub record FailsAddedRefs (G : VerifyFn) (c : FollowerState) (t : RatchetTree) (n : ℕ) : Type 0 where
  pub has_interim : HasInterim G c t
  pub with_pending : State
  pub held : HoldEntries G (base_state c t) c.known with_pending
  pub misfit : added_misfit c.context.cipher_suite t.tree c.added ≡ Some n

-- `FailsStrict G c t e`: condition 10 or 11 fails, after the others hold: the strict rules of the file can't be added to the
-- state, for this reason.
pub record FailsStrict (G : VerifyFn) (c : FollowerState) (t : RatchetTree) (e : StrictRefused) : Type 0 where
  pub without_rules : State
  pub is_plain : IsPlainStateOf G c t without_rules
  pub fails : IsStrictRefused c.rules without_rules e

-- `IsContentFault G c t fault`: the fault is that of the first of the conditions 3 to 9, 12, 10, 11 that fails. `OutOfMemory` says
-- nothing.
abbrev pub IsContentFault : VerifyFn → FollowerState → RatchetTree → ResumeFault → Type 0
IsContentFault G c t (Unreadable fault) = ⊥
IsContentFault G c t ChecksumDiffers = ⊥
IsContentFault G c t UnsupportedVersion = c.context.version ≢ 1
IsContentFault G c t UnsupportedSuite = FailsSuite c.context
IsContentFault G c t RequirementsUnreadable = FailsRequirements c.context (λ u. u ≡ t)
IsContentFault G c t (Tree fault) = FailsValid c.context (λ u. u ≡ t) fault
IsContentFault G c t (Member fault) = FailsMembers G c.context (λ u. u ≡ t) fault
IsContentFault G c t InterimLength = FailsInterim G c t
IsContentFault G c t (KnownInvalid n) = FailsKnown G c t n
IsContentFault G c t (AddedInvalid n) = FailsAddedRefs G c t n
IsContentFault G c t (Strict fault) = FailsStrict G c t (refused.Group fault)
IsContentFault G c t (KnownStrict n) = FailsStrict G c t (refused.Known n)
IsContentFault G c t OutOfMemory = Unit {0}

-- `IsUnreadableFile bytes`: condition 1 fails.
abbrev pub IsUnreadableFile : List ℕ → Type 0
IsUnreadableFile bytes = (file : StateFile) (t : RatchetTree) → IsReadableFile bytes file t → ⊥

-- `HasOtherChecksum bytes`: condition 2 fails.
abbrev pub HasOtherChecksum : List ℕ → Type 0
HasOtherChecksum bytes = (file : StateFile) × (t : RatchetTree) × IsReadableFile bytes file t × (HasChecksum file → ⊥)

-- `IsResumeFault G bytes fault`: the fault is that of the first condition that fails. `OutOfMemory` says nothing.
abbrev pub IsResumeFault : VerifyFn → List ℕ → ResumeFault → Type 0
IsResumeFault G bytes (Unreadable fault) = IsUnreadableFile bytes
IsResumeFault G bytes ChecksumDiffers = HasOtherChecksum bytes
IsResumeFault G bytes UnsupportedVersion = InFile bytes (λ c t. IsContentFault G c t UnsupportedVersion)
IsResumeFault G bytes UnsupportedSuite = InFile bytes (λ c t. IsContentFault G c t UnsupportedSuite)
IsResumeFault G bytes RequirementsUnreadable = InFile bytes (λ c t. IsContentFault G c t RequirementsUnreadable)
IsResumeFault G bytes (Tree fault) = InFile bytes (λ c t. IsContentFault G c t (Tree fault))
IsResumeFault G bytes (Member fault) = InFile bytes (λ c t. IsContentFault G c t (Member fault))
IsResumeFault G bytes InterimLength = InFile bytes (λ c t. IsContentFault G c t InterimLength)
IsResumeFault G bytes (KnownInvalid n) = InFile bytes (λ c t. IsContentFault G c t (KnownInvalid n))
IsResumeFault G bytes (AddedInvalid n) = InFile bytes (λ c t. IsContentFault G c t (AddedInvalid n))
IsResumeFault G bytes (Strict fault) = InFile bytes (λ c t. IsContentFault G c t (Strict fault))
IsResumeFault G bytes (KnownStrict n) = InFile bytes (λ c t. IsContentFault G c t (KnownStrict n))
IsResumeFault G bytes OutOfMemory = Unit {0}
