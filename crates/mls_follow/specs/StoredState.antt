-- The file of a follower's state (layout of `mls_state/specs/Layout`). Used by contracts.
use Rattle.std.specs.Prelude.{◌≡◌, ◌≤◌, ℕ, Bool, true, false, List, length, map, Option, Some, None}
use Rattle.mls_wire.specs.Encoding.{vector}
use Rattle.mls_wire.specs.Limits.{input_limit}
use Rattle.mls_tree.specs.RatchetTree.{RatchetTree}
use Rattle.mls_tree.specs.TreeDecoding.{IsTreeOf}
use Rattle.mls_msgs.specs.declared.authenticated.AuthenticatedParts.{AuthenticatedParts}
use Rattle.mls_msgs.specs.declared.profile.Profile.{Profile}
use Rattle.mls_msgs.specs.declared.profile.Profile.TheVariants as profiles
use Rattle.mls_state.specs.StateFile.{IsFileOf}
use Rattle.mls_state.specs.declared.state.FollowerState.{FollowerState}
use Rattle.mls_state.specs.declared.state.GroupMode.{GroupMode}
use Rattle.mls_state.specs.declared.state.GroupMode.TheVariants.{Members, Full, Ended}
use Rattle.mls_nodes.specs.declared.context.GroupContext.{GroupContext}
use Rattle.mls_apply.specs.PendingContent.{authenticated_of}
use Rattle.mls_apply.specs.declared.list_item.KnownProposal.{KnownProposal}
use Rattle.mls_follow.specs.MessageRules.{reference_of}
use Rattle.mls_follow.specs.State.{State}

-- `IsTreeBody body t`: the body, after its length, is the encoding of the ratchet tree `t` (RFC 9420, 12.4.3.3).
pub record IsTreeBody (body : List ℕ) (t : RatchetTree) : Type 0 where
  pub bytes : List ℕ
  pub encoded : vector body ≡ Some bytes
  pub tree : IsTreeOf bytes t

-- `IsIntact bytes c t`: the bytes, no more than an input may have, are the file of `c`, and `t` is its tree.
pub record IsIntact (bytes : List ℕ) (c : FollowerState) (t : RatchetTree) : Type 0 where
  pub file : IsFileOf bytes c
  pub bounded : length bytes ≤ input_limit
  pub tree : IsTreeBody c.tree t

-- `stored_mode profile ended` is how a file has the profile, and whether the group is over. In the members' profile no
-- group is over, so `None`.
abbrev pub stored_mode : Profile → Bool → Option GroupMode
stored_mode profiles.Members false = Some Members
stored_mode profiles.Members true = None
stored_mode profiles.Full false = Some Full
stored_mode profiles.Full true = Some Ended

-- `pending_contents s` is the AuthenticatedContents of the pending proposals, in their order (RFC 9420, 6 and 12.4).
abbrev pub pending_contents : State → List AuthenticatedParts
pending_contents s = map (authenticated_of s.context) s.known

-- `computed_references context ks` is the ProposalRefs of the AuthenticatedContents of pending proposals, in their order (RFC
-- 9420, 5.2).
abbrev pub computed_references : GroupContext → List KnownProposal → List (Option (List ℕ))
computed_references context ks = map (λ k. reference_of context (authenticated_of context k)) ks

-- `AreReferenced context ks`: the reference of each pending proposal is the ProposalRef of its AuthenticatedContent.
abbrev pub AreReferenced : GroupContext → List KnownProposal → Type 0
AreReferenced context ks = computed_references context ks ≡ map (λ k. Some k.reference) ks

-- `Stores c t s`: `c`, whose tree is `t`, stores the state `s`. Of each pending proposal it stores the AuthenticatedContent,
-- from which the reference follows.
pub record Stores (c : FollowerState) (t : RatchetTree) (s : State) : Type 0 where
  pub mode : stored_mode s.profile s.ended ≡ Some c.mode
  pub rules : c.rules ≡ s.rules
  pub context : c.context ≡ s.context
  pub tree : t.tree ≡ s.tree
  pub interim : c.interim ≡ s.interim
  pub known : c.known ≡ pending_contents s
  pub referenced : AreReferenced s.context s.known
  pub added : c.added ≡ s.added

-- `EncodesState s bytes`: the bytes are the file of the state `s`.
pub record EncodesState (s : State) (bytes : List ℕ) : Type 0 where
  pub content : FollowerState
  pub tree : RatchetTree
  pub intact : IsIntact bytes content tree
  pub stores : Stores content tree s

-- `HasNoFile s`: no bytes are the file of the state `s`.
abbrev pub HasNoFile : State → Type 0
HasNoFile s = (bytes : List ℕ) → EncodesState s bytes → ⊥
