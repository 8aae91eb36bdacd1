-- The signature of a proposal is checked before it is compared with the pending ones, and each pending proposal was
-- signed (RFC 9420, 6.1 and 12.4). Used by contracts.
use Rattle.std.specs.Prelude.{◌≡◌, ℕ, List, All, true, false, Some}
use Rattle.mls_nodes.specs.declared.context.GroupContext.{GroupContext}
use Rattle.mls_nodes.specs.declared.required_capabilities.RequiredCapabilities.{RequiredCapabilities}
use Rattle.mls_tree.specs.Tree.{Tree}
use Rattle.mls_check.specs.Signatures.{VerifyFn}
use Rattle.mls_msgs.specs.declared.authenticated.AuthenticatedParts.{AuthenticatedParts}
use Rattle.mls_msgs.specs.declared.framed_content.Content.TheVariants as contents
use Rattle.mls_msgs.specs.declared.message.Message.TheVariants as messages
use Rattle.mls_msgs.specs.declared.proposal.Proposal.{Proposal}
use Rattle.mls_msgs.specs.declared.public_message.PublicParts.{PublicParts}
use Rattle.mls_apply.specs.PendingContent.{authenticated_of}
use Rattle.mls_apply.specs.declared.list_item.KnownProposal.{KnownProposal}
use Rattle.mls_apply.specs.declared.refusal.Refusal.TheVariants as refusals
use Rattle.mls_apply.specs.declared.refusal.Refusal.TheVariants.{BadSignature}
use Rattle.mls_apply.specs.RuleLists.{first_failing}
use Rattle.mls_signatures.specs.SigningKeys.{signing_key, may_propose}
use Rattle.mls_follow.specs.State.{State}
use Rattle.mls_follow.specs.MessageRules.{reference_of, is_sender_supported, is_new_proposal, is_frame_signed}
use Rattle.mls_follow.specs.StrictRules.{all_rules}
use Rattle.mls_follow.specs.Runs.{Call, IsRun}
use Rattle.mls_follow.specs.StoredRuns.{IsInitialState}

-- `IsProposalUnder s a key p`: the content is a proposal for the current group and epoch, the group goes on, the sender's
-- messages are processed, and the sender may send the proposal and has this key.
pub record IsProposalUnder (s : State) (a : AuthenticatedParts) (key : List ℕ) (p : Proposal) : Type 0 where
  pub group : a.content.group_id ≡ s.context.group_id
  pub epoch : a.content.epoch ≡ s.context.epoch
  pub going : s.ended ≡ false
  pub supported : is_sender_supported s.profile a.content.sender ≡ true
  pub allowed : may_propose a.content.sender p ≡ true
  pub signer : signing_key s.context s.tree a.content.sender a.content.content ≡ Some key
  pub content : a.content.content ≡ contents.Proposal p

-- If its signature is not good, that is the first refusal, also if it is pending already.
abbrev pub UnsignedIsReportedFirst : Type 0
UnsignedIsReportedFirst =
    (G : VerifyFn) (s : State) (required : RequiredCapabilities) (m : PublicParts) (key : List ℕ) (p : Proposal)
    → IsProposalUnder s m.auth key p → is_frame_signed G s.context key m.auth ≡ false
    → first_failing (all_rules G s required (messages.Public m)) ≡ Some BadSignature

-- If its signature is good and it is pending already, that is the first refusal.
abbrev pub KnownIsReportedNext : Type 0
KnownIsReportedNext =
    (G : VerifyFn) (s : State) (required : RequiredCapabilities) (m : PublicParts) (key : List ℕ) (p : Proposal)
    → IsProposalUnder s m.auth key p → is_frame_signed G s.context key m.auth ≡ true → is_new_proposal s m.auth ≡ false
    → first_failing (all_rules G s required (messages.Public m)) ≡ Some refusals.KnownProposal

-- `IsKnownSigned G context t k`: the sender of the pending proposal may send it and has signed its AuthenticatedContent (RFC
-- 9420, 6.1), under the key of its leaf in the tree or under the key of a sender outside the group; and its reference is the
-- ProposalRef of this AuthenticatedContent (5.2).
pub record IsKnownSigned (G : VerifyFn) (context : GroupContext) (t : Tree) (k : KnownProposal) : Type 0 where
  pub key : List ℕ
  pub signer : signing_key context t k.sender (contents.Proposal k.proposal) ≡ Some key
  pub allowed : may_propose k.sender k.proposal ≡ true
  pub reference : reference_of context (authenticated_of context k) ≡ Some k.reference
  pub signed : is_frame_signed G context key (authenticated_of context k) ≡ true

-- `AreKnownSigned G s`: `IsKnownSigned` holds of each pending proposal of the state.
abbrev pub AreKnownSigned : VerifyFn → State → Type 0
AreKnownSigned G s = All (IsKnownSigned G s.context s.tree) s.known

-- After any run from a start or a resumption, `AreKnownSigned` holds.
abbrev pub FollowersKnowSigned : Type 0
FollowersKnowSigned =
    (G : VerifyFn) (first last : State) (calls : List Call) → IsInitialState G first → IsRun G first calls last
    → AreKnownSigned G last
