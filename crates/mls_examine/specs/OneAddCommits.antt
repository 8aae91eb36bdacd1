-- A commit of one Add, in the group that can or cannot add the client (RFC 9420, 12.1.1, 12.4 and 12.4.2). `s` is the state, G the
-- verification function of a checker. Used by contracts.
use Rattle.std.specs.Prelude.{◌≡◌, ◌↔◌, ℕ, nat_lt, if◌then◌else◌, [], ◌∷◌, true, false, List, Some, None}
use Rattle.mls_nodes.specs.declared.leaf.LeafNode.{LeafNode}
use Rattle.mls_tree.specs.Tree.{leaf_at}
use Rattle.mls_check.specs.Signatures.{VerifyFn}
use Rattle.mls_msgs.specs.Rules.{has_rule}
use Rattle.mls_msgs.specs.declared.commit.Commit.{Commit}
use Rattle.mls_msgs.specs.declared.framed_content.Content.TheVariants as contents
use Rattle.mls_msgs.specs.declared.framed_content.Sender.TheVariants as senders
use Rattle.mls_msgs.specs.declared.key_package.KeyPackage.{KeyPackage}
use Rattle.mls_msgs.specs.declared.message.Message.TheVariants as messages
use Rattle.mls_msgs.specs.declared.proposal.Proposal.TheVariants as proposals
use Rattle.mls_msgs.specs.declared.proposal.ProposalOrRef.TheVariants as entries
use Rattle.mls_msgs.specs.declared.public_message.PublicParts.{PublicParts}
use Rattle.mls_msgs.specs.declared.strict_rule.StrictRule.TheVariants as rules
use Rattle.mls_apply.specs.declared.refusal.Refusal.{Refusal}
use Rattle.mls_apply.specs.declared.refusal.Refusal.TheVariants as refusals
use Rattle.mls_follow.specs.Acceptance.{FailsRule, IsAcceptable}
use Rattle.mls_follow.specs.MessageRules.{is_frame_signed}
use Rattle.mls_follow.specs.Runs.{IsWellFormed}
use Rattle.mls_follow.specs.State.{State, EncodesMessage, last_epoch}
use Rattle.mls_follow.specs.StrictRules.{strict_meets, supports_extensions}
use Rattle.mls_follow.specs.Validity.{IsValidState}
use Rattle.mls_examine.specs.AddablePackages.{IsAddable, IsUnaddable}
use Rattle.mls_examine.specs.Packages.{is_signed}
use Rattle.mls_examine.specs.declared.unfit.Unfit.{Unfit}
use Rattle.mls_examine.specs.declared.unfit.Unfit.TheVariants as unfit

-- `CommitsOneAdd G s bytes k`: the bytes encode a commit of the one Add of `k`, by value and without a path. A member has signed it,
-- it is of the group and the epoch, and its tags meet strict rule 40, if the state has it.
pub record CommitsOneAdd (G : VerifyFn) (s : State) (bytes : List ℕ) (k : KeyPackage) : Type 0 where
  pub parts : PublicParts
  pub encoded : EncodesMessage s.profile (messages.Public parts) bytes
  pub committer : ℕ
  pub leaf : LeafNode
  pub commit : Commit
  pub sender_is : parts.auth.content.sender ≡ senders.Member committer
  pub content_is : parts.auth.content.content ≡ contents.Commit commit
  pub list : commit.proposals ≡ entries.Proposal (proposals.Add k) ∷ []
  pub no_path : commit.path ≡ None
  pub group : parts.auth.content.group_id ≡ s.context.group_id
  pub epoch : parts.auth.content.epoch ≡ s.context.epoch
  pub member : leaf_at 0 s.tree committer ≡ Some leaf
  pub signed : is_frame_signed G s.context leaf.signature_key parts.auth ≡ true
  pub tags : has_rule s.rules 40 ≡ true → strict_meets s rules.TagLength parts ≡ true

-- `commit_refusal_of e` is the refusal of such a commit for this reason, if the signatures of its KeyPackage are good.
abbrev pub commit_refusal_of : Unfit → Refusal
commit_refusal_of unfit.GroupOver = refusals.GroupOver
commit_refusal_of unfit.LastEpoch = refusals.LastEpoch
commit_refusal_of unfit.TooManyLeaves = refusals.TooManyLeaves
commit_refusal_of unfit.KeyRepeated = refusals.KeyRepeated
commit_refusal_of (unfit.Member fault) = refusals.Member fault
commit_refusal_of (unfit.Strict r) = refusals.Strict r
commit_refusal_of e = refusals.AddInvalid

-- `unsigned_refusal s` is the refusal of such a commit if a signature of its KeyPackage is not good, whatever else is.
abbrev pub unsigned_refusal : State → Refusal
unsigned_refusal s =
    if s.ended then refusals.GroupOver else if nat_lt s.context.epoch last_epoch then refusals.AddInvalid else refusals.LastEpoch

-- `SupportsTypes s`: if the state has strict rule 51, each leaf of the tree supports the types of the context's extensions, as
-- in each strict state.
abbrev pub SupportsTypes : State → Type 0
SupportsTypes s = has_rule s.rules 51 ≡ true → supports_extensions s.context.extensions s.tree ≡ true

-- ---- theorems

-- In a well-formed, valid state a commit of one Add is acceptable if and only if the group can add the client.
abbrev pub AddableIsAcceptable : Type 0
AddableIsAcceptable =
    (G : VerifyFn) (s : State) (bytes : List ℕ) (k : KeyPackage)
    → IsWellFormed s → IsValidState G s → SupportsTypes s → CommitsOneAdd G s bytes k
    → IsAcceptable G s bytes ↔ IsAddable G s k

-- If the group cannot add a client whose KeyPackage is signed, a commit of this one Add is refused by the rule of the reason.
abbrev pub UnaddableIsRefused : Type 0
UnaddableIsRefused =
    (G : VerifyFn) (s : State) (bytes : List ℕ) (k : KeyPackage) (e : Unfit)
    → IsWellFormed s → IsValidState G s → SupportsTypes s → CommitsOneAdd G s bytes k → is_signed G k ≡ true
    → IsUnaddable G s k e → FailsRule G s bytes (commit_refusal_of e)

-- If a signature of the KeyPackage is not good, a commit of this one Add is refused.
abbrev pub UnsignedIsRefused : Type 0
UnsignedIsRefused =
    (G : VerifyFn) (s : State) (bytes : List ℕ) (k : KeyPackage)
    → IsValidState G s → CommitsOneAdd G s bytes k → is_signed G k ≡ false → FailsRule G s bytes (unsigned_refusal s)
