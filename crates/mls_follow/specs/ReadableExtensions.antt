-- Required capabilities in pending proposals can be read (RFC 9420, 11.1 and 12.1.7). So if a proposal list satisfies
-- its rules, what is required after it can be read, and no follower refuses a commit for that. Used by contracts.
use Rattle.std.specs.Prelude.{◌≡◌, List, All, true, Some, IsSome}
use Rattle.mls_nodes.specs.declared.required_capabilities.RequiredCapabilities.{RequiredCapabilities}
use Rattle.mls_check.specs.Signatures.{VerifyFn}
use Rattle.mls_msgs.specs.declared.framed_content.Sender.{Sender}
use Rattle.mls_msgs.specs.declared.proposal.ProposalOrRef.{ProposalOrRef}
use Rattle.mls_apply.specs.declared.list_item.ListItem.{ListItem}
use Rattle.mls_apply.specs.declared.list_item.KnownProposal.{KnownProposal}
use Rattle.mls_apply.specs.ContextExtensions.{proposed_extensions}
use Rattle.mls_apply.specs.ResolvedList.{resolved}
use Rattle.mls_apply.specs.ProposalRules.{all_inline, valid_if_extensions}
use Rattle.mls_follow.specs.State.{State}
use Rattle.mls_follow.specs.MessageRules.{required_after}
use Rattle.mls_follow.specs.Runs.{Call, IsRun}
use Rattle.mls_follow.specs.StoredRuns.{IsInitialState}

-- `AreReadable known`: the required capabilities of each pending GroupContextExtensions can be read.
abbrev pub AreReadable : List KnownProposal → Type 0
AreReadable known = All (λ k. valid_if_extensions k.proposal ≡ true) known

-- After any run from a start or a resumption, `AreReadable` holds of the pending proposals.
abbrev pub FollowersKnowReadable : Type 0
FollowersKnowReadable =
    (G : VerifyFn) (first last : State) (calls : List Call) → IsInitialState G first → IsRun G first calls last
    → AreReadable last.known

-- If `AreReadable` holds, what a proposal list requires can be read, if the proposals by value satisfy their rules.
abbrev pub CommitsAreReadable : Type 0
CommitsAreReadable =
    (committer : Sender) (known : List KnownProposal) (entries : List ProposalOrRef)
    (items : List ListItem) (required : RequiredCapabilities)
    → AreReadable known → all_inline valid_if_extensions entries ≡ true
    → resolved committer known entries ≡ Some items
    → IsSome (required_after required (proposed_extensions items))
