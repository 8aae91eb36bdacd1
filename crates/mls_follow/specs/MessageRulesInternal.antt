-- The refusal of the first rule for a message that fails, step by step (RFC 9420, 6.1, 12.1 to 12.4). `s` is the state,
-- G the verification function of the checker, `a` the AuthenticatedContent, `i` the leaf index of a sender that is a
-- member, `required` what the group requires. Internal: no public contract uses this.
use Rattle.std.specs.Prelude.{ℕ, is_some, not, List, Bool, true, false, Option, option_and_then}
use Rattle.mls_nodes.specs.declared.required_capabilities.RequiredCapabilities.{RequiredCapabilities}
use Rattle.mls_check.specs.Signatures.{VerifyFn}
use Rattle.mls_msgs.specs.declared.authenticated.AuthenticatedParts.{AuthenticatedParts}
use Rattle.mls_msgs.specs.declared.commit.Commit.{Commit}
use Rattle.mls_msgs.specs.declared.framed_content.Content.{Content}
use Rattle.mls_msgs.specs.declared.framed_content.Content.TheVariants as contents
use Rattle.mls_msgs.specs.declared.framed_content.Sender.{Sender}
use Rattle.mls_msgs.specs.declared.framed_content.Sender.TheVariants as senders
use Rattle.mls_msgs.specs.declared.proposal.Proposal.{Proposal}
use Rattle.mls_apply.specs.RuleLists.{first_failing}
use Rattle.mls_apply.specs.declared.refusal.Refusal.{Refusal}
use Rattle.mls_follow.specs.State.{State}
use Rattle.mls_follow.specs.MessageRules.{proposal_message_rules, commit_rules, handshake_rules, outside_rules, external_commit_rules, joiner_rules, sender_rules, frame_rules}

-- `is_handshake c`: the content is a proposal or a commit (RFC 9420, 6).
abbrev pub is_handshake : Content → Bool
is_handshake (contents.Application _) = false
is_handshake (contents.Proposal _) = true
is_handshake (contents.Commit _) = true

-- `lacks_key sender key`: the sender is an external one without a key.
abbrev pub lacks_key : Sender → Option (List ℕ) → Bool
lacks_key (senders.Member _) key = false
lacks_key (senders.External _) key = not (is_some key)
lacks_key senders.NewMemberProposal key = false
lacks_key senders.NewMemberCommit key = false

-- `frame_refusal G s required a` is the refusal of the first rule for an AuthenticatedContent that fails.
unfoldable pub frame_refusal : VerifyFn → State → RequiredCapabilities → AuthenticatedParts
    → Option Refusal
frame_refusal G s required a = first_failing (frame_rules G s required a)

-- `sender_refusal G s required a sender` is the refusal of the first rule for a message of a sender that fails.
unfoldable pub sender_refusal : VerifyFn → State → RequiredCapabilities → AuthenticatedParts → Sender
    → Option Refusal
sender_refusal G s required a sender = first_failing (sender_rules G s required a sender)

-- `outside_refusal G s a sender` is the refusal of the first rule for a message of a sender outside the group that
-- fails.
unfoldable pub outside_refusal : VerifyFn → State → AuthenticatedParts → Sender → Option Refusal
outside_refusal G s a sender = first_failing (outside_rules G s a sender)

-- `proposal_refusal G s a sender p` is the refusal of the first rule for a proposal of a sender that fails.
unfoldable pub proposal_refusal : VerifyFn → State → AuthenticatedParts → Sender → Proposal → Option Refusal
proposal_refusal G s a sender p = first_failing (proposal_message_rules G s a sender p)

-- `handshake_refusal G s required a i c` is the refusal of the first rule for the content of member i that fails.
unfoldable pub handshake_refusal : VerifyFn → State → RequiredCapabilities → AuthenticatedParts → ℕ
    → Content → Option Refusal
handshake_refusal G s required a i content =
    option_and_then first_failing (handshake_rules G s required a i content)

-- `commit_refusal G s required i c` is the refusal of the first rule for a commit of member i that fails.
unfoldable pub commit_refusal : VerifyFn → State → RequiredCapabilities → ℕ → Commit → Option Refusal
commit_refusal G s required i c = first_failing (commit_rules G s required i c)

-- `joiner_refusal G s required a c` is the refusal of the first rule for the content of a client that joins with a
-- commit that fails.
unfoldable pub joiner_refusal : VerifyFn → State → RequiredCapabilities → AuthenticatedParts → Content
    → Option Refusal
joiner_refusal G s required a content = first_failing (joiner_rules G s required a content)

-- `external_commit_refusal G s required c` is the refusal of the first rule for an external commit that fails.
unfoldable pub external_commit_refusal : VerifyFn → State → RequiredCapabilities → Commit → Option Refusal
external_commit_refusal G s required c = first_failing (external_commit_rules G s required c)
