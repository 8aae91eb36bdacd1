-- Signatures that a checker accepts, and why a checker that accepts those of the pending proposals needs only those of a message
-- that no pending proposal has (RFC 9420, 12.4).
-- Used by contracts. `G`: the verification function of a checker.
use Rattle.std.specs.Prelude.{◌≡◌, Bool, true, not, List, filter}
use Rattle.std.specs.List.{list_all}
use Rattle.mls_nodes.specs.declared.context.GroupContext.{GroupContext}
use Rattle.mls_tree.specs.Tree.{Tree}
use Rattle.mls_check.specs.Signatures.{VerifyFn}
use Rattle.mls_msgs.specs.declared.message.Message.{Message}
use Rattle.mls_msgs.specs.declared.profile.Profile.{Profile}
use Rattle.mls_msgs.specs.declared.proposal.Proposal.{Proposal}
use Rattle.mls_msgs.specs.declared.proposal.Proposal.TheVariants as proposals
use Rattle.mls_apply.specs.ProposalRules.{is_from_key_package}
use Rattle.mls_apply.specs.declared.list_item.KnownProposal.{KnownProposal}
use Rattle.mls_signatures.specs.SignaturesToVerify.{proposal_signatures, message_signatures, fresh_message_signatures}
use Rattle.mls_signatures.specs.declared.signature_to_verify.SignatureToVerify.{SignatureToVerify}

-- `is_accepted G q`: `G` accepts the signature `q`.
abbrev pub is_accepted : VerifyFn → SignatureToVerify → Bool
is_accepted G q = G q.suite q.key q.content q.signature

-- `unaccepted G qs` is the signatures of `qs` that `G` does not accept, in their order.
abbrev pub unaccepted : VerifyFn → List SignatureToVerify → List SignatureToVerify
unaccepted G qs = filter (λ q. not (is_accepted G q)) qs

-- `are_accepted G qs`: `G` accepts each signature of `qs`.
abbrev pub are_accepted : VerifyFn → List SignatureToVerify → Bool
are_accepted G qs = list_all (is_accepted G) qs

-- `are_pending_accepted G context known`: `G` accepts the signatures of each pending proposal in a group with this context:
-- those of an Add's leaf node and KeyPackage (RFC 9420, 12.1.1), and that of an Update's leaf node (12.1.2).
abbrev pub are_pending_accepted : VerifyFn → GroupContext → List KnownProposal → Bool
are_pending_accepted G context known =
    list_all (λ (k : KnownProposal). are_accepted G (proposal_signatures context k.sender k.proposal)) known

-- `is_from_package p`: if the proposal is an Add, its leaf node is from a KeyPackage (RFC 9420, 7.2 and 10.1).
abbrev pub is_from_package : Proposal → Bool
is_from_package (proposals.Add k) = is_from_key_package k.leaf_node.source
is_from_package (proposals.Update _) = true
is_from_package (proposals.Remove _) = true
is_from_package (proposals.ContextExtensions _) = true
is_from_package (proposals.PreSharedKey _) = true
is_from_package (proposals.ReInit _) = true
is_from_package (proposals.ExternalInit _) = true

-- `are_from_packages known`: so it is of each of the pending proposals.
abbrev pub are_from_packages : List KnownProposal → Bool
are_from_packages known = list_all (λ (k : KnownProposal). is_from_package k.proposal) known

-- ---- theorems

-- If `G` accepts the signatures of the pending proposals, those of a message that `G` does not accept are those among the ones
-- that no pending proposal has.
abbrev pub FreshSignaturesSuffice : Type 0
FreshSignaturesSuffice =
    (G : VerifyFn) (profile : Profile) (context : GroupContext) (known : List KnownProposal) (t : Tree) (m : Message)
    → are_pending_accepted G context known ≡ true
    → unaccepted G (message_signatures profile context known t m)
    ≡ unaccepted G (fresh_message_signatures profile context known t m)
