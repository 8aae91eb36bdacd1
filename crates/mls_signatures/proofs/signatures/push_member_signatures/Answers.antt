use Rattle.mls_msgs.specs.declared.framed_content.Sender.TheVariants.{Member}
use Rattle.mls_apply.specs.ResolvedList.{resolved}
use Rattle.mls_signatures.specs.AddedLeaves.{leaves_of}
use Rattle.mls_signatures.specs.SignaturesToVerify.{framed_content_signatures, list_signatures, proposal_signatures}
use Rattle.mls_signatures.proofs.Repeats.{extends-then}
use Rattle.mls_signatures.proofs.signatures.push_member_signatures.Goals as goal

pub returns-in_ok-push_framed_content_signature-in-Proposal-clause-signatures : goal.returns-in_ok-push_framed_content_signature-in-Proposal-clause-signatures
returns-in_ok-push_framed_content_signature-in-Proposal-clause-signatures c =
    let context = c.args.listing.now.epoch.now.context.now in
    let sent = c.args.sent.now in
    let auth = sent.auth.now in
    let leaf = c.in-Some.leaf.now in
    let there = rw c.tree.ensures at c.in-Some.ensures in
    rw (← there, ← c.content.ensures, c.in-Proposal.is)
    (extends-then c.args.list.now (framed_content_signatures context leaf.signature_key auth) c.push_framed_content_signature.new.list
    (rw c.signature_key-key.ensures at c.in_ok-push_framed_content_signature-in-Proposal.ensures) c.push_proposal_signatures.result
    (proposal_signatures context (Member sent.sender) c.in-Proposal.proposal) c.push_proposal_signatures.new.list
    c.push_proposal_signatures.ensures)

pub returns-in_ok-push_framed_content_signature-in-Commit-clause-signatures : goal.returns-in_ok-push_framed_content_signature-in-Commit-clause-signatures
returns-in_ok-push_framed_content_signature-in-Commit-clause-signatures c =
    let context = c.args.listing.now.epoch.now.context.now in
    let known = c.args.listing.now.epoch.now.known.now in
    let sent = c.args.sent.now in
    let auth = sent.auth.now in
    let leaf = c.in-Some.leaf.now in
    let there = rw c.tree.ensures at c.in-Some.ensures in
    let commit = c.in-Commit.commit in
    rw (← there, ← c.content.ensures, c.in-Commit.is)
    (extends-then c.args.list.now (framed_content_signatures context leaf.signature_key auth) c.push_framed_content_signature-in-Commit.new.list
    (rw c.signature_key-key.ensures at c.in_ok-push_framed_content_signature-in-Commit.ensures) c.push_commit_signatures.result
    (list_signatures (leaves_of c.args.listing.now.leaves) context c.args.tree.now.tree sent.sender commit (resolved (Member sent.sender) known commit.proposals)) c.push_commit_signatures.new.list
    c.push_commit_signatures.ensures.signatures)
