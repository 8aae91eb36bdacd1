use Rattle.std.proofs.Common.{List, refl}
use Rattle.mls_apply.specs.declared.list_item.KnownProposal.{KnownProposal}
use Rattle.mls_signatures.specs.SignaturesToVerify.{pending_proposal_signatures, pending_signatures}
use Rattle.mls_signatures.specs.SigningKeys.{signing_key}
use Rattle.mls_signatures.specs.declared.signature_to_verify.SignatureToVerify.{SignatureToVerify}
use Rattle.mls_msgs.specs.declared.framed_content.Content.TheVariants as contents
use Rattle.mls_nodes.specs.declared.context.GroupContext.{GroupContext}
use Rattle.mls_tree.specs.Tree.{Tree}
use Rattle.mls_signatures.proofs.LeafLists.{each-next, each-all}
use Rattle.mls_signatures.proofs.resumption.push_pending_signatures.Goals as goal

-- the signatures of a pending proposal
abbrev signatures_of : GroupContext → Tree → KnownProposal → List SignatureToVerify
signatures_of context t k = pending_proposal_signatures context k (signing_key context t k.sender (contents.Proposal k.proposal))

pub loop-pending-preserved : goal.loop-pending-preserved
loop-pending-preserved c =
    let f = pending_signatures c.args.context.now c.args.tree.now.tree in
    each-next f (signatures_of c.args.context.now c.args.tree.now.tree) (λ x xs. refl) refl c.args.known.now c.args.list.now
    c.loop-pending.pending-index c.loop-pending.list c.loop-pending.invariant c.pending-item.result c.pending-item.result c.loop-pending-test.true c.pending-item.is
    c.push_pending_proposal_signatures.new.list c.in_ok-push_pending_proposal_signatures.ensures

pub returns : goal.returns
returns c =
    let f = pending_signatures c.args.context.now c.args.tree.now.tree in
    each-all f (signatures_of c.args.context.now c.args.tree.now.tree) (λ x xs. refl) refl c.args.known.now c.args.list.now
    c.loop-pending.pending-index c.loop-pending.list c.loop-pending.invariant c.loop-pending-test.false
