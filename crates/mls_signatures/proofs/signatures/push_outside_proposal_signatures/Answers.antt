use Rattle.mls_signatures.specs.SignaturesToVerify.{framed_content_signatures, proposal_signatures}
use Rattle.mls_signatures.proofs.Repeats.{extends-then}
use Rattle.mls_signatures.proofs.signatures.push_outside_proposal_signatures.Goals as goal

pub returns : goal.returns
returns c =
    let context = c.args.context.now in
    let auth = c.args.frame.now.auth.now in
    let may = rw (c.content.ensures, c.if-not-may_propose.false) at c.may_propose.ensures in
    rw (← may)
    (extends-then c.args.list.now (framed_content_signatures context c.args.frame.now.key.now auth) c.push_framed_content_signature.new.list
    c.in_ok-push_framed_content_signature.ensures c.push_proposal_signatures.result
    (proposal_signatures context auth.content.sender c.args.proposal.now) c.push_proposal_signatures.new.list
    (rw c.content.ensures at c.push_proposal_signatures.ensures))
