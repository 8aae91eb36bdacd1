use Rattle.std.proofs.Common.{◌≡◌, ◌∙◌, Some, ap, subst, sym}
use Rattle.std.specs.Prelude.{option_map}
use Rattle.mls_apply.specs.PendingContent.{authenticated_of}
use Rattle.mls_msgs.specs.declared.authenticated.AuthenticatedParts.{AuthenticatedParts}
use Rattle.mls_msgs.specs.declared.framed_content.Content.TheVariants as contents
use Rattle.mls_msgs.specs.declared.framed_content.FramedContent.{FramedContent}
use Rattle.mls_signatures.specs.AddedLeaves.{AppendsSignatures}
use Rattle.mls_signatures.specs.SignaturesToVerify.{framed_content_signatures, proposal_signatures}
use Rattle.mls_signatures.specs.SigningKeys.{signing_key}
use Rattle.mls_signatures.proofs.Repeats.{extends-then}
use Rattle.mls_signatures.proofs.resumption.push_pending_proposal_signatures.Goals as goal

pub returns : goal.returns
returns c =
    let context = c.args.context.now in
    let pending = c.args.pending.now in
    let tree = c.args.signers.now.tree.now.tree in
    let auth : c.in_ok-auth.auth ≡ authenticated_of context pending = c.in_ok-auth.ensures in
    let content = c.content.ensures in
    let found = c.signing_key.ensures context c.requires in
    let key : Some c.in-Some.key.now ≡ signing_key context tree pending.sender (contents.Proposal pending.proposal) =
    ap (option_map (λ k. k.now)) (sym c.in-Some.is) ∙ found ∙ ap (λ (f : FramedContent). signing_key context tree f.sender f.content) (content ∙ ap (λ (a : AuthenticatedParts). a.content) auth) in
    rw (← key)
    (extends-then c.args.list.now (framed_content_signatures context c.in-Some.key.now (authenticated_of context pending)) c.push_framed_content_signature.new.list
    (subst (λ (a : AuthenticatedParts). AppendsSignatures c.args.list.now (framed_content_signatures context c.in-Some.key.now a) c.push_framed_content_signature.new.list)
    auth c.in_ok-push_framed_content_signature.ensures)
    c.push_proposal_signatures.result
    (proposal_signatures context pending.sender pending.proposal) c.push_proposal_signatures.new.list c.push_proposal_signatures.ensures)
