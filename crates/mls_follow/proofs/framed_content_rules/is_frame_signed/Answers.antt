use Rattle.std.proofs.Common.{ap, ◌∙◌, sym, option_map}
use Rattle.mls_nodes.specs.Layout.{group_context}
use Rattle.mls_follow.proofs.SignedPieces.{frame_signed_alone, frame_signed_with}
use Rattle.mls_follow.proofs.framed_content_rules.is_frame_signed.Goals as goal

pub returns-in_ok-add_to-in-Some : goal.returns-in_ok-add_to-in-Some
returns-in_ok-add_to-in-Some g c =
    let over = rw (c.content.ensures, c.auth-auth.ensures.value) at c.signed_context.ensures in
    let context = c.in_ok-add_to-in-Some.ensures in
    let signed = frame_signed_with (g.C.SignatureCheck.meaning c.args.checker.now) c.args.context.now c.args.key.now c.args.frame.now c.in-Some.context.now c.tbs-tbs.result.now context.added
    (sym over ∙ ap (option_map (λ x. x.now)) c.in-Some.is) c.tbs-tbs.ensures (ap group_context (sym c.of-context.ensures) ∙ context.added_is) in
    let answer = rw (c.as_slice.ensures.value, context.new_is, c.in_ok-pieces-in-Some.ensures.items, c.as_slice-signature.ensures.bytes, c.signature.ensures, c.auth-auth.ensures.value) at c.signed_in_pieces.ensures in
    rw signed at answer

pub returns-in-None : goal.returns-in-None
returns-in-None g c =
    let over = rw (c.content.ensures, c.auth-auth.ensures.value) at c.signed_context.ensures in
    let signed = frame_signed_alone (g.C.SignatureCheck.meaning c.args.checker.now) c.args.context.now c.args.key.now c.args.frame.now c.tbs-tbs.result.now
    (sym over ∙ ap (option_map (λ x. x.now)) c.in-None.is) c.tbs-tbs.ensures in
    let answer = rw (c.as_slice-signature.ensures.bytes, c.signature.ensures, c.auth-auth.ensures.value) at c.signed.ensures in
    answer ∙ signed
