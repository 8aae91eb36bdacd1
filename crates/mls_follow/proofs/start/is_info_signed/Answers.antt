use Rattle.std.proofs.Common.{ap, ◌∙◌, sym}
use Rattle.mls_nodes.specs.Layout.{group_context}
use Rattle.mls_follow.proofs.SignedPieces.{both_added, info_signed}
use Rattle.mls_follow.proofs.start.is_info_signed.Goals as goal

pub returns : goal.returns
returns g c =
    let info = c.args.info.now in
    let context = c.in_ok-add_to.ensures in
    let context_is = ap group_context (sym c.of-context.ensures) ∙ context.added_is in
    let tag_fits = rw c.as_slice-tag.ensures.bytes at c.of-tag_len.ensures in
    let signed = info_signed (g.C.SignatureCheck.meaning c.args.checker.now) info c.args.signer.now context.added c.encoded-extensions.result.now c.of-extensions_len.result
    c.of-tag_len.result context_is c.encoded-extensions.ensures.encoded c.of-extensions_len.ensures tag_fits (search) in
    let all = both_added (λ b. b.now) c.add_to.new.pieces.items _ c.extend_from_slice.new.self.items c.in_ok-extend_from_slice.ensures.items in
    let answer = rw (c.as_slice-3.ensures.value, all, context.new_is, c.new-tbs.ensures.items, c.as_slice.ensures, c.as_slice-2.ensures, c.as_slice-tag.ensures.bytes, c.to_be_bytes-index.ensures, c.signature_key-key.ensures, c.as_slice-signature.ensures.bytes) at c.signed_in_pieces.ensures in
    rw signed at answer
