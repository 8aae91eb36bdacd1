use Rattle.mls_nodes.specs.Layout.{group_context}
use Rattle.mls_follow.proofs.SignedPieces.{context_pieces, pieces_added}
use Rattle.mls_follow.proofs.context_pieces.ContextPieces.add_to.Goals as goal

pub returns : goal.returns
returns c =
    let p = c.self.inside in
    let whole = context_pieces p.context.now p.version p.cipher_suite p.group_id_len p.epoch p.tree_hash_len p.confirmed_len p.extensions.now p.extensions_len c.self.invariant in
    pieces_added (λ b. b.now) c.extend_from_slice.result (group_context c.args.self.now) c.args.pieces.now.items _ c.extend_from_slice.new.self.items c.extend_from_slice.ensures.items
    (rw (← c.self.view_is, c.as_slice.ensures, c.as_slice-2.ensures.bytes, c.as_slice-3.ensures, c.as_slice-4.ensures.bytes, c.as_slice-5.ensures, c.as_slice-6.ensures.bytes, c.as_slice-7.ensures) whole)
