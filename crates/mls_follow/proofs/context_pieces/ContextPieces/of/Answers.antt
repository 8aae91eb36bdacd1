use Rattle.std.specs.Int.{w16, w64}
use Rattle.mls_wire.specs.IntegersExact.{number_made}
use Rattle.mls_follow.proofs.context_pieces.ContextPieces.of.Goals as goal

pub invariant_of-result : goal.invariant_of-result
invariant_of-result c =
    let x = c.args.context.now in
    record {
      version_is = rw c.to_be_bytes.ensures (number_made w16 x.version (search));
      suite_is = rw c.to_be_bytes-2.ensures (number_made w16 x.cipher_suite (search));
      group_id_fits = rw c.as_slice.ensures.bytes at c.of.ensures;
      epoch_is = rw c.to_be_bytes-3.ensures (number_made w64 x.epoch (search));
      tree_hash_fits = rw c.as_slice-2.ensures.bytes at c.of-2.ensures;
      confirmed_fits = rw c.as_slice-3.ensures.bytes at c.of-3.ensures;
      extensions_are = c.encoded-extensions.ensures.encoded;
      extensions_fit = c.of-4.ensures;
    }
