use Rattle.std.proofs.Common.{ℕ, List, Some, sym, ap, ◌∙◌}
use Rattle.std.specs.Int.{w32}
use Rattle.mls_wire.specs.Encoding.{number}
use Rattle.mls_wire.specs.IntegersExact.{number_made}
use Rattle.mls_hash.proofs.Feeding.{bytes_held}
use Rattle.mls_hash.proofs.hash_input.feed_number.Goals as goal

pub returns : goal.returns
returns c =
    bytes_held (number w32 c.args.number) c.to_be_bytes.result c.args.hasher.now c.update.new.self
    (number_made w32 c.args.number c.ranges.number.fits ∙ ap (λ (x : List ℕ). Some x) (sym c.to_be_bytes.ensures)) c.update.ensures
