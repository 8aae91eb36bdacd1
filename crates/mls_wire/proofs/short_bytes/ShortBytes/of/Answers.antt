use Rattle.std.proofs.Common.{drop, length, replicate, refl}
use Rattle.std.proofs.lemmas.List.{take_at}
use Rattle.mls_wire.proofs.short_bytes.ShortBytes.of.Goals as goal

pub returns : goal.returns
returns g c =
    let bytes = c.args.bytes.now in
    rw c.copy_from_slice.ensures.after (take_at bytes (drop (length bytes) (replicate _ 0)) (length bytes) refl)
