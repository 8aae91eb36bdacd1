use Rattle.std.proofs.Common.{◌≡◌, true, false}
use Rattle.mls_tree.proofs.Filled.{filled_listing}
use Rattle.mls_tree.proofs.public_tree.PublicTree.decode.Goals as goal

pub unreachable-requires : goal.unreachable-requires
unreachable-requires c =
    let d = c.in_ok-entries.ensures.encoded in
    let bad : false ≡ true = c.in-Err.ensures.is_listing.1 (filled_listing d.0 c.args.bytes.now c.in_ok-entries.entries.items d.1 d.3) in
    cc
