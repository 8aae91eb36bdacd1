use Rattle.std.proofs.Common.{◌≡◌, false, replicate, ap, ◌∙◌, arith}
use Rattle.mls_tree.specs.HashListsInternal.{known_hashes}
use Rattle.mls_tree.proofs.HashRows.{known_hashes-blank}
use Rattle.mls_tree.proofs.cache_slots.HashSlots.blank.Goals as goal

pub returns-clause-items : goal.returns-clause-items
returns-clause-items c =
    let hashes = c.in_ok-blank.field-0.hashes in
    let same : c.in_ok-vec.field-0.items ≡ replicate c.args.count false = c.in_ok-vec.ensures.items_if_clones_equal (λ y h. h) in
    ap (λ k. known_hashes k hashes) same ∙ known_hashes-blank c.args.count hashes (omega (arith, c.in_ok-blank.ensures.count))
