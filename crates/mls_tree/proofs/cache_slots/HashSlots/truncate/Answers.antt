use Rattle.std.proofs.Common.{take, ap, ◌∙◌}
use Rattle.mls_tree.specs.HashListsInternal.{EqualSlots, known_hashes}
use Rattle.mls_tree.proofs.HashRows.{take-known_hashes}
use Rattle.mls_tree.proofs.cache_slots.HashSlots.truncate.Goals as goal

pub returns-clause-items : goal.returns-clause-items
returns-clause-items c =
    let i = c.self.inside in
    ap (λ k. known_hashes k i.hashes.hashes) c.truncate.ensures.items ∙ take-known_hashes c.args.count i.filled.items i.hashes.hashes
    ∙ ap (λ (v : EqualSlots). take c.args.count v.items) c.self.view_is
