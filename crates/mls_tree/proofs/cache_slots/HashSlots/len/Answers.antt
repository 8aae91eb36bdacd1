use Rattle.std.proofs.Common.{◌≡◌, length, sym, ap, ◌∙◌, arith}
use Rattle.mls_tree.specs.HashListsInternal.{EqualSlots}
use Rattle.mls_tree.proofs.HashRows.{length-known_hashes}
use Rattle.mls_tree.proofs.cache_slots.HashSlots.len.Goals as goal

pub returns-clause-count : goal.returns-clause-count
returns-clause-count c =
    let i = c.self.inside in
    let count : length c.args.self.now.items ≡ length i.filled.items = ap (λ (v : EqualSlots). length v.items) (sym c.self.view_is) ∙ length-known_hashes i.filled.items i.hashes.hashes c.self.invariant in
    omega (arith, c.len.ensures, count, i.filled.ok.0)
