use Rattle.std.proofs.Common.{sym, ap, ◌∙◌}
use Rattle.mls_tree.specs.HashCache.{empty_count}
use Rattle.mls_tree.specs.HashListsInternal.{EqualSlots, false_count}
use Rattle.mls_tree.proofs.HashRows.{empty_count-known}
use Rattle.mls_tree.proofs.cache_slots.HashSlots.count_empty.Goals as goal

pub returns : goal.returns
returns c =
    let i = c.self.inside in
    c.count_false.ensures ∙ ap false_count c.as_slice.ensures.value ∙ sym (empty_count-known i.filled.items i.hashes.hashes c.self.invariant)
    ∙ ap (λ (v : EqualSlots). empty_count v.items) c.self.view_is
