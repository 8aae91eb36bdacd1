use Rattle.std.proofs.Common.{◌≡◌, length, take, sym, ap, ◌∙◌, arith}
use Rattle.std.proofs.lemmas.List.{length-take-le}
use Rattle.mls_tree.specs.HashLists.{EqualHashes}
use Rattle.mls_tree.specs.HashListsInternal.{EqualSlots, known_hashes}
use Rattle.mls_tree.proofs.HashRows.{length-known_hashes, known_hashes-take, take-known_hashes}
use Rattle.mls_tree.proofs.cache_slots.HashSlots.front.Goals as goal

pub slice_bounds-to_vec-end : goal.slice_bounds-to_vec-end
slice_bounds-to_vec-end c =
    let i = c.self.inside in
    let count : length c.args.self.now.items ≡ length i.filled.items = ap (λ (v : EqualSlots). length v.items) (sym c.self.view_is) ∙ length-known_hashes i.filled.items i.hashes.hashes c.self.invariant in
    sym (length-take-le c.args.count c.as_slice.result.now (omega (arith, c.requires, count, ap length c.as_slice.ensures.value)))

pub front-requires : goal.front-requires
front-requires c =
    let i = c.self.inside in
    let count : length c.args.self.now.items ≡ length i.filled.items = ap (λ (v : EqualSlots). length v.items) (sym c.self.view_is) ∙ length-known_hashes i.filled.items i.hashes.hashes c.self.invariant in
    omega (arith, c.requires, count, c.self.invariant)

pub returns-clause-items : goal.returns-clause-items
returns-clause-items c =
    let i = c.self.inside in
    let n = c.args.count in
    let count : length c.args.self.now.items ≡ length i.filled.items = ap (λ (v : EqualSlots). length v.items) (sym c.self.view_is) ∙ length-known_hashes i.filled.items i.hashes.hashes c.self.invariant in
    let marks : c.in_ok-to_vec.field-0.items ≡ take n i.filled.items
    = c.in_ok-to_vec.ensures.items_if_clones_equal (λ y h e. e) ∙ ap (take n) c.as_slice.ensures.value in
    let hashes : c.in_ok-front.field-0.hashes ≡ take n i.hashes.hashes = ap (λ (v : EqualHashes). v.hashes) c.in_ok-front.ensures in
    let short : length (take n i.filled.items) ≡ n = length-take-le n i.filled.items (omega (arith, c.requires, count)) in
    (λ j. known_hashes (marks j) (hashes j))
    ∙ known_hashes-take (take n i.filled.items) n i.hashes.hashes (omega (arith, short))
    ∙ take-known_hashes n i.filled.items i.hashes.hashes
    ∙ ap (λ (v : EqualSlots). take n v.items) c.self.view_is
