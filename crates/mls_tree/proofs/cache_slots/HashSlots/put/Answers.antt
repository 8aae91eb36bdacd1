use Rattle.std.proofs.Common.{◌≡◌, ◌<◌, Bool, Some, length, sym, ap, ◌∙◌, arith}
use Rattle.std.specs.Prelude.{is_some, option_map, slice_get, slice_set}
use Rattle.std.proofs.lemmas.Option.{slice_get-get_or}
use Rattle.mls_tree.specs.HashListsInternal.{EqualSlots, known_hashes}
use Rattle.mls_tree.proofs.HashRows.{length-known_hashes, known_hashes-put, filled-known_hashes}
use Rattle.mls_tree.proofs.cache_slots.HashSlots.put.Goals as goal

pub put-requires-clause-slot : goal.put-requires-clause-slot
put-requires-clause-slot c =
    let i = c.self.inside in
    let count : length c.args.self.now.items ≡ length i.filled.items = ap (λ (v : EqualSlots). length v.items) (sym c.self.view_is) ∙ length-known_hashes i.filled.items i.hashes.hashes c.self.invariant in
    omega (arith, c.requires.slot, count, c.self.invariant)

pub index_mut-requires : goal.index_mut-requires
index_mut-requires c =
    let i = c.self.inside in
    let count : length c.args.self.now.items ≡ length i.filled.items = ap (λ (v : EqualSlots). length v.items) (sym c.self.view_is) ∙ length-known_hashes i.filled.items i.hashes.hashes c.self.invariant in
    omega (arith, c.requires.slot, count, i.filled.ok.0)

pub returns-clause-items : goal.returns-clause-items
returns-clause-items c =
    let i = c.self.inside in
    (λ j. known_hashes (slice_set i.filled.items c.args.slot (c.replace.ensures.after j)) (c.put.ensures j).hashes)
    ∙ known_hashes-put i.filled.items i.hashes.hashes c.args.slot c.args.hash.now c.self.invariant
    ∙ ap (λ (v : EqualSlots). slice_set v.items c.args.slot (Some c.args.hash.now)) c.self.view_is

pub returns-clause-was_filled : goal.returns-clause-was_filled
returns-clause-was_filled c =
    let i = c.self.inside in
    let count : length c.args.self.now.items ≡ length i.filled.items = ap (λ (v : EqualSlots). length v.items) (sym c.self.view_is) ∙ length-known_hashes i.filled.items i.hashes.hashes c.self.invariant in
    let inside : c.args.slot < length i.filled.items = omega (arith, c.requires.slot, count) in
    let at : slice_get i.filled.items c.args.slot ≡ Some c.index_mut.result.now
    = slice_get-get_or i.filled.items c.args.slot c.index_mut.result.now inside ∙ ap (λ (b : Bool). Some b) (sym c.index_mut.ensures.value) in
    ap (λ (b : Bool). Some b) c.replace.ensures.value ∙ sym at ∙ sym (filled-known_hashes i.filled.items i.hashes.hashes c.args.slot c.self.invariant)
    ∙ ap (λ (v : EqualSlots). option_map is_some (slice_get v.items c.args.slot)) c.self.view_is
