use Rattle.std.proofs.Common.{◌≡◌, ◌<◌, Bool, Some, None, length, sym, ap, ◌∙◌, arith}
use Rattle.std.specs.Prelude.{is_some, option_map, slice_get, slice_set}
use Rattle.std.proofs.lemmas.Option.{slice_get-get_or}
use Rattle.mls_tree.specs.HashListsInternal.{EqualSlots, known_hashes}
use Rattle.mls_tree.proofs.HashRows.{length-known_hashes, known_hashes-clear, filled-known_hashes}
use Rattle.mls_tree.proofs.cache_slots.HashSlots.clear.Goals as goal

pub index_mut-requires : goal.index_mut-requires
index_mut-requires c =
    let i = c.self.inside in
    let count : length c.args.self.now.items ≡ length i.filled.items = ap (λ (v : EqualSlots). length v.items) (sym c.self.view_is) ∙ length-known_hashes i.filled.items i.hashes.hashes c.self.invariant in
    omega (arith, c.requires, count, i.filled.ok.0)

pub returns-clause-items : goal.returns-clause-items
returns-clause-items c =
    let i = c.self.inside in
    ap (λ (b : Bool). known_hashes (slice_set i.filled.items c.args.slot b) i.hashes.hashes) c.replace.ensures.after
    ∙ known_hashes-clear i.filled.items i.hashes.hashes c.args.slot c.self.invariant
    ∙ ap (λ (v : EqualSlots). slice_set v.items c.args.slot None) c.self.view_is

pub returns-clause-was_filled : goal.returns-clause-was_filled
returns-clause-was_filled c =
    let i = c.self.inside in
    let count : length c.args.self.now.items ≡ length i.filled.items = ap (λ (v : EqualSlots). length v.items) (sym c.self.view_is) ∙ length-known_hashes i.filled.items i.hashes.hashes c.self.invariant in
    let inside : c.args.slot < length i.filled.items = omega (arith, c.requires, count) in
    let at : slice_get i.filled.items c.args.slot ≡ Some c.index_mut.result.now
    = slice_get-get_or i.filled.items c.args.slot c.index_mut.result.now inside ∙ ap (λ (b : Bool). Some b) (sym c.index_mut.ensures.value) in
    ap (λ (b : Bool). Some b) c.replace.ensures.value ∙ sym at ∙ sym (filled-known_hashes i.filled.items i.hashes.hashes c.args.slot c.self.invariant)
    ∙ ap (λ (v : EqualSlots). option_map is_some (slice_get v.items c.args.slot)) c.self.view_is

pub returns-clause-limit : goal.returns-clause-limit
returns-clause-limit c =
    let i = c.self.inside in
    let count : length c.args.self.now.items ≡ length i.filled.items = ap (λ (v : EqualSlots). length v.items) (sym c.self.view_is) ∙ length-known_hashes i.filled.items i.hashes.hashes c.self.invariant in
    omega (arith, count, i.filled.ok.0, i.filled.ok.1, i.filled.small)
