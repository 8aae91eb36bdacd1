use Rattle.std.proofs.Common.{◌≡◌, ◌≤◌, ◌+◌, ◌++◌, false, None, length, replicate, sym, ap, ◌∙◌, arith, length-append}
use Rattle.std.proofs.Math.ListN.{length-replicate}
use Rattle.mls_tree.specs.HashListsInternal.{EqualSlots, known_hashes}
use Rattle.mls_tree.proofs.HashRows.{length-known_hashes, known_hashes-append}
use Rattle.mls_tree.proofs.cache_slots.HashSlots.double.Goals as goal

pub push_false-requires : goal.push_false-requires
push_false-requires c =
    let i = c.self.inside in
    let count : length c.args.self.now.items ≡ length i.filled.items = ap (λ (v : EqualSlots). length v.items) (sym c.self.view_is) ∙ length-known_hashes i.filled.items i.hashes.hashes c.self.invariant in
    omega (arith, c.len-more.ensures, i.filled.ok.0, count, c.requires.marks, ap (λ (v : EqualSlots). v.marks_room) c.self.view_is)

pub invariant_of-self : goal.invariant_of-self
invariant_of-self c =
    let i = c.self.inside in
    let count : length c.args.self.now.items ≡ length i.filled.items = ap (λ (v : EqualSlots). length v.items) (sym c.self.view_is) ∙ length-known_hashes i.filled.items i.hashes.hashes c.self.invariant in
    let low : length i.filled.items + (c.len-more.result + 1) ≤ length i.hashes.hashes
    = omega (arith, c.len-more.ensures, i.filled.ok.0, count, c.requires.hashes, ap (λ (v : EqualSlots). v.hashes_room) c.self.view_is) in
    let more = c.len-more.result + 1 in
    let long : length c.push_false.new.filled.items ≤ length i.hashes.hashes
    = omega (arith, ap length c.push_false.ensures, length-append i.filled.items (replicate more false), length-replicate more false, low) in
    long

pub returns-clause-items : goal.returns-clause-items
returns-clause-items c =
    let i = c.self.inside in
    let count : length c.args.self.now.items ≡ length i.filled.items = ap (λ (v : EqualSlots). length v.items) (sym c.self.view_is) ∙ length-known_hashes i.filled.items i.hashes.hashes c.self.invariant in
    let low : length i.filled.items + (c.len-more.result + 1) ≤ length i.hashes.hashes
    = omega (arith, c.len-more.ensures, i.filled.ok.0, count, c.requires.hashes, ap (λ (v : EqualSlots). v.hashes_room) c.self.view_is) in
    let more : c.len-more.result + 1 ≡ length c.args.self.now.items + 1 = omega (arith, c.len-more.ensures, i.filled.ok.0, count) in
    ap (λ k. known_hashes k i.hashes.hashes) c.push_false.ensures ∙ known_hashes-append i.filled.items (c.len-more.result + 1) i.hashes.hashes low
    ∙ ap (λ (v : EqualSlots). v.items ++ replicate (c.len-more.result + 1) None) c.self.view_is ∙ ap (λ n. c.args.self.now.items ++ replicate n None) more
