use Rattle.std.proofs.Common.{◌≡◌, ◌++◌, length, take, drop, sym, ap, ◌∙◌, arith}
use Rattle.std.proofs.lemmas.List.{with_items_is}
use Rattle.mls_tree.specs.HashLists.{EqualHashes}
use Rattle.mls_tree.specs.HashListsInternal.{EqualSlots, known_hashes}
use Rattle.mls_tree.proofs.HashRows.{length-known_hashes}
use Rattle.mls_tree.proofs.HashFronts.{known_hashes-front}
use Rattle.mls_tree.proofs.cache_slots.HashSlots.put_front.Goals as goal

pub put_marks-requires : goal.put_marks-requires
put_marks-requires c =
    let i = c.self.inside in
    let f = c.front.inside in
    let count : length c.args.self.now.items ≡ length i.filled.items = ap (λ (v : EqualSlots). length v.items) (sym c.self.view_is) ∙ length-known_hashes i.filled.items i.hashes.hashes c.self.invariant in
    let few : length c.args.front.now.items ≡ length f.filled.items = ap (λ (v : EqualSlots). length v.items) (sym c.front.view_is) ∙ length-known_hashes f.filled.items f.hashes.hashes c.front.invariant in
    omega (arith, c.requires.slot, count, few, ap length c.as_slice.ensures.value, ap length c.as_mut_slice.ensures.value)

pub returns-clause-items : goal.returns-clause-items
returns-clause-items c =
    let i = c.self.inside in
    let f = c.front.inside in
    let n = length f.filled.items in
    let count : length c.args.self.now.items ≡ length i.filled.items = ap (λ (v : EqualSlots). length v.items) (sym c.self.view_is) ∙ length-known_hashes i.filled.items i.hashes.hashes c.self.invariant in
    let few : length c.args.front.now.items ≡ length f.filled.items = ap (λ (v : EqualSlots). length v.items) (sym c.front.view_is) ∙ length-known_hashes f.filled.items f.hashes.hashes c.front.invariant in
    let len : c.len-count.result ≡ n = omega (arith, c.len-count.ensures, f.filled.ok.0) in
    let marks = with_items_is i.filled c.put_marks.new.filled (c.put_marks.auto.filled ∙ c.as_mut_slice.ensures.len) ∙ c.put_marks.ensures
    ∙ (λ j. c.as_slice.ensures.value j ++ drop (length (c.as_slice.ensures.value j)) (c.as_mut_slice.ensures.value j)) in
    let hashes = ap (λ (v : EqualHashes). v.hashes) c.put_front.ensures ∙ (λ j. take (len j) f.hashes.hashes ++ drop (len j) i.hashes.hashes) in
    (λ j. known_hashes (marks j) (hashes j))
    ∙ known_hashes-front f.filled.items f.hashes.hashes i.filled.items i.hashes.hashes c.front.invariant (omega (arith, c.requires.slot, count, few)) (omega (arith, c.requires.slot, count, few, c.self.invariant))
    ∙ ap (λ k. known_hashes f.filled.items f.hashes.hashes ++ drop k (known_hashes i.filled.items i.hashes.hashes)) (sym few)
    ∙ (λ j. ap (λ (v : EqualSlots). v.items) c.front.view_is j ++ drop (length c.args.front.now.items) (ap (λ (v : EqualSlots). v.items) c.self.view_is j))
