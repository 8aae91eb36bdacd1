use Rattle.std.proofs.Common.{◌≡◌, ◌≤◌, ◌+◌, length, vec_capacity, sym, ap, ◌∙◌, arith}
use Rattle.mls_tree.specs.HashListsInternal.{EqualSlots, known_hashes}
use Rattle.mls_tree.proofs.HashRows.{length-known_hashes, known_hashes-take}
use Rattle.mls_tree.proofs.cache_slots.HashSlots.reserve_double.Goals as goal

pub returns-in_ok-lengthen-clause-items : goal.returns-in_ok-lengthen-clause-items
returns-in_ok-lengthen-clause-items c =
    let i = c.self.inside in
    let same : known_hashes c.try_reserve.new.self.items c.lengthen.new.self.hashes ≡ c.args.self.now.items
    = ap (λ k. known_hashes k c.lengthen.new.self.hashes) c.try_reserve.ensures.items
    ∙ sym (known_hashes-take i.filled.items (length i.hashes.hashes) c.lengthen.new.self.hashes c.self.invariant)
    ∙ ap (known_hashes i.filled.items) c.in_ok-lengthen.ensures.preserved ∙ ap (λ (v : EqualSlots). v.items) c.self.view_is in
    same

pub returns-in_ok-lengthen-clause-capacity : goal.returns-in_ok-lengthen-clause-capacity
returns-in_ok-lengthen-clause-capacity c =
    let i = c.self.inside in
    let count : length c.args.self.now.items ≡ length i.filled.items = ap (λ (v : EqualSlots). length v.items) (sym c.self.view_is) ∙ length-known_hashes i.filled.items i.hashes.hashes c.self.invariant in
    let same : known_hashes c.try_reserve.new.self.items c.lengthen.new.self.hashes ≡ c.args.self.now.items
    = ap (λ k. known_hashes k c.lengthen.new.self.hashes) c.try_reserve.ensures.items
    ∙ sym (known_hashes-take i.filled.items (length i.hashes.hashes) c.lengthen.new.self.hashes c.self.invariant)
    ∙ ap (known_hashes i.filled.items) c.in_ok-lengthen.ensures.preserved ∙ ap (λ (v : EqualSlots). v.items) c.self.view_is in
    let n = length (known_hashes c.try_reserve.new.self.items c.lengthen.new.self.hashes) in
    let marks : n + (n + 1) ≤ vec_capacity c.try_reserve.new.self
    = omega (arith, ap length same, count, i.filled.ok.0, c.in_ok-try_reserve.ensures.ok, c.try_reserve.ensures.len, c.len-more.ensures) in
    let hashes : n + (n + 1) ≤ length c.lengthen.new.self.hashes
    = omega (arith, ap length same, count, i.filled.ok.0, c.len-more.ensures, c.len.ensures, c.len-had.ensures, c.if-had-needed.true, c.in_ok-lengthen.ensures.count) in
    record { marks = marks; hashes = hashes }

pub returns-else-had-needed-clause-capacity : goal.returns-else-had-needed-clause-capacity
returns-else-had-needed-clause-capacity c =
    let i = c.self.inside in
    let count : length c.args.self.now.items ≡ length i.filled.items = ap (λ (v : EqualSlots). length v.items) (sym c.self.view_is) ∙ length-known_hashes i.filled.items i.hashes.hashes c.self.invariant in
    let same : known_hashes c.try_reserve.new.self.items i.hashes.hashes ≡ c.args.self.now.items
    = ap (λ k. known_hashes k i.hashes.hashes) c.try_reserve.ensures.items ∙ ap (λ (v : EqualSlots). v.items) c.self.view_is in
    let n = length (known_hashes c.try_reserve.new.self.items i.hashes.hashes) in
    let marks : n + (n + 1) ≤ vec_capacity c.try_reserve.new.self
    = omega (arith, ap length same, count, i.filled.ok.0, c.in_ok-try_reserve.ensures.ok, c.try_reserve.ensures.len, c.len-more.ensures) in
    let hashes : n + (n + 1) ≤ length i.hashes.hashes
    = omega (arith, ap length same, count, i.filled.ok.0, c.len-more.ensures, c.len.ensures, c.len-had.ensures, c.if-had-needed.false) in
    record { marks = marks; hashes = hashes }
