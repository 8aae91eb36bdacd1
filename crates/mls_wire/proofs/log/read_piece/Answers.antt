use Rattle.std.proofs.Common.{◌≡◌, ◌+◌, List, ℕ, take, length, sym, ◌∙◌, arith, rules, length-take-le}
use Rattle.mls_wire.proofs.Logs.{front_kept, piece_items}
use Rattle.mls_wire.proofs.log.read_piece.Goals as goal

pub returns-clause-bytes : goal.returns-clause-bytes
returns-clause-bytes g c =
    let old : List ℕ = c.args.body.now.items in
    let front = c.len-at.result in
    let filled : List ℕ = c.fill.new.into in
    let got = c.in_ok-got.got in
    let same : front ≡ length old = omega (arith, c.len-at.ensures) in
    let len : length filled ≡ c.args.count = omega (arith, c.in_ok-got.ensures.len, c.deref_mut.ensures.len, c.in_ok-resize.ensures.len, same) in
    let kept : take front c.deref_mut.result.now ≡ old = front_kept old c.resize.new.self.items c.deref_mut.result.now _ front (front + c.args.count) c.deref_mut.ensures.value c.in_ok-resize.ensures.items same (omega arith) in
    let items = c.truncate.ensures.items ∙ piece_items old c.deref_mut.result.now filled _ _ front got c.resize.new.self.len kept (sym same) c.in_ok-got.ensures.bound (omega (arith, c.in_ok-got.ensures.bound, len, c.in_ok-resize.ensures.len, same)) in
    (take got filled, items, c.in_ok-got.ensures.bytes, omega (arith, len, length-take-le got filled c.in_ok-got.ensures.bound, c.in_ok-got.ensures.bound), search rules, search rules)
