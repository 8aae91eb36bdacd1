use Rattle.std.proofs.Common.{◌≡◌, ◌≤◌, ◌*◌, length, take, ap, ◌∙◌, arith}
use Rattle.std.proofs.Math.Nat.{mul-le-mul_left}
use Rattle.std.proofs.lemmas.List.{length-take-le}
use Rattle.mls_tree.specs.HashLists.{EqualHashes}
use Rattle.mls_tree.specs.HashListsInternal.{hashes_in}
use Rattle.mls_tree.proofs.HashRows.{length-hashes_in}
use Rattle.mls_tree.proofs.HashFronts.{front-hashes, slice_range-start}
use Rattle.mls_tree.proofs.hash_list.HashList.front.Goals as goal

pub overflow_mul-count : goal.overflow_mul-count
overflow_mul-count c =
    let i = c.self.inside in
    let low : c.args.count ≤ i.count = omega (arith, c.requires, ap (λ (v : EqualHashes). length v.hashes) c.self.view_is, length-hashes_in i.width i.count i.bytes.items) in
    omega (arith, mul-le-mul_left {m = c.args.count} {n = i.count} i.width low, c.self.invariant.long, i.bytes.ok.0, i.bytes.ok.1, i.bytes.small)

pub part-requires-clause-inside : goal.part-requires-clause-inside
part-requires-clause-inside c =
    let i = c.self.inside in
    let low : c.args.count ≤ i.count = omega (arith, c.requires, ap (λ (v : EqualHashes). length v.hashes) c.self.view_is, length-hashes_in i.width i.count i.bytes.items) in
    omega (arith, mul-le-mul_left {m = c.args.count} {n = i.count} i.width low, c.self.invariant.long, ap length c.as_slice.ensures.value)

pub invariant_of-result : goal.invariant_of-result
invariant_of-result c =
    let i = c.self.inside in
    let low : c.args.count ≤ i.count = omega (arith, c.requires, ap (λ (v : EqualHashes). length v.hashes) c.self.view_is, length-hashes_in i.width i.count i.bytes.items) in
    let enough : c.args.count * i.width ≤ length i.bytes.items = omega (arith, mul-le-mul_left {m = c.args.count} {n = i.count} i.width low, c.self.invariant.long) in
    let read : c.in_ok-bytes.bytes.items ≡ take (c.args.count * i.width) i.bytes.items
    = c.in_ok-bytes.ensures ∙ c.part.ensures ∙ slice_range-start c.as_slice.result.now (c.args.count * i.width) ∙ ap (take (c.args.count * i.width)) c.as_slice.ensures.value in
    record { short = c.self.invariant.short; long = ap length read ∙ length-take-le (c.args.count * i.width) i.bytes.items enough }

pub returns : goal.returns
returns c =
    let i = c.self.inside in
    let low : c.args.count ≤ i.count = omega (arith, c.requires, ap (λ (v : EqualHashes). length v.hashes) c.self.view_is, length-hashes_in i.width i.count i.bytes.items) in
    let read : c.in_ok-bytes.bytes.items ≡ take (c.args.count * i.width) i.bytes.items
    = c.in_ok-bytes.ensures ∙ c.part.ensures ∙ slice_range-start c.as_slice.result.now (c.args.count * i.width) ∙ ap (take (c.args.count * i.width)) c.as_slice.ensures.value in
    let hashes = ap (hashes_in i.width c.args.count) read ∙ front-hashes i.width c.args.count i.count i.bytes.items low c.self.invariant.long
    ∙ ap (λ (v : EqualHashes). take c.args.count v.hashes) c.self.view_is in
    λ j. record { width = ap (λ (v : EqualHashes). v.width) c.self.view_is j; hashes = hashes j }
