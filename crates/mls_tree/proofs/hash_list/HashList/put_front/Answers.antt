use Rattle.std.proofs.Common.{◌≡◌, ◌≤◌, ◌*◌, ◌++◌, length, take, drop, vec_len, sym, ap, ◌∙◌, arith}
use Rattle.std.specs.Vec.{with_items}
use Rattle.std.proofs.Math.Nat.{mul-le-mul_left}
use Rattle.std.proofs.lemmas.List.{with_items_is, length-take-le}
use Rattle.mls_tree.specs.HashLists.{EqualHashes}
use Rattle.mls_tree.specs.HashListsInternal.{hashes_in}
use Rattle.mls_tree.proofs.HashRows.{length-hashes_in}
use Rattle.mls_tree.proofs.HashFronts.{hashes_in-front, slice_range-start}
use Rattle.mls_tree.proofs.hash_list.HashList.put_front.Goals as goal

pub overflow_mul-count : goal.overflow_mul-count
overflow_mul-count c =
    let i = c.self.inside in
    let low : c.args.count ≤ i.count = omega (arith, c.requires.slot, ap (λ (v : EqualHashes). length v.hashes) c.self.view_is, length-hashes_in i.width i.count i.bytes.items) in
    omega (arith, mul-le-mul_left {m = c.args.count} {n = i.count} i.width low, c.self.invariant.long, i.bytes.ok.0, i.bytes.ok.1, i.bytes.small)

pub part-front-requires-clause-inside : goal.part-front-requires-clause-inside
part-front-requires-clause-inside c =
    let i = c.self.inside in
    let f = c.front.inside in
    let width : f.width ≡ i.width = ap (λ (v : EqualHashes). v.width) c.front.view_is ∙ c.requires.width ∙ sym (ap (λ (v : EqualHashes). v.width) c.self.view_is) in
    let low : c.args.count ≤ f.count = omega (arith, c.requires.there, ap (λ (v : EqualHashes). length v.hashes) c.front.view_is, length-hashes_in f.width f.count f.bytes.items) in
    let long : length f.bytes.items ≡ f.count * i.width = c.front.invariant.long ∙ ap (λ n. f.count * n) width in
    omega (arith, mul-le-mul_left {m = c.args.count} {n = f.count} i.width low, long, ap length c.as_slice.ensures.value)

pub put_part-requires : goal.put_part-requires
put_part-requires c =
    let i = c.self.inside in
    let f = c.front.inside in
    let width : f.width ≡ i.width = ap (λ (v : EqualHashes). v.width) c.front.view_is ∙ c.requires.width ∙ sym (ap (λ (v : EqualHashes). v.width) c.self.view_is) in
    let few : c.args.count ≤ f.count = omega (arith, c.requires.there, ap (λ (v : EqualHashes). length v.hashes) c.front.view_is, length-hashes_in f.width f.count f.bytes.items) in
    let low : c.args.count ≤ i.count = omega (arith, c.requires.slot, ap (λ (v : EqualHashes). length v.hashes) c.self.view_is, length-hashes_in i.width i.count i.bytes.items) in
    let long : length f.bytes.items ≡ f.count * i.width = c.front.invariant.long ∙ ap (λ n. f.count * n) width in
    let enough : c.args.count * i.width ≤ length f.bytes.items = omega (arith, mul-le-mul_left {m = c.args.count} {n = f.count} i.width few, long) in
    let read : length c.part-front.result.now ≡ c.args.count * i.width
    = ap length (c.part-front.ensures ∙ slice_range-start c.as_slice.result.now (c.args.count * i.width) ∙ ap (take (c.args.count * i.width)) c.as_slice.ensures.value) ∙ length-take-le (c.args.count * i.width) f.bytes.items enough in
    omega (arith, read, mul-le-mul_left {m = c.args.count} {n = i.count} i.width low, c.self.invariant.long, ap length c.as_mut_slice.ensures.value)

pub returns : goal.returns
returns c =
    let i = c.self.inside in
    let f = c.front.inside in
    let end = c.args.count * i.width in
    let width : f.width ≡ i.width = ap (λ (v : EqualHashes). v.width) c.front.view_is ∙ c.requires.width ∙ sym (ap (λ (v : EqualHashes). v.width) c.self.view_is) in
    let few : c.args.count ≤ f.count = omega (arith, c.requires.there, ap (λ (v : EqualHashes). length v.hashes) c.front.view_is, length-hashes_in f.width f.count f.bytes.items) in
    let low : c.args.count ≤ i.count = omega (arith, c.requires.slot, ap (λ (v : EqualHashes). length v.hashes) c.self.view_is, length-hashes_in i.width i.count i.bytes.items) in
    let short : length f.bytes.items ≡ f.count * i.width = c.front.invariant.long ∙ ap (λ n. f.count * n) width in
    let enough : end ≤ length f.bytes.items = omega (arith, mul-le-mul_left {m = c.args.count} {n = f.count} i.width few, short) in
    let read : c.part-front.result.now ≡ take end f.bytes.items = c.part-front.ensures ∙ slice_range-start c.as_slice.result.now end ∙ ap (take end) c.as_slice.ensures.value in
    let size : length c.part-front.result.now ≡ end = ap length read ∙ length-take-le end f.bytes.items enough in
    let long : length c.put_part.new.bytes ≡ vec_len i.bytes = c.put_part.auto.bytes ∙ c.as_mut_slice.ensures.len in
    let written : (with_items i.bytes c.put_part.new.bytes).items ≡ take end f.bytes.items ++ drop end i.bytes.items =
    with_items_is i.bytes c.put_part.new.bytes long ∙ c.put_part.ensures
    ∙ (λ j. read j ++ drop (size j) (c.as_mut_slice.ensures.value j)) in
    let hashes = ap (hashes_in i.width i.count) written ∙ hashes_in-front i.width c.args.count f.count i.count f.bytes.items i.bytes.items few low short c.self.invariant.long
    ∙ ap (λ n. take c.args.count (hashes_in n f.count f.bytes.items) ++ drop c.args.count (hashes_in i.width i.count i.bytes.items)) (sym width)
    ∙ (λ j. take c.args.count (ap (λ (v : EqualHashes). v.hashes) c.front.view_is j) ++ drop c.args.count (ap (λ (v : EqualHashes). v.hashes) c.self.view_is j)) in
    λ j. record { width = ap (λ (v : EqualHashes). v.width) c.self.view_is j; hashes = hashes j }
