use Rattle.std.proofs.Common.{◌≡◌, ℕ, suc, List, ◌+◌, ◌*◌, ◌++◌, length, take, replicate, sym, ap, ◌∙◌, arith}
use Rattle.std.proofs.Math.Nat.{mul-le-mul_left}
use Rattle.mls_tree.specs.HashLists.{EqualHashes}
use Rattle.mls_tree.specs.HashListsInternal.{hashes_in}
use Rattle.mls_tree.proofs.HashRows.{length-hashes_in, take-lengthened}
use Rattle.mls_tree.proofs.hash_list.HashList.lengthen.Goals as goal

pub overflow_mul-added : goal.overflow_mul-added
overflow_mul-added c =
    let i = c.self.inside in
    let count : length c.args.self.now.hashes ≡ i.count = ap (λ (v : EqualHashes). length v.hashes) (sym c.self.view_is) ∙ length-hashes_in i.width i.count i.bytes.items in
    omega (arith, mul-le-mul_left {m = c.args.more} {n = suc i.count} i.width (omega (arith, c.requires.more, count)), c.self.invariant.long, c.self.invariant.short, i.bytes.ok.0, i.bytes.ok.1, i.bytes.small)

pub overflow_add-self : goal.overflow_add-self
overflow_add-self c =
    let i = c.self.inside in
    let count : length c.args.self.now.hashes ≡ i.count = ap (λ (v : EqualHashes). length v.hashes) (sym c.self.view_is) ∙ length-hashes_in i.width i.count i.bytes.items in
    omega (arith, c.requires.count, count)

pub returns-clause-count : goal.returns-clause-count
returns-clause-count c =
    let i = c.self.inside in
    let count : length c.args.self.now.hashes ≡ i.count = ap (λ (v : EqualHashes). length v.hashes) (sym c.self.view_is) ∙ length-hashes_in i.width i.count i.bytes.items in
    length-hashes_in i.width (i.count + c.args.more) c.push_zeros.new.bytes.items ∙ ap (λ n. n + c.args.more) (sym count)

pub returns-clause-preserved : goal.returns-clause-preserved
returns-clause-preserved c =
    let i = c.self.inside in
    let all = i.count + c.args.more in
    let zeros : List ℕ = replicate (c.args.more * i.width) 0 in
    let count : length c.args.self.now.hashes ≡ i.count = ap (λ (v : EqualHashes). length v.hashes) (sym c.self.view_is) ∙ length-hashes_in i.width i.count i.bytes.items in
    let items : c.push_zeros.new.bytes.items ≡ i.bytes.items ++ zeros = c.push_zeros.ensures ∙ ap (λ xs. xs ++ zeros) c.try_reserve.ensures.items in
    (λ j. take (count j) (hashes_in i.width all (items j)))
    ∙ take-lengthened i.width i.count all i.bytes.items zeros (omega arith) c.self.invariant.long
    ∙ ap (λ (v : EqualHashes). v.hashes) c.self.view_is
