use Rattle.std.proofs.Common.{◌≡◌, ℕ, suc, List, [], ◌∷◌, ◌+◌, ◌++◌, length, sym, ap, ◌∙◌, arith}
use Rattle.mls_tree.specs.HashLists.{EqualHashes}
use Rattle.mls_tree.specs.HashListsInternal.{hashes_in}
use Rattle.mls_tree.proofs.HashRows.{length-hashes_in, hashes_in-push}
use Rattle.mls_tree.proofs.hash_list.HashList.push.Goals as goal

pub overflow_add-self : goal.overflow_add-self
overflow_add-self c =
    let i = c.self.inside in
    let count : length c.args.self.now.hashes ≡ i.count = ap (λ (v : EqualHashes). length v.hashes) (sym c.self.view_is) ∙ length-hashes_in i.width i.count i.bytes.items in
    omega (arith, c.requires.count, count)

pub returns-clause-pushed : goal.returns-clause-pushed
returns-clause-pushed c =
    let i = c.self.inside in
    let fits : length c.args.hash.now ≡ i.width = c.requires.width ∙ sym (ap (λ (v : EqualHashes). v.width) c.self.view_is) in
    let more : i.count + 1 ≡ suc i.count = omega arith in
    let items : c.extend_from_slice.new.self.items ≡ i.bytes.items ++ c.args.hash.now = c.in_ok-extend_from_slice.ensures.items ∙ ap (λ (xs : List ℕ). i.bytes.items ++ xs) c.as_slice.ensures.bytes in
    let pushed = ap (hashes_in i.width (i.count + 1)) items ∙ ap (λ (n : ℕ). hashes_in i.width n (i.bytes.items ++ c.args.hash.now)) more
    ∙ hashes_in-push i.width i.count i.bytes.items c.args.hash.now fits c.self.invariant.long ∙ ap (λ (v : EqualHashes). v.hashes ++ c.args.hash.now ∷ []) c.self.view_is in
    λ j. record { width = ap (λ (v : EqualHashes). v.width) c.self.view_is j; hashes = pushed j }
