use Rattle.std.proofs.Common.{◌≡◌, ◌*◌, ◌<◌, ◌++◌, length, take, drop, vec_len, sym, ap, ◌∙◌, arith}
use Rattle.std.specs.Prelude.{slice_set}
use Rattle.std.specs.Vec.{with_items}
use Rattle.std.proofs.lemmas.List.{with_items_is}
use Rattle.mls_tree.specs.HashListsInternal.{hashes_in}
use Rattle.mls_tree.proofs.HashRows.{length-hashes_in, hashes_in-put, within}
use Rattle.mls_tree.proofs.hash_list.HashList.put.Goals as goal

pub put_part-requires : goal.put_part-requires
put_part-requires c =
    let i = c.self.inside in
    let lt : c.args.slot < i.count = omega (arith, c.requires.slot, ap (λ v. length v.hashes) c.self.view_is, length-hashes_in i.width i.count i.bytes.items) in
    omega (arith, within i.width i.count c.args.slot lt, c.self.invariant.long, ap length c.as_mut_slice.ensures.value, ap length c.as_slice.ensures.bytes, c.requires.width, ap (λ v. v.width) c.self.view_is)

pub invariant_of-self : goal.invariant_of-self
invariant_of-self c =
    let i = c.self.inside in
    let long : length c.put_part.new.bytes ≡ vec_len i.bytes = c.put_part.auto.bytes ∙ c.as_mut_slice.ensures.len in
    record {
      short = c.self.invariant.short;
      long = ap length (with_items_is i.bytes c.put_part.new.bytes long) ∙ c.put_part.auto.bytes ∙ ap length c.as_mut_slice.ensures.value ∙ c.self.invariant.long;
    }

pub returns : goal.returns
returns c =
    let i = c.self.inside in
    let lt : c.args.slot < i.count = omega (arith, c.requires.slot, ap (λ v. length v.hashes) c.self.view_is, length-hashes_in i.width i.count i.bytes.items) in
    let long : length c.put_part.new.bytes ≡ vec_len i.bytes = c.put_part.auto.bytes ∙ c.as_mut_slice.ensures.len in
    let fits : length c.args.hash.now ≡ i.width = c.requires.width ∙ sym (ap (λ v. v.width) c.self.view_is) in
    let start = c.args.slot * i.width in
    let written : (with_items i.bytes c.put_part.new.bytes).items ≡ take start i.bytes.items ++ (c.args.hash.now ++ drop i.width (drop start i.bytes.items)) =
    with_items_is i.bytes c.put_part.new.bytes long ∙ c.put_part.ensures
    ∙ ap (λ xs. take start xs ++ (c.as_slice.result.now ++ drop (length c.as_slice.result.now) (drop start xs))) c.as_mut_slice.ensures.value
    ∙ ap (λ ys. take start i.bytes.items ++ (ys ++ drop (length ys) (drop start i.bytes.items))) c.as_slice.ensures.bytes
    ∙ ap (λ n. take start i.bytes.items ++ (c.args.hash.now ++ drop n (drop start i.bytes.items))) fits in
    let put = ap (hashes_in i.width i.count) written ∙ hashes_in-put i.width i.count i.bytes.items c.args.slot c.args.hash.now lt fits c.self.invariant.long
    ∙ ap (λ v. slice_set v.hashes c.args.slot c.args.hash.now) c.self.view_is in
    λ j. record { width = ap (λ v. v.width) c.self.view_is j; hashes = put j }
