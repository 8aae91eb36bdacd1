use Rattle.std.proofs.Common.{◌≡◌, ◌+◌, ◌*◌, ◌-◌, ◌<◌, length, take, drop, Some, sym, ap, ◌∙◌, arith}
use Rattle.std.specs.Prelude.{slice_get}
use Rattle.std.proofs.lemmas.List.{length-take}
use Rattle.mls_tree.proofs.HashRows.{length-hashes_in, slice_get-hashes_in, within}
use Rattle.mls_tree.proofs.hash_list.HashList.at.Goals as goal

pub part-requires : goal.part-requires
part-requires c =
    let i = c.self.inside in
    let lt : c.args.slot < i.count = omega (arith, c.requires, ap (λ v. length v.hashes) c.self.view_is, length-hashes_in i.width i.count i.bytes.items) in
    record {
      order = omega arith;
      inside = omega (arith, within i.width i.count c.args.slot lt, c.self.invariant.long, ap length c.as_slice.ensures.value);
    }

pub value_of-requires : goal.value_of-requires
value_of-requires c =
    let cut = ap length c.part.ensures in
    omega (arith, cut, length-take (c.args.slot * c.self.inside.width + c.self.inside.width - c.args.slot * c.self.inside.width) (drop (c.args.slot * c.self.inside.width) c.as_slice.result.now), c.self.invariant.short)

pub returns : goal.returns
returns c =
    let i = c.self.inside in
    let start = c.args.slot * i.width in
    let lt : c.args.slot < i.count = omega (arith, c.requires, ap (λ v. length v.hashes) c.self.view_is, length-hashes_in i.width i.count i.bytes.items) in
    let cut : i.width ≡ start + i.width - start = omega arith in
    let read : take i.width (drop start i.bytes.items) ≡ c.value_of.result =
    ap (λ n. take n (drop start i.bytes.items)) cut ∙ ap (λ xs. take (start + i.width - start) (drop start xs)) (sym c.as_slice.ensures.value)
    ∙ sym c.part.ensures ∙ sym c.value_of.ensures in
    ap (λ v. slice_get v.hashes c.args.slot) (sym c.self.view_is) ∙ slice_get-hashes_in i.width i.count i.bytes.items c.args.slot lt ∙ ap (λ x. Some x) read
